use mathlib.Core.Path.{refl}
use Rattle.book_laws.proofs.FileLaws.{end-unsound, end-cut, end_whole}
use Rattle.book_report.proofs.field_end.Goals as goal

pub returns-in_default : goal.returns-in_default
returns-in_default c =
    let a = c.args in
    end-unsound a.file.now a.at _ c.in_default.ensures.value refl

pub returns-then-room-size : goal.returns-then-room-size
returns-then-room-size c =
    let a = c.args in
    end-cut a.file.now a.at _ c.in-Some.ensures.value refl c.if-room-size.true

pub returns : goal.returns
returns c =
    let a = c.args in
    end_whole a.file.now a.at _ c.in-Some.ensures.value refl c.if-room-size.false
