use native.Mathlib.Omega.{arith}
use mathlib.Core.Path.{◌∙◌}
use lib.ListN.{length-take}
use Rattle.job_record.proofs.Answers.{passed, failed}
use Rattle.writer_laws.proofs.ColumnTests.{column-fails, column-by-rest}
use Rattle.job_soundness.proofs.is_column.Goals as goal

pub slice_bounds-all_between-end : goal.slice_bounds-all_between-end
slice_bounds-all_between-end c = simp length-take (omega arith)

pub returns-then-not-all_between : goal.returns-then-not-all_between
returns-then-not-all_between c =
    let a = c.args in
    column-fails a.column.now a.count a.most (failed c.all_between.ensures c.if-not-all_between.true)

pub returns : goal.returns
returns c =
    let a = c.args in
    c.all_between-2.ensures
    ∙ column-by-rest a.column.now a.count a.most (passed c.all_between.ensures c.if-not-all_between.false)
