use native.Mathlib.Omega.{arith}
use mathlib.Core.Path.{sym}
use Rattle.job_record.proofs.Options.{field-kind, field-list, field-none}
use Rattle.writer_laws.proofs.PutLaws.{place_none}
use Rattle.writer_laws.proofs.SizeLaws.{kind-size, list-size, dates-lent}
use Rattle.job_writer.proofs.put_option.Goals as goal

pub put_kind-requires : goal.put_kind-requires
put_kind-requires c = omega (arith, kind-size c.args.option c.if-option-eq8.true)

pub returns-then-option-eq8 : goal.returns-then-option-eq8
returns-then-option-eq8 c =
    rw (field-kind c.args.option c.if-option-eq8.true) c.put_kind.ensures

pub slice_bounds-put_list-end : goal.slice_bounds-put_list-end
slice_bounds-put_list-end c = sym (dates-lent _ c.requires.0)

pub put_list-requires : goal.put_list-requires
put_list-requires c =
    let option = c.args.option in
    let sound = c.requires.0 in
    omega (arith, dates-lent option sound, list-size option sound c.if-option-eq8.false c.if-option-eq10.true)

pub returns-then-option-eq10 : goal.returns-then-option-eq10
returns-then-option-eq10 c =
    rw (field-list c.args.option c.if-option-eq8.false c.if-option-eq10.true) c.put_list.ensures

pub returns-else-option-eq10 : goal.returns-else-option-eq10
returns-else-option-eq10 c = rw (field-none c.args.option c.if-option-eq8.false c.if-option-eq10.false) (sym (place_none _ _))
