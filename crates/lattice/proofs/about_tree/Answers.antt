use Rattle.std.proofs.Common.{sym}
use Rattle.std.proofs.lemmas.Result.{err_from_is_err_and}
use Rattle.arithmetic.proofs.RefusalLaws.{refusal-some}
use Rattle.lattice.proofs.EntryLaws.{tree-refused, tree-answered}
use Rattle.lattice.proofs.about_tree.Goals as goal

pub returns-in_err-shape_cause : goal.returns-in_err-shape_cause
returns-in_err-shape_cause c =
    let p = err_from_is_err_and c.from_residual.result c.from_residual.ensures.1 in
    rw (p.1, p.2) (sym (tree-refused _ _ _ _ c.in_err-shape_cause.ensures (refusal-some _)))

pub returns : goal.returns
returns c = sym (tree-answered _ _ _ (sym c.in_ok-shape_cause.ensures))
