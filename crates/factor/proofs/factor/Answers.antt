use Rattle.std.proofs.lemmas.Result.{err_from_is_err_and}
use Rattle.factor.proofs.FactorLaws.{refused-of-both, below-of-both, above-of-both}
use Rattle.factor.proofs.factor.Goals as goal

pub returns-in_err-sides : goal.returns-in_err-sides
returns-in_err-sides c =
    let p = err_from_is_err_and c.from_residual.result c.from_residual.ensures.1 in
    rw (p.1, p.2) (refused-of-both _ _ c.args.below _ c.in_err-sides.ensures)

pub returns-then-below : goal.returns-then-below
returns-then-below c = rw c.if-below.true (below-of-both _ _ _ c.in_ok-sides.ensures)

pub returns : goal.returns
returns c = rw c.if-below.false (above-of-both _ _ _ c.in_ok-sides.ensures)
