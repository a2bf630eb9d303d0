use Rattle.std.proofs.Common.{arith}
use Rattle.pair_laws.proofs.WalkStates.{bound-first, bound-small, bound-next, bound-last}
use Rattle.pair_pricing.proofs.walk.error_bound.Goals as goal

pub loop-row-init : goal.loop-row-init
loop-row-init c =
    let t = c.args.trees in
    bound-first t.steps t.rate t.spread c.args.rates.now c.args.spreads.now c.requires

pub bound_step-bound-requires : goal.bound_step-bound-requires
bound_step-bound-requires c =
    let t = c.args.trees in
    let l = c.loop-row in (
      c.requires,
      omega arith,
      bound-small t.steps t.rate t.spread c.args.rates.now c.args.spreads.now c.requires l.row l.bound (omega arith) l.invariant,
    )

pub loop-row-preserved : goal.loop-row-preserved
loop-row-preserved c =
    let t = c.args.trees in
    let l = c.loop-row in
    bound-next t.steps t.rate t.spread c.args.rates.now c.args.spreads.now c.requires l.row l.bound _ c.loop-row-test.true (omega arith)
    l.invariant c.bound_step-bound.ensures

pub returns : goal.returns
returns c =
    let t = c.args.trees in
    let l = c.loop-row in
    bound-last t.steps t.rate t.spread c.args.rates.now c.args.spreads.now c.requires l.row l.bound (omega arith) l.invariant
