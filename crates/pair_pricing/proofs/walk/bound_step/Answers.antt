use native.Mathlib.Omega.{arith}
use Rattle.pair_laws.proofs.WalkStates.{bound-product, bound-fits, bound-from}
use Rattle.pair_pricing.proofs.walk.bound_step.Goals as goal

pub overflow_mul-result : goal.overflow_mul-result
overflow_mul-result c =
    let t = c.args.trees in
    omega (
      arith,
      bound-product t.steps t.rate t.spread c.args.rates.now c.args.spreads.now c.requires.0 c.args.row _ _
          c.args.later c.requires.1 c.greatest_discount-rate.ensures c.greatest_discount-spread.ensures c.requires.2,
    )

pub overflow_mul-result-2 : goal.overflow_mul-result-2
overflow_mul-result-2 c =
    let t = c.args.trees in
    omega (
      arith,
      bound-fits t.steps t.rate t.spread c.args.rates.now c.args.spreads.now c.requires.0 c.args.row _ _
          c.args.later c.requires.1 c.greatest_discount-rate.ensures c.greatest_discount-spread.ensures c.requires.2,
    )

pub overflow_add-result : goal.overflow_add-result
overflow_add-result c =
    let t = c.args.trees in
    omega (
      arith,
      bound-fits t.steps t.rate t.spread c.args.rates.now c.args.spreads.now c.requires.0 c.args.row _ _
          c.args.later c.requires.1 c.greatest_discount-rate.ensures c.greatest_discount-spread.ensures c.requires.2,
    )

pub overflow_add-result-2 : goal.overflow_add-result-2
overflow_add-result-2 c =
    let t = c.args.trees in
    omega (
      arith,
      bound-fits t.steps t.rate t.spread c.args.rates.now c.args.spreads.now c.requires.0 c.args.row _ _
          c.args.later c.requires.1 c.greatest_discount-rate.ensures c.greatest_discount-spread.ensures c.requires.2,
    )

pub returns : goal.returns
returns c =
    let t = c.args.trees in
    bound-from t.steps t.rate t.spread c.args.rates.now c.args.spreads.now c.requires.0 c.args.row _ _
    c.args.later c.requires.1 c.greatest_discount-rate.ensures c.greatest_discount-spread.ensures c.requires.2
