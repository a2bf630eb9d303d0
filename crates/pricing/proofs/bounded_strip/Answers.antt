use mathlib.Core.Path.{◌∙◌, ap}
use Prim.Native.Nat.{ℕ}
use lib.ListN.{length}
use Rattle.price_laws.specs.Strips.{strip_answer, strike_price, each_with}
use Rattle.pricing.proofs.bounded_strip.Goals as goal

pub returns : goal.returns
returns c =
    let a = c.args in
    c.judged_strip.ensures
    ∙ ap (λ (e : ℕ). strip_answer a.tree.steps a.tree.reversion (length a.strikes.now)
    (each_with e (strike_price a.tree.steps a.tree.reversion a.discounts.now a.flows.now a.side a.dates.now a.strikes.now)))
    c.known_bound-bound.ensures.bound
