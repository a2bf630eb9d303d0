use mathlib.Core.Path.{◌∙◌, ap}
use Prim.Native.Nat.{ℕ}
use lib.ListN.{length}
use Rattle.price_laws.specs.Strips.{strip_answer, kind_price, each_with}
use Rattle.pricing.proofs.bounded_strip_of_kind.Goals as goal

pub returns : goal.returns
returns c =
    let a = c.args in
    c.strip_of_kind.ensures
    ∙ ap (λ (e : ℕ). strip_answer a.tree.steps a.tree.reversion (length a.strikes.now)
    (each_with e (kind_price a.tree.steps a.tree.reversion a.discounts.now a.flows.now a.kind a.expiry a.strikes.now)))
    c.known_bound-bound.ensures.bound
