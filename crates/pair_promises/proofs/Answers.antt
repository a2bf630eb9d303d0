use mathlib.Core.Path.{◌≡◌, refl}
use mathlib.Core.Bool.{Bool, true, false, cond}
use mathlib.Core.List.{List}
use Prim.Native.Nat.{ℕ, ◌*◌, ◌^◌, ◌≤◌}
use native.Mathlib.Omega.{arith}
use lib.Dec.{eqb}
use borrow.Author.Tests.{eqb-true, eqb-false}
use Rattle.arithmetic.specs.Within.{Within}
use Rattle.arithmetic.proofs.CauseLaws.{lowest-none, first-none}
use Rattle.limits.specs.Limits.{limit_cause}
use Rattle.lattice.specs.RateTree.{rate_tree}
use Rattle.lattice.proofs.RateTreeLaws.{rate-tree-sound}
use Rattle.lent_tree.specs.LentTree.{stored, Accepted}
use Rattle.pricing_laws.specs.Schedule.{numbered_side, dated_schedule, dates_cause, Contained}
use Rattle.pricing_laws.specs.TreePricer.{roll_rounding}
use Rattle.pricing_laws.proofs.Dates.{dates-accepted}
use Rattle.pricing_laws.proofs.MoreDates.{more-dates}
use Rattle.pricing_laws.proofs.PriceLaws.{Discounts-at-most, roll-rounds}
use Rattle.price_bound.proofs.BoundLaws.{discount-within}
use Rattle.price_causes.specs.Causes.{terms_cause}
use Rattle.price_laws.specs.declared.Price.{Price}
use Rattle.arithmetic.specs.Answers.{first_cause}
use Rattle.arithmetic.proofs.Implied.{implied}
use Rattle.price_laws.specs.Prices.{flow_at, priced, dated_cause}
use Rattle.price_laws.proofs.Accuracy.{Given}
use Rattle.pair_laws.specs.Pair.{at, Stands, pair_unit, combined}
use Rattle.pair_laws.specs.PairCauses.{pair_cause}
use Rattle.pair_laws.specs.PairPrices.{pricer_of, pair_bound, pair_bond_value, pair_bond_peak, exact_pair_bond}
use Rattle.pair_laws.specs.PairPrices.{pair_option_value, pair_option_limit, exact_pair_dated, pair_bond_price, pair_dated_price}
use Rattle.pair_laws.specs.inside.States.{AcceptedPair}
use Rattle.pair_laws.proofs.CauseLaws.{pair-accepted}
use Rattle.pair_laws.proofs.PairLaws.{pair-bond-accurate, pair-option-accurate, pair-bound-a-step, pair-monotone, pair-root}
use Rattle.pair_promises.specs.PairPromises.{NoPairAboveOne}

-- Prices on two trees that are not refused: what they are, and how far they stand from the exact ones.
-- Assumes nothing.

-- an answer with number 0 has the price, and no cause
given : (cause v e : ℕ) → (priced cause v e).number ≡ 0 → Given cause v e (priced cause v e)
unfolding priced
given cause v e h = go (eqb cause 0) refl h
  where
    go : (t : Bool) → eqb cause 0 ≡ t →
        (cond {A = Price} t (record { number = 0; value = v; bound = e }) (record { number = cause; value = 0; bound = 0 })).number ≡ 0 →
        Given cause v e (cond {A = Price} t (record { number = 0; value = v; bound = e }) (record { number = cause; value = 0; bound = 0 }))
    go true q z = record { none = eqb-true cause 0 q; value = refl; bound = refl }
    go false q z = absurd (eqb-false cause 0 q z)

-- a bound that is given or 0
bound-most : (cause v e most : ℕ) → e ≤ most → (priced cause v e).bound ≤ most
unfolding priced
bound-most cause v e most h = go (eqb cause 0)
  where
    go : (t : Bool) →
        (cond {A = Price} t (record { number = 0; value = v; bound = e }) (record { number = cause; value = 0; bound = 0 })).bound ≤ most
    go true = h
    go false = omega arith

lent-discounts : (n b : ℕ) (discounts : List ℕ) → Accepted n b discounts → Discounts-at-most 1100000000 (rate_tree b) (stored b discounts) n
unfolding rate_tree
lent-discounts n b discounts a i k hi hk = discount-within n b i hi discounts a k hk

module _ (n b : ℕ) (rates : List ℕ) (m c : ℕ) (spreads flows : List ℕ) where
  module _ (h : (pair_bond_price n b rates m c spreads flows).number ≡ 0) where
    pub bond-given :
        Given (first_cause (pair_cause n b rates m c spreads flows) (limit_cause (pair_bond_peak n b c rates spreads flows)))
        (pair_bond_value n b c rates spreads flows 0 (at 0 0)) (pair_bound n b c rates spreads) (pair_bond_price n b rates m c spreads flows)
    unfolding pair_bond_price
    bond-given = given _ _ _ h

    pub bond-within-bound :
        Within (pair_bond_price n b rates m c spreads flows).bound (pair_unit ^ n) (pair_bond_price n b rates m c spreads flows).value
        (exact_pair_bond n b c rates spreads flows)
    unfolding pair_bond_value pair_bound exact_pair_bond
    bond-within-bound =
        let a = pair-accepted implied (first-none _ _ bond-given.none).0 in
        let r = a.trees.rate-tree in
        let s = a.trees.spread-tree in
        rw (bond-given.value, bond-given.bound)
        (pair-bond-accurate (rate_tree b) (rate_tree c)
        (rate-tree-sound b r.limits.reversion-within-limit) (rate-tree-sound c s.limits.reversion-within-limit)
        (stored b rates) (stored c spreads) n (lent-discounts n b rates r) (lent-discounts n c spreads s) (flow_at flows))

  module _ (side : ℕ) (dates : List ℕ) (strike : ℕ) (h : (pair_dated_price n b rates m c spreads flows side dates strike).number ≡ 0) where
    pub dated-given :
        Given
        (first_cause (pair_cause n b rates m c spreads flows)
        (first_cause (dated_cause n side dates strike)
        (pair_option_limit n b c rates spreads flows (numbered_side side) strike (dated_schedule dates))))
        (pair_option_value n b c rates spreads flows (numbered_side side) strike (dated_schedule dates) 0 (at 0 0)) (pair_bound n b c rates spreads)
        (pair_dated_price n b rates m c spreads flows side dates strike)
    unfolding pair_dated_price
    dated-given = given _ _ _ h

    dated-accepted : AcceptedPair n b c rates spreads flows
    dated-accepted = pair-accepted implied (first-none _ _ dated-given.none).0

    dates-passed : dates_cause n dates ≡ 0
    unfolding dated_cause
    dates-passed =
        (lowest-none (terms_cause side strike) (dates_cause n dates) (first-none _ _ (first-none _ _ dated-given.none).1).0).1

    ends : (dated_schedule dates).last ≤ n
    unfolding dated_schedule
    ends = omega (arith, (dates-accepted n dates dates-passed).before-end)

    pub dated-within-bound :
        Within (pair_dated_price n b rates m c spreads flows side dates strike).bound (pair_unit ^ n)
        (pair_dated_price n b rates m c spreads flows side dates strike).value (exact_pair_dated n b c rates spreads flows side dates strike)
    unfolding pair_option_value pair_bound exact_pair_dated
    dated-within-bound =
        let r = dated-accepted.trees.rate-tree in
        let s = dated-accepted.trees.spread-tree in
        rw (dated-given.value, dated-given.bound)
        (pair-option-accurate (rate_tree b) (rate_tree c)
        (rate-tree-sound b r.limits.reversion-within-limit) (rate-tree-sound c s.limits.reversion-within-limit)
        (stored b rates) (stored c spreads) n (lent-discounts n b rates r) (lent-discounts n c spreads s) (flow_at flows)
        (numbered_side side) strike (dated_schedule dates) ends)

  -- if every row of one list is in another, the other's price is not lower
  pub dates-no-less : (side strike : ℕ) (few many : List ℕ) →
      (pair_dated_price n b rates m c spreads flows side few strike).number ≡ 0 →
      (pair_dated_price n b rates m c spreads flows side many strike).number ≡ 0 → Contained few many →
      (pair_dated_price n b rates m c spreads flows side few strike).value ≤ (pair_dated_price n b rates m c spreads flows side many strike).value
  unfolding pair_option_value
  dates-no-less side strike few many zf zm k =
      let a = dated-accepted side few strike zf in
      let r = a.trees.rate-tree in
      let s = a.trees.spread-tree in
      let sr = rate-tree-sound b r.limits.reversion-within-limit in
      let ss = rate-tree-sound c s.limits.reversion-within-limit in
      rw ((dated-given side few strike zf).value, (dated-given side many strike zm).value)
      (more-dates few many k (Stands (rate_tree b) (rate_tree c)) (pricer_of b c rates spreads)
      (pair-monotone roll_rounding _ _ roll-rounds (rate_tree b) (rate_tree c) sr ss (stored b rates) (stored c spreads)) (flow_at flows) n
      (numbered_side side) strike (dates-passed side few strike zf) (dates-passed side many strike zm) (at 0 0)
      (pair-root (rate_tree b) (rate_tree c) sr ss (stored b rates) (stored c spreads) n (lent-discounts n b rates r) (lent-discounts n c spreads s)))

  -- where no discount of a pair is above one, the bound is at most 2 a step
  module _ (low : NoPairAboveOne n b c rates spreads) where
    two-a-step : pair_bound n b c rates spreads ≤ 2 * n
    unfolding pair_bound combined rate_tree
    two-a-step =
        pair-bound-a-step (rate_tree b) (rate_tree c) (stored b rates) (stored c spreads) n
        (λ i k hi s. low i k.rate k.spread hi s.on-rates s.on-spreads)

    pub bond-bound-a-step : (pair_bond_price n b rates m c spreads flows).bound ≤ 2 * n
    unfolding pair_bond_price
    bond-bound-a-step = bound-most _ _ _ _ two-a-step

    pub dated-bound-a-step : (side : ℕ) (dates : List ℕ) (strike : ℕ) → (pair_dated_price n b rates m c spreads flows side dates strike).bound ≤ 2 * n
    unfolding pair_dated_price
    dated-bound-a-step side dates strike = bound-most _ _ _ _ two-a-step
