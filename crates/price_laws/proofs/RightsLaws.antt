-- More rights cost no less (document 02, request (v)), of the entries' answers.
-- Assumes nothing.
use mathlib.Core.Path.{◌≡◌, sym, ap, ◌∙◌}
use mathlib.Core.List.{List}
use Prim.Native.Nat.{ℕ, ◌+◌, ◌≤◌}
use native.Mathlib.Omega.{arith}
use Rattle.arithmetic.proofs.CauseLaws.{lowest-none, first-none}
use Rattle.lattice.specs.RateTree.{rate_tree}
use Rattle.lattice.proofs.RateTreeLaws.{rate-tree-sound}
use Rattle.lent_tree.specs.LentTree.{stored}
use Rattle.pricing_laws.specs.Schedule.{numbered_side, dates_cause, Contained, kind_side, kind_dates}
use Rattle.pricing_laws.specs.TreePricer.{engine}
use Rattle.pricing_laws.proofs.PriceLaws.{On, engine-monotone}
use Rattle.pricing_laws.proofs.MoreDates.{more-dates, european-in-american, american-side}
use Rattle.price_causes.specs.Causes.{option_cause, terms_cause}
use Rattle.price_causes.proofs.CheckLaws.{option-accepted, kind-known}
use Rattle.price_laws.specs.declared.Price.{Price}
use Rattle.price_laws.specs.Prices.{flow_at, option_value, option_price, dated_cause, dated_price}
use Rattle.price_laws.proofs.Accuracy.{tree_lent, option-given, dated-given}
use Rattle.price_laws.proofs.OptionLaws.{kind-is-list}

module _ (n b : ℕ) (discounts flows : List ℕ) where
  -- a list that was priced has no cause
  dates-passed : (side : ℕ) (dates : List ℕ) (strike : ℕ) → (dated_price n b discounts flows side dates strike).number ≡ 0 → dates_cause n dates ≡ 0
  unfolding dated_cause
  dates-passed side dates strike z =
      let causes = first-none _ _ (dated-given n b discounts flows side dates strike z).none in
      (lowest-none (terms_cause side strike) (dates_cause n dates) (first-none _ _ causes.1).0).1

  -- of one side and strike: if every row of one list is in another, the other's price is not lower
  pub dates-no-less : (side strike : ℕ) (few many : List ℕ) →
      (dated_price n b discounts flows side few strike).number ≡ 0 → (dated_price n b discounts flows side many strike).number ≡ 0 → Contained few many →
      (dated_price n b discounts flows side few strike).value ≤ (dated_price n b discounts flows side many strike).value
  unfolding option_value
  dates-no-less side strike few many zf zm c =
      let causes = first-none _ _ (dated-given n b discounts flows side few strike zf).none in
      let sound = rate-tree-sound b (tree_lent n b discounts flows causes.0).limits.reversion-within-limit in
      rw ((dated-given n b discounts flows side few strike zf).value, (dated-given n b discounts flows side many strike zm).value)
      (more-dates few many c (On (rate_tree b)) (engine (rate_tree b) (stored b discounts)) (engine-monotone (rate_tree b) sound (stored b discounts))
      (flow_at flows) n (numbered_side side) strike (dates-passed side few strike zf) (dates-passed side many strike zm) 0 (omega (arith, sound.root)))

  -- a kind that was priced is its list
  module _ (kind expiry strike : ℕ) (z : (option_price n b discounts flows kind expiry strike).number ≡ 0) where
    cause-none : option_cause n kind expiry strike ≡ 0
    cause-none = (first-none _ _ (first-none _ _ (option-given n b discounts flows kind expiry strike z).none).1).0

    pub kind-one-of-four : (1 ≤ kind) × (kind ≤ 4)
    kind-one-of-four = kind-known n kind expiry strike cause-none

    pub as-list : option_price n b discounts flows kind expiry strike ≡ dated_price n b discounts flows (kind_side kind) (kind_dates kind expiry) strike
    as-list =
        kind-is-list n b discounts flows kind expiry strike kind-one-of-four.0 kind-one-of-four.1
        (option-accepted n kind expiry strike cause-none).0

    list-number : (dated_price n b discounts flows (kind_side kind) (kind_dates kind expiry) strike).number ≡ 0
    list-number = sym (ap (λ (p : Price). p.number) as-list) ∙ z

    -- so a kind against any list of its side, either way
    module _ (dates : List ℕ) (zd : (dated_price n b discounts flows (kind_side kind) dates strike).number ≡ 0) where
      pub kind-no-more : Contained (kind_dates kind expiry) dates →
          (option_price n b discounts flows kind expiry strike).value ≤ (dated_price n b discounts flows (kind_side kind) dates strike).value
      kind-no-more c = rw as-list (dates-no-less (kind_side kind) strike (kind_dates kind expiry) dates list-number zd c)

      pub kind-no-less : Contained dates (kind_dates kind expiry) →
          (dated_price n b discounts flows (kind_side kind) dates strike).value ≤ (option_price n b discounts flows kind expiry strike).value
      kind-no-less c = rw as-list (dates-no-less (kind_side kind) strike dates (kind_dates kind expiry) zd list-number c)

  -- American against European of one side, strike and expiry
  pub american-no-less : (kind expiry strike : ℕ) →
      (option_price n b discounts flows kind expiry strike).number ≡ 0 → (option_price n b discounts flows (kind + 2) expiry strike).number ≡ 0 →
      (option_price n b discounts flows kind expiry strike).value ≤ (option_price n b discounts flows (kind + 2) expiry strike).value
  american-no-less kind expiry strike z za =
      let some = (kind-one-of-four kind expiry strike z).0 in
      let few : kind ≤ 2 = omega (arith, (kind-one-of-four (kind + 2) expiry strike za).1) in
      let american = as-list (kind + 2) expiry strike za in
      let side = american-side kind some few in
      let one_side = ap (λ (s : ℕ). dated_price n b discounts flows s (kind_dates (kind + 2) expiry) strike) side in
      let same = american ∙ one_side in
      rw same
      (kind-no-more kind expiry strike z (kind_dates (kind + 2) expiry) (sym (ap (λ (p : Price). p.number) same) ∙ za)
      (european-in-american kind expiry some few))
