-- A price is its value with the tree's error bound, and the value is the same with any other.
-- Assumes nothing.
use mathlib.Core.Path.{◌≡◌, refl, sym, ap, ◌∙◌}
use mathlib.Core.List.{List}
use Prim.Native.Nat.{ℕ}
use borrow.Author.Tests.{eq-eqb, ne_eqb}
use Rattle.arithmetic.proofs.Numbers.{by_equal}
use Rattle.pricing_laws.specs.Pricer.{Side, Schedule}
use Rattle.price_bound.specs.PriceBound.{tree_error_bound}
use Rattle.price_laws.specs.declared.Price.{Price}
use Rattle.arithmetic.specs.Answers.{first_cause}
use Rattle.price_laws.specs.Prices.{tree_cause, refused_price, priced, value_alone, with_bound, both_values}
use Rattle.price_laws.specs.Prices.{bond_price, scheduled_price, option_price, dated_price, bond_and_option, bond_and_dated_option}
use Rattle.price_laws.specs.inside.Accepted.{both_with, accepted_bond, accepted_option}
use Rattle.price_laws.proofs.AnswerLaws.{priced-refused, refused-first, passed_first, both-are, values-are}
use Rattle.arithmetic.proofs.CauseLaws.{first-none}
use Rattle.arithmetic.proofs.Implied.{Implied, lastly, ◌▸◌}

-- ---- a price by its number

value-priced : (cause v e bound : ℕ) → value_alone (priced cause v e) ≡ value_alone (priced cause v bound)
unfolding priced
value-priced cause v e bound =
    by_equal cause 0
    (λ (z : cause ≡ 0). rw (eq-eqb cause 0 z))
    (λ (z : cause ≡ 0 → ⊥). rw (ne_eqb cause 0 z))

-- a value that takes another bound; a refusal stays as it is
given-bounded : (cause v e bound : ℕ) → cause ≡ 0 → with_bound (value_alone (priced cause v e)) bound ≡ priced cause v bound
unfolding priced
given-bounded cause v e bound z = rw (eq-eqb cause 0 z)

refused-bounded : (cause v e bound : ℕ) → (cause ≡ 0 → ⊥) → with_bound (value_alone (priced cause v e)) bound ≡ priced cause v bound
refused-bounded cause v e bound z =
    ap (λ (p : Price). with_bound (value_alone p) bound) (sym (priced-refused cause cause v e refl z))
    ∙ sym (priced-refused cause cause 0 bound refl z)
    ∙ priced-refused cause cause v bound refl z

pub value-bounded : (cause v e bound : ℕ) → with_bound (value_alone (priced cause v e)) bound ≡ priced cause v bound
value-bounded cause v e bound = by_equal cause 0 (given-bounded cause v e bound) (refused-bounded cause v e bound)

-- a refusal has no bound
pub priced-alike : (cause v e bound : ℕ) → (cause ≡ 0 → e ≡ bound) → priced cause v e ≡ priced cause v bound
unfolding priced
priced-alike cause v e bound h =
    by_equal cause 0
    (λ (z : cause ≡ 0). rw (eq-eqb cause 0 z, h z))
    (λ (z : cause ≡ 0 → ⊥). rw (ne_eqb cause 0 z))

-- ---- by what was found: prices with an error bound e

module _ {n b : ℕ} {discounts flows : List ℕ} {e : ℕ} (_ : Implied (n ▸ b ▸ discounts ▸ flows ▸ lastly e)) where
  pub bond-refused : {c : ℕ} → c ≡ tree_cause n b discounts flows → (c ≡ 0 → ⊥) → refused_price c ≡ with_bound (value_alone (bond_price n b discounts flows)) e
  unfolding bond_price
  bond-refused h z = refused-first _ _ e h z ∙ sym (value-bounded _ _ _ e)

  pub bond-passed : tree_cause n b discounts flows ≡ 0 → {p : Price} → p ≡ accepted_bond n b discounts flows e →
      p ≡ with_bound (value_alone (bond_price n b discounts flows)) e
  unfolding bond_price
  bond-passed z ep = ep ∙ passed_first _ _ _ e z ∙ sym (value-bounded _ _ _ e)

module _ {n b : ℕ} {discounts flows : List ℕ} {e : ℕ} {side : Side} {strike : ℕ} {rows : Schedule} {cause : ℕ}
    (_ : Implied (n ▸ b ▸ discounts ▸ flows ▸ e ▸ side ▸ strike ▸ rows ▸ lastly cause)) where
  pub option-refused : {c : ℕ} → c ≡ tree_cause n b discounts flows → (c ≡ 0 → ⊥) →
      refused_price c ≡ with_bound (value_alone (scheduled_price n b discounts flows side strike rows cause)) e
  option-refused h z = refused-first _ _ e h z ∙ sym (value-bounded _ _ _ e)

  module _ (z : tree_cause n b discounts flows ≡ 0) where
    pub option-cause : (cause ≡ 0 → ⊥) → refused_price cause ≡ with_bound (value_alone (scheduled_price n b discounts flows side strike rows cause)) e
    option-cause nz = refused-first _ _ e refl nz ∙ passed_first _ _ _ e z ∙ sym (value-bounded _ _ _ e)

    pub option-passed : cause ≡ 0 → {p : Price} → p ≡ accepted_option n b discounts flows side strike rows e →
        p ≡ with_bound (value_alone (scheduled_price n b discounts flows side strike rows cause)) e
    option-passed none ep = ep ∙ passed_first _ _ _ e none ∙ passed_first _ _ _ e z ∙ sym (value-bounded _ _ _ e)

-- ---- the value with the tree's error bound is the price; with any bound it is the value again

module _ {n b : ℕ} {discounts flows : List ℕ} (_ : Implied (n ▸ b ▸ discounts ▸ lastly flows)) where
  pub bond-value-again : (e : ℕ) → value_alone (with_bound (value_alone (bond_price n b discounts flows)) e) ≡ value_alone (bond_price n b discounts flows)
  unfolding bond_price
  bond-value-again e = ap value_alone (value-bounded _ _ _ e) ∙ value-priced _ _ _ _

  pub option-value-again : (kind expiry strike e : ℕ) →
      value_alone (with_bound (value_alone (option_price n b discounts flows kind expiry strike)) e)
      ≡ value_alone (option_price n b discounts flows kind expiry strike)
  unfolding option_price
  option-value-again kind expiry strike e = ap value_alone (value-bounded _ _ _ e) ∙ value-priced _ _ _ _

  pub dated-value-again : (side : ℕ) (dates : List ℕ) (strike e : ℕ) →
      value_alone (with_bound (value_alone (dated_price n b discounts flows side dates strike)) e)
      ≡ value_alone (dated_price n b discounts flows side dates strike)
  unfolding dated_price
  dated-value-again side dates strike e = ap value_alone (value-bounded _ _ _ e) ∙ value-priced _ _ _ _

  -- so of the pair
  pub kind-values-again : (kind expiry strike e : ℕ) →
      both_values (both_with (both_values (bond_and_option n b discounts flows kind expiry strike)) e)
      ≡ both_values (bond_and_option n b discounts flows kind expiry strike)
  kind-values-again kind expiry strike e = values-are _ _ _ (bond-value-again e) (option-value-again kind expiry strike e)

  pub dates-values-again : (side : ℕ) (dates : List ℕ) (strike e : ℕ) →
      both_values (both_with (both_values (bond_and_dated_option n b discounts flows side dates strike)) e)
      ≡ both_values (bond_and_dated_option n b discounts flows side dates strike)
  dates-values-again side dates strike e = values-are _ _ _ (bond-value-again e) (dated-value-again side dates strike e)

  -- a bound that is the tree's where the tree has no cause
  module _ {e : ℕ} (he : tree_cause n b discounts flows ≡ 0 → e ≡ tree_error_bound n b discounts) where
    whole : (later v : ℕ) →
        with_bound (value_alone (priced (first_cause (tree_cause n b discounts flows) later) v (tree_error_bound n b discounts))) e
        ≡ priced (first_cause (tree_cause n b discounts flows) later) v (tree_error_bound n b discounts)
    whole later v = value-bounded _ _ _ e ∙ priced-alike _ _ e _ (λ z. he (first-none _ _ z).0)

    pub bond-whole : with_bound (value_alone (bond_price n b discounts flows)) e ≡ bond_price n b discounts flows
    unfolding bond_price
    bond-whole = whole _ _

    pub option-whole : (kind expiry strike : ℕ) →
        with_bound (value_alone (option_price n b discounts flows kind expiry strike)) e ≡ option_price n b discounts flows kind expiry strike
    unfolding option_price
    option-whole kind expiry strike = whole _ _

    pub dated-whole : (side : ℕ) (dates : List ℕ) (strike : ℕ) →
        with_bound (value_alone (dated_price n b discounts flows side dates strike)) e ≡ dated_price n b discounts flows side dates strike
    unfolding dated_price
    dated-whole side dates strike = whole _ _

    -- so of the pair
    pub kind-whole : (kind expiry strike : ℕ) →
        both_with (both_values (bond_and_option n b discounts flows kind expiry strike)) e ≡ bond_and_option n b discounts flows kind expiry strike
    kind-whole kind expiry strike = both-are _ _ _ bond-whole (option-whole kind expiry strike)

    pub dates-whole : (side : ℕ) (dates : List ℕ) (strike : ℕ) →
        both_with (both_values (bond_and_dated_option n b discounts flows side dates strike)) e ≡ bond_and_dated_option n b discounts flows side dates strike
    dates-whole side dates strike = both-are _ _ _ bond-whole (dated-whole side dates strike)
