-- The entries' answers by what was found: a cause about the tree, a cause about the option, a value above the limit, or the price.
-- Assumes nothing.
use mathlib.Core.Path.{◌≡◌, refl, sym, ap₂, fun_ext, ◌∙◌}
use mathlib.Core.List.{List}
use Prim.Native.Nat.{ℕ, ◌≤◌, max}
use borrow.Author.Tests.{eq-eqb, ne_eqb}
use Rattle.arithmetic.specs.declared.Answer.{Answer}
use Rattle.arithmetic.proofs.Numbers.{by_equal}
use Rattle.limits.specs.Limits.{most_steps, limit_cause}
use Rattle.lattice.specs.RateTree.{rate_tree}
use Rattle.lent_tree.specs.LentTree.{stored}
use Rattle.pricing_laws.specs.Pricer.{Side, Schedule}
use Rattle.pricing_laws.specs.Schedule.{last_date, dated_schedule}
use Rattle.pricing_laws.specs.inside.Marks.{marked}
use Rattle.pricing_laws.specs.TreePricer.{engine}
use Rattle.pricing_laws.specs.Peak.{peak, greatest_value}
use Rattle.pricing_laws.proofs.Schedules.{Alike, option-alike}
use Rattle.exercise_dates.specs.Dates.{marks_of}
use Rattle.exercise_dates.proofs.DateLaws.{dates-alike}
use Rattle.price_laws.specs.declared.Price.{Price}
use Rattle.price_laws.specs.declared.BondAndOption.{BondAndOption}
use Rattle.price_laws.specs.declared.BondAndOptionValues.{BondAndOptionValues}
use Rattle.arithmetic.specs.Answers.{first_cause}
use Rattle.arithmetic.proofs.Implied.{Implied, lastly, ◌▸◌}
use Rattle.price_laws.specs.Prices.{flow_at, tree_cause, refused_price, priced, bond_peak, option_value, option_peak, option_limit, scheduled_price}
use Rattle.price_laws.specs.inside.Accepted.{accepted_option}

-- a refusal and a price, by the number
pub priced-refused : (number cause v e : ℕ) → number ≡ cause → (number ≡ 0 → ⊥) → refused_price number ≡ priced cause v e
unfolding priced
priced-refused number cause v e h z = rw (← h, ne_eqb number 0 z)

pub priced-given :
    (number cause v e v' : ℕ) → number ≡ cause → number ≡ 0 → v' ≡ v →
    ◌≡◌ {A = Price} (record { number = 0; value = v'; bound = e }) (priced cause v e)
unfolding priced
priced-given number cause v e v' h z hv = rw (← h, z, hv)

-- a cause that comes first is given; where there is none, the later one counts
pub refused-first : {c cause : ℕ} (later v e : ℕ) → c ≡ cause → (c ≡ 0 → ⊥) → refused_price c ≡ priced (first_cause cause later) v e
unfolding first_cause priced
refused-first {c} later v e h z = rw (← h, ne_eqb c 0 z, ne_eqb c 0 z)

pub passed_first : (cause later v e : ℕ) → cause ≡ 0 → priced later v e ≡ priced (first_cause cause later) v e
unfolding first_cause
passed_first cause later v e z = rw (eq-eqb cause 0 z)

module _ (n b : ℕ) (discounts flows : List ℕ) where
  -- schedules that are alike give one answer
  module _ (side : Side) (strike : ℕ) (rows other : Schedule) (same : Alike rows other) where
    same-values : option_value n b discounts flows side strike rows ≡ option_value n b discounts flows side strike other
    unfolding option_value
    same-values =
        fun_ext (λ i. option-alike (engine (rate_tree b) (stored b discounts)) (flow_at flows) n side strike rows other same i)

    same-peak : option_peak n b discounts flows side strike rows ≡ option_peak n b discounts flows side strike other
    unfolding option_peak
    same-peak = ap₂ (λ (v : ℕ → ℕ → ℕ) (l : ℕ). peak (greatest_value (rate_tree b) v) l 0) same-values same.last

    pub option-alike-price : (e : ℕ) → accepted_option n b discounts flows side strike rows e ≡ accepted_option n b discounts flows side strike other e
    unfolding option_limit
    option-alike-price e =
        ap₂ (λ (p : ℕ) (v : ℕ → ℕ → ℕ). priced (limit_cause (max (bond_peak n b discounts flows) p)) (v 0 0) e) same-peak same-values

  -- from the marks that the code works with
  pub marked-price :
      {side : Side} {strike last : ℕ} {marks dates : List ℕ} {e : ℕ} {p : Price} → Implied (side ▸ strike ▸ dates ▸ lastly e) →
      last_date dates ≤ most_steps → last ≡ last_date dates →
      marks ≡ marks_of dates → p ≡ accepted_option n b discounts flows side strike (marked last marks) e →
      p ≡ accepted_option n b discounts flows side strike (dated_schedule dates) e
  marked-price {side} {strike} {last} {marks} {dates} {e} _ few el em ep =
      ep
      ∙ ap₂ (λ (l : ℕ) (m : List ℕ). accepted_option n b discounts flows side strike (marked l m) e) el em
      ∙ option-alike-price side strike (marked (last_date dates) (marks_of dates)) (dated_schedule dates) (dates-alike dates few) e

  -- where a cause was found the rows do not matter
  module _ (side : Side) (strike : ℕ) (rows other : Schedule) (cause : ℕ) where
    cause-alike : tree_cause n b discounts flows ≡ 0 → (cause ≡ 0 → ⊥) →
        scheduled_price n b discounts flows side strike rows cause ≡ scheduled_price n b discounts flows side strike other cause
    cause-alike z nz =
        sym (refused-first _ _ _ refl nz ∙ passed_first _ _ _ _ z) ∙ refused-first _ _ _ refl nz ∙ passed_first _ _ _ _ z

    pub refused-alike : (tree_cause n b discounts flows ≡ 0 → cause ≡ 0 → ⊥) →
        scheduled_price n b discounts flows side strike rows cause ≡ scheduled_price n b discounts flows side strike other cause
    refused-alike found =
        by_equal (tree_cause n b discounts flows) 0
        (λ z. cause-alike z (found z))
        (λ nz. sym (refused-first _ _ _ refl nz) ∙ refused-first _ _ _ refl nz)

-- bond and option, each as it should be
pub both-are : (r : BondAndOption) (bond option : Price) → r.bond ≡ bond → r.option ≡ option → r ≡ record { bond = bond; option = option }
both-are r bond option eb eo = ap₂ {C = BondAndOption} (λ (x y : Price). record { bond = x; option = y }) eb eo

pub values-are : (r : BondAndOptionValues) (bond option : Answer) → r.bond ≡ bond → r.option ≡ option → r ≡ record { bond = bond; option = option }
values-are r bond option eb eo = ap₂ {C = BondAndOptionValues} (λ (x y : Answer). record { bond = x; option = y }) eb eo
