-- The entries' answers by what the code found.
-- Assumes nothing.
use mathlib.Core.Path.{◌≡◌, sym, ap₂, fun_ext, ◌∙◌}
use mathlib.Core.List.{List}
use Prim.Native.Nat.{ℕ, ◌≤◌, ◌<◌, max}
use native.Mathlib.Omega.{arith}
use borrow.Author.Tests.{eq-eqb, ne_eqb}
use Rattle.arithmetic.specs.Row.{values}
use Rattle.arithmetic.specs.Answers.{lowest_cause, first_cause}
use Rattle.arithmetic.proofs.CauseLaws.{lowest-none}
use Rattle.arithmetic.proofs.Implied.{Implied, implied, lastly, ◌▸◌}
use Rattle.limits.specs.Limits.{value_limit, limit_cause}
use Rattle.limits.proofs.LimitLaws.{limit-above, limit-kept}
use Rattle.pricing_laws.specs.Pricer.{Side, Schedule}
use Rattle.pricing_laws.specs.Schedule.{last_date, dated_schedule, numbered_side, dates_cause}
use Rattle.pricing_laws.specs.inside.Marks.{marked}
use Rattle.pricing_laws.proofs.Dates.{dates-accepted}
use Rattle.pricing_laws.proofs.Schedules.{Alike, option-alike}
use Rattle.exercise.specs.Terms.{side}
use Rattle.exercise.specs.declared.Terms.{Terms}
use Rattle.exercise_dates.specs.Dates.{marks_of, dated_terms}
use Rattle.exercise_dates.proofs.DateLaws.{dates-alike, marks-room, dated-side, dated-strike, dated-last}
use Rattle.price_causes.specs.Causes.{terms_cause}
use Rattle.price_causes.proofs.CheckLaws.{terms-accepted}
use Rattle.price_laws.specs.declared.Price.{Price}
use Rattle.price_laws.specs.Prices.{flow_at, refused_price, priced, dated_cause}
use Rattle.pricing.specs.inside.Trees.{Exercisable}
use Rattle.pair_laws.specs.Pair.{Pair, at}
use Rattle.pair_laws.specs.PairCauses.{pair_cause}
use Rattle.pair_laws.specs.PairPrices.{pricer_of, greatest_pair, pair_bound, pair_bond_peak, pair_option_value}
use Rattle.pair_laws.specs.PairPrices.{pair_option_peak, pair_option_limit, pair_bond_price, pair_dated_price}
use Rattle.pair_laws.specs.inside.Accepted.{accepted_pair_bond, accepted_pair_option}
use Rattle.pair_laws.specs.inside.States.{AcceptedPair, RolledBond, RolledBoth}
use Rattle.pair_laws.proofs.CauseLaws.{pair-accepted}
use Rattle.pair_laws.proofs.WalkStates.{bonds-value, bonds-peak, options-value, both-peak}
use Rattle.pricing_laws.specs.Peak.{peak}

-- 12, or the price
over-limit : (number top v e : ℕ) → (number ≡ 12) × (value_limit < top) → refused_price number ≡ priced (limit_cause top) v e
unfolding priced
over-limit number top v e h =
    let l : limit_cause top ≡ number = sym (limit-above top h.1) ∙ sym h.0 in
    rw (l, ne_eqb number 0 (λ z. omega (arith, h.0)))

within-limit :
    (top v v' e e' : ℕ) → top ≤ value_limit → v' ≡ v → e' ≡ e →
    ◌≡◌ {A = Price} (record { number = 0; value = v'; bound = e' }) (priced (limit_cause top) v e)
unfolding priced
within-limit top v v' e e' h ev ee =
    let l : limit_cause top ≡ 0 = sym (limit-kept top h) in
    rw (l, ev, ee)

module _ (n b c : ℕ) (rates spreads flows : List ℕ) (a : AcceptedPair n b c rates spreads flows) where
  -- the bond of accepted trees
  module _ (number : ℕ) (memory : List ℕ) (s : RolledBond n b c rates spreads flows 0 number memory) where
    pub bond-above : (number ≡ 0 → ⊥) → refused_price number ≡ accepted_pair_bond n b c rates spreads flows
    bond-above z = over-limit number _ _ _ (s.over z)

    pub bond-given :
        (e : ℕ) → number ≡ 0 → e ≡ pair_bound n b c rates spreads →
        ◌≡◌ {A = Price} (record { number = 0; value = values memory 0; bound = e }) (accepted_pair_bond n b c rates spreads flows)
    bond-given e z ee =
        within-limit _ _ _ _ e (bonds-peak n b c rates spreads flows a memory (s.held z)) (bonds-value n b c rates spreads flows a memory (s.held z)) ee

  -- the option of accepted trees
  module _ (side : Side) (strike : ℕ) (rows : Schedule) (number : ℕ) (bonds options : List ℕ)
      (s : RolledBoth n b c rates spreads flows side strike rows 0 number bonds options) where
    pub option-above : (number ≡ 0 → ⊥) → refused_price number ≡ accepted_pair_option n b c rates spreads flows side strike rows
    unfolding pair_option_limit
    option-above z = over-limit number _ _ _ (s.over z)

    pub option-given :
        (e : ℕ) → number ≡ 0 → e ≡ pair_bound n b c rates spreads →
        ◌≡◌ {A = Price} (record { number = 0; value = values options 0; bound = e }) (accepted_pair_option n b c rates spreads flows side strike rows)
    unfolding pair_option_limit
    option-given e z ee =
        within-limit _ _ _ _ e
        (both-peak n b c rates spreads flows a side strike rows bonds options (s.bonds-held z) (s.options-held z))
        (options-value n b c rates spreads flows a side strike rows options (s.options-held z)) ee

-- schedules that are alike give one answer
module _ (n b c : ℕ) (rates spreads flows : List ℕ) (side : Side) (strike : ℕ) (rows other : Schedule) (same : Alike rows other) where
  same-values : pair_option_value n b c rates spreads flows side strike rows ≡ pair_option_value n b c rates spreads flows side strike other
  unfolding pair_option_value
  same-values = fun_ext (λ i. option-alike (pricer_of b c rates spreads) (flow_at flows) n side strike rows other same i)

  same-peak : pair_option_peak n b c rates spreads flows side strike rows ≡ pair_option_peak n b c rates spreads flows side strike other
  unfolding pair_option_peak
  same-peak = ap₂ (λ (v : ℕ → Pair → ℕ) (l : ℕ). peak (λ i. greatest_pair b c i (v i)) l 0) same-values same.last

  alike-price : accepted_pair_option n b c rates spreads flows side strike rows ≡ accepted_pair_option n b c rates spreads flows side strike other
  unfolding pair_option_limit
  alike-price =
      ap₂ (λ (p : ℕ) (v : ℕ → Pair → ℕ). priced (limit_cause (max (pair_bond_peak n b c rates spreads flows) p)) (v 0 (at 0 0)) (pair_bound n b c rates spreads))
      same-peak same-values

-- ---- the entries, cause by cause

-- a cause that comes first is given; where there is none, the later one counts
refused-first : (k cause later v e : ℕ) → k ≡ cause → (k ≡ 0 → ⊥) → refused_price k ≡ priced (first_cause cause later) v e
unfolding first_cause priced
refused-first k cause later v e h z = rw (← h, ne_eqb k 0 z, ne_eqb k 0 z)

passed_first : (cause later v e : ℕ) → cause ≡ 0 → priced later v e ≡ priced (first_cause cause later) v e
unfolding first_cause
passed_first cause later v e z = rw (eq-eqb cause 0 z)

pub entry-accepted : {n b : ℕ} {rates : List ℕ} (m : ℕ) {c : ℕ} {spreads flows : List ℕ} {cause : ℕ} → cause ≡ pair_cause n b rates m c spreads flows →
    cause ≡ 0 → AcceptedPair n b c rates spreads flows
entry-accepted {n} {b} {rates} m {c} {spreads} {flows} ec z = pair-accepted implied (sym ec ∙ z)

module _ {n b : ℕ} {rates : List ℕ} {m c : ℕ} {spreads flows : List ℕ} {cause : ℕ} (_ : Implied (n ▸ b ▸ rates ▸ m ▸ c ▸ spreads ▸ lastly flows))
    (ec : cause ≡ pair_cause n b rates m c spreads flows) where
  pub bond-refused : {p : Price} → p ≡ refused_price cause → (cause ≡ 0 → ⊥) → p ≡ pair_bond_price n b rates m c spreads flows
  unfolding pair_bond_price
  bond-refused ep z = ep ∙ refused-first cause _ _ _ _ ec z

  pub bond-found : {p : Price} → cause ≡ 0 → p ≡ accepted_pair_bond n b c rates spreads flows → p ≡ pair_bond_price n b rates m c spreads flows
  unfolding pair_bond_price
  bond-found z ep = ep ∙ passed_first _ _ _ _ (sym ec ∙ z)

  module _ (number : ℕ) (dates : List ℕ) (strike : ℕ) where
    pub dated-refused : {p : Price} → p ≡ refused_price cause → (cause ≡ 0 → ⊥) → p ≡ pair_dated_price n b rates m c spreads flows number dates strike
    unfolding pair_dated_price
    dated-refused ep z = ep ∙ refused-first cause _ _ _ _ ec z

    module _ (z : cause ≡ 0) {terms-number dates-number other : ℕ} (et : terms-number ≡ terms_cause number strike)
        (ed : dates-number ≡ dates_cause n dates) (eo : other ≡ lowest_cause terms-number dates-number) where
      other-is : other ≡ dated_cause n number dates strike
      unfolding dated_cause
      other-is = eo ∙ ap₂ lowest_cause et ed

      pub terms-refused : {p : Price} → p ≡ refused_price other → (other ≡ 0 → ⊥) → p ≡ pair_dated_price n b rates m c spreads flows number dates strike
      unfolding pair_dated_price
      terms-refused ep nz = ep ∙ refused-first other _ _ _ _ other-is nz ∙ passed_first _ _ _ _ (sym ec ∙ z)

      module _ (none : other ≡ 0) {terms : Terms} {marks : List ℕ} (em : terms ≡ dated_terms number dates strike) (ek : marks ≡ marks_of dates) where
        causes : (terms_cause number strike ≡ 0) × (dates_cause n dates ≡ 0)
        unfolding dated_cause
        causes = lowest-none (terms_cause number strike) (dates_cause n dates) (sym other-is ∙ none)

        few : last_date dates < n
        few = (dates-accepted n dates causes.1).before-end

        steps : n ≤ 60
        steps = omega (arith, (entry-accepted m ec z).trees.few)

        pub exercisable : Exercisable terms n marks
        exercisable =
            record {
              last-inside = omega (arith, dated-last number dates strike terms em, few);
              marked-rows = omega (arith, dated-last number dates strike terms em, marks-room dates marks ek (omega (arith, few, steps)));
              strike-most = omega (arith, dated-strike number dates strike terms em, terms-accepted number strike causes.0);
            }

        pub dated-found :
            {p : Price} → p ≡ accepted_pair_option n b c rates spreads flows (side terms.call) terms.strike (marked terms.last marks) →
            p ≡ pair_dated_price n b rates m c spreads flows number dates strike
        unfolding pair_dated_price
        dated-found ep =
            ep
            ∙ ap₂ (λ (x : Side) (y : ℕ). accepted_pair_option n b c rates spreads flows x y (marked terms.last marks))
            (dated-side number dates strike terms em) (dated-strike number dates strike terms em)
            ∙ ap₂ (λ (l : ℕ) (k : List ℕ). accepted_pair_option n b c rates spreads flows (numbered_side number) strike (marked l k))
            (dated-last number dates strike terms em) ek
            ∙ alike-price n b c rates spreads flows (numbered_side number) strike (marked (last_date dates) (marks_of dates)) (dated_schedule dates)
            (dates-alike dates (omega (arith, few, steps)))
            ∙ passed_first _ _ _ _ (sym other-is ∙ none)
            ∙ passed_first _ _ _ _ (sym ec ∙ z)
