-- The kinds of option and the options on listed rows: what their entries hand on, and that a kind and its list are one option.
-- Assumes nothing.
use mathlib.Core.Path.{◌≡◌, sym, ap, ap₂, ◌∙◌}
use mathlib.Core.List.{List}
use Prim.Native.Nat.{ℕ, ◌≤◌, ◌<◌}
use native.Mathlib.Omega.{arith}
use lib.ListN.{take}
use Rattle.arithmetic.specs.Answers.{lowest_cause}
use Rattle.arithmetic.proofs.CauseLaws.{lowest-alone, lowest-none}
use Rattle.arithmetic.proofs.Numbers.{by_order}
use Rattle.limits.specs.Limits.{most_steps}
use Rattle.pricing_laws.specs.Pricer.{Side}
use Rattle.pricing_laws.specs.Schedule.{last_date, dated_schedule, dates_cause, numbered_side, side_of, kind_dates, kind_side, schedule_of}
use Rattle.pricing_laws.proofs.Dates.{dates-accepted, kind-accepted, kind-side, kind-side-number}
use Rattle.exercise.specs.declared.Terms.{Terms}
use Rattle.exercise.specs.Terms.{side, terms_of}
use Rattle.exercise.proofs.KindLaws.{side-found, strike-found}
use Rattle.exercise_dates.specs.declared.Dates.{Dates}
use Rattle.exercise_dates.specs.Dates.{dated_terms, dates_of_kind}
use Rattle.exercise_dates.proofs.DateLaws.{kind-list, dated-side, dated-strike}
use Rattle.price_causes.specs.Causes.{option_cause, terms_cause}
use Rattle.price_causes.proofs.CheckLaws.{option-accepted, kind-terms}
use Rattle.price_laws.specs.declared.Price.{Price}
use Rattle.price_laws.specs.declared.BondAndOption.{BondAndOption}
use Rattle.price_laws.specs.Prices.{tree_cause, value_alone, with_bound, both_values, bond_price, scheduled_price}
use Rattle.price_laws.specs.Prices.{option_price, bond_and_option, dated_cause, dated_price, bond_and_dated_option}
use Rattle.price_laws.specs.inside.Accepted.{both_with}
use Rattle.price_laws.proofs.Accuracy.{tree_lent}
use Rattle.price_laws.proofs.AnswerLaws.{refused-alike, both-are}

-- ---- a kind

module _ (n kind expiry strike : ℕ) {cause : ℕ} (ec : cause ≡ option_cause n kind expiry strike) (terms : Terms) (et : terms ≡ terms_of kind expiry strike)
    (dates : Dates) (ed : dates ≡ dates_of_kind kind expiry) where
  abbrev handed : List ℕ
  handed = take dates.count dates.rows

  -- an expiry that no tree has is a cause
  expiry-judged : (b : ℕ) (discounts flows : List ℕ) → most_steps < expiry → tree_cause n b discounts flows ≡ 0 → cause ≡ 0 → ⊥
  expiry-judged b discounts flows many z none =
      omega (arith, (tree_lent n b discounts flows z).limits.steps-within-limit, (option-accepted n kind expiry strike (sym ec ∙ none)).0)

  same_rows : (b : ℕ) (discounts flows : List ℕ) →
      scheduled_price n b discounts flows (side_of kind) strike (dated_schedule handed) cause
      ≡ scheduled_price n b discounts flows (side_of kind) strike (schedule_of kind expiry) cause
  unfolding schedule_of
  same_rows b discounts flows =
      by_order expiry most_steps
      (λ few. ap (λ (l : List ℕ). scheduled_price n b discounts flows (side_of kind) strike (dated_schedule l) cause) (kind-list kind expiry few dates ed))
      (λ many.
      refused-alike n b discounts flows (side_of kind) strike (dated_schedule handed) (dated_schedule (kind_dates kind expiry)) cause
      (expiry-judged b discounts flows many))

  kind-price : (b : ℕ) (discounts flows : List ℕ) →
      scheduled_price n b discounts flows (side terms.call) terms.strike (dated_schedule handed) cause
      ≡ option_price n b discounts flows kind expiry strike
  unfolding option_price
  kind-price b discounts flows =
      ap₂ (λ (s : Side) (x : ℕ). scheduled_price n b discounts flows s x (dated_schedule handed) cause)
      (side-found kind expiry strike terms et) (strike-found kind expiry strike terms et)
      ∙ same_rows b discounts flows
      ∙ ap (scheduled_price n b discounts flows (side_of kind) strike (schedule_of kind expiry)) ec

  -- bond and option as the code has them, with an error bound e
  pub kind-both : (b : ℕ) (discounts flows : List ℕ) (e : ℕ) {r : BondAndOption} → r.bond ≡ with_bound (value_alone (bond_price n b discounts flows)) e →
      r.option ≡ with_bound (value_alone (scheduled_price n b discounts flows (side terms.call) terms.strike (dated_schedule handed) cause)) e →
      r ≡ both_with (both_values (bond_and_option n b discounts flows kind expiry strike)) e
  kind-both b discounts flows e {r} eb eo =
      both-are r _ _ eb (eo ∙ ap (λ (p : Price). with_bound (value_alone p) e) (kind-price b discounts flows))

-- ---- an option on listed rows

pub dated-accepted : (n number : ℕ) (dates : List ℕ) (strike : ℕ) → dated_cause n number dates strike ≡ 0 →
    (last_date dates < n) × (terms_cause number strike ≡ 0)
unfolding dated_cause
dated-accepted n number dates strike z =
    let parts = lowest-none (terms_cause number strike) (dates_cause n dates) z in
    ((dates-accepted n dates parts.1).before-end, parts.0)

module _ (n number : ℕ) (dates : List ℕ) (strike : ℕ) {cause : ℕ} (ec : cause ≡ dated_cause n number dates strike) (terms : Terms)
    (et : terms ≡ dated_terms number dates strike) where
  pub dated-price : (b : ℕ) (discounts flows : List ℕ) →
      scheduled_price n b discounts flows (side terms.call) terms.strike (dated_schedule dates) cause ≡ dated_price n b discounts flows number dates strike
  unfolding dated_price
  dated-price b discounts flows =
      ap₂ (λ (s : Side) (x : ℕ). scheduled_price n b discounts flows s x (dated_schedule dates) cause)
      (dated-side number dates strike terms et) (dated-strike number dates strike terms et)
      ∙ ap (scheduled_price n b discounts flows (numbered_side number) strike (dated_schedule dates)) ec

  pub dates-both : (b : ℕ) (discounts flows : List ℕ) (e : ℕ) {r : BondAndOption} → r.bond ≡ with_bound (value_alone (bond_price n b discounts flows)) e →
      r.option ≡ with_bound (value_alone (scheduled_price n b discounts flows (side terms.call) terms.strike (dated_schedule dates) cause)) e →
      r ≡ both_with (both_values (bond_and_dated_option n b discounts flows number dates strike)) e
  dates-both b discounts flows e {r} eb eo =
      both-are r _ _ eb (eo ∙ ap (λ (p : Price). with_bound (value_alone p) e) (dated-price b discounts flows))

-- the cause as the code works it out
pub dated-cause-is : (n number : ℕ) (dates : List ℕ) (strike : ℕ) {a l c : ℕ} → a ≡ terms_cause number strike → l ≡ dates_cause n dates → c ≡ lowest_cause a l →
    c ≡ dated_cause n number dates strike
unfolding dated_cause
dated-cause-is n number dates strike ea el ec = ec ∙ ap₂ lowest_cause ea el

-- ---- a kind and its list give one whole answer, wherever expiry is below n

pub kind-is-list : (n b : ℕ) (discounts flows : List ℕ) (kind expiry strike : ℕ) → 1 ≤ kind → kind ≤ 4 → expiry < n →
    option_price n b discounts flows kind expiry strike ≡ dated_price n b discounts flows (kind_side kind) (kind_dates kind expiry) strike
unfolding option_price dated_price dated_cause schedule_of
kind-is-list n b discounts flows kind expiry strike some few inside =
    ap₂ (λ (s : Side) (c : ℕ). scheduled_price n b discounts flows s strike (dated_schedule (kind_dates kind expiry)) c)
    (sym (kind-side kind))
    (kind-terms n kind expiry strike (kind_side kind) some few inside (kind-side-number kind).0 (kind-side-number kind).1
    ∙ lowest-alone (terms_cause (kind_side kind) strike) (dates_cause n (kind_dates kind expiry)) (kind-accepted n kind expiry inside))
