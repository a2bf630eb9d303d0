-- One strike of a strip by what the code found, with an error bound that is handed in.
-- Assumes nothing.
use mathlib.Core.Path.{◌≡◌, ap, ◌∙◌}
use mathlib.Core.List.{List}
use Prim.Native.Nat.{ℕ, ◌≤◌, ◌<◌}
use native.Mathlib.Omega.{arith}
use Rattle.arithmetic.specs.declared.Answer.{Answer}
use Rattle.arithmetic.proofs.Implied.{Implied, implied, lastly, ◌▸◌}
use Rattle.limits.specs.Limits.{most_steps, limit_cause}
use Rattle.pricing_laws.specs.inside.Marks.{marked}
use Rattle.exercise.specs.declared.Terms.{Terms}
use Rattle.exercise.specs.Terms.{side}
use Rattle.exercise_dates.specs.Dates.{marks_of, dated_terms}
use Rattle.exercise_dates.proofs.DateLaws.{marks-room}
use Rattle.lent_tree.specs.LentTree.{Accepted}
use Rattle.price_causes.specs.inside.Flows.{AcceptedFlows}
use Rattle.price_laws.specs.declared.Price.{Price}
use Rattle.price_laws.specs.Prices.{tree_cause, refused_price, value_alone, with_bound, bond_peak, dated_cause, dated_price}
use Rattle.price_laws.specs.inside.Accepted.{accepted_option}
use Rattle.price_laws.proofs.AnswerLaws.{marked-price}
use Rattle.price_laws.proofs.OptionLaws.{dated-price}
use Rattle.price_laws.proofs.ValueLaws.{option-cause, option-passed}
use Rattle.pricing.specs.inside.Trees.{Exercisable, BothRolled}
use Rattle.pricing.specs.inside.Strips.{beside_bond}
use Rattle.pricing.proofs.EntryLaws.{dated-exercised, option-refused, option-given}
use Rattle.pricing.proofs.WalkStates.{bond-over}

module _ {n b : ℕ} {discounts flows : List ℕ} {number : ℕ} {dates : List ℕ} {strike cause bound : ℕ}
    (_ : Implied (n ▸ b ▸ discounts ▸ flows ▸ number ▸ dates ▸ strike ▸ lastly bound)) (none : tree_cause n b discounts flows ≡ 0)
    (ec : cause ≡ dated_cause n number dates strike) where
  -- the answer of a call for this strike alone
  abbrev alone : Price
  alone = with_bound (value_alone (dated_price n b discounts flows number dates strike)) bound

  pub strike-refused : (cause ≡ 0 → ⊥) → refused_price cause ≡ alone
  unfolding dated_price
  strike-refused nz =
      ap refused_price ec ∙ option-cause implied none (λ e. nz (ec ∙ e))

  module _ (z : cause ≡ 0) (few : n ≤ most_steps) {terms : Terms} (et : terms ≡ dated_terms number dates strike) {marks : List ℕ}
      (em : marks ≡ marks_of dates) where
    strike-price-is :
        (p : Price) → p ≡ accepted_option n b discounts flows (side terms.call) terms.strike (marked terms.last marks) bound → p ≡ alone
    strike-price-is p ep =
        let on = dated-exercised number strike ec terms et z few in
        option-passed implied none z
        (marked-price n b discounts flows implied (omega (arith, on.before-end))
        on.last-listed em ep)
        ∙ ap (λ (q : Price). with_bound (value_alone q) bound) (dated-price n number dates strike ec terms et b discounts flows)

    -- the option may be exercised on the tree
    last-before : terms.last < n
    last-before =
        let on = dated-exercised number strike ec terms et z few in
        omega (arith, on.last-listed, on.before-end)

    pub exercisable : Exercisable terms n marks × (terms.last < n)
    exercisable =
        let on = dated-exercised number strike ec terms et z few in (
          record {
            last-inside = omega (arith, last-before);
            marked-rows = omega (arith, on.last-listed, marks-room _ _ em (omega (arith, on.before-end)));
            strike-most = on.strike-within;
          },
          last-before,
        )

    -- what the roll answers
    module _ {r : Answer}
        (s : BothRolled n b discounts flows (side terms.call) terms.strike (marked terms.last marks) (beside_bond n b discounts flows r)) where
      pub rolled-refuses : (r.number ≡ 0 → ⊥) → refused_price r.number ≡ alone
      rolled-refuses nz = strike-price-is (refused_price r.number) (option-refused bound s nz)

      pub rolled-gives : r.number ≡ 0 → ◌≡◌ {A = Price} (record { number = 0; value = r.value; bound = bound }) alone
      rolled-gives e = strike-price-is (record { number = 0; value = r.value; bound = bound }) (option-given bound s e)

    -- a bond above the limit
    pub bond-refuses :
        Accepted n b discounts → AcceptedFlows n flows → {over : ℕ} → over ≡ limit_cause (bond_peak n b discounts flows) → (over ≡ 0 → ⊥) →
        refused_price over ≡ alone
    unfolding marked
    bond-refuses a f {over} e nz =
        rolled-refuses
        (bond-over n b discounts flows a f (side terms.call) terms.strike (marked terms.last marks) (omega (arith, last-before)) over e nz)
        nz
