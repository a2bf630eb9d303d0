-- Rows of a strip as the code fills them: a row laid into the memory of kept rows, and a row of one option.
-- Assumes nothing.
use mathlib.Core.Path.{◌≡◌, refl, ap, ◌∙◌}
use mathlib.Core.Bool.{Bool}
use mathlib.Core.List.{List}
use Prim.Native.Nat.{ℕ, ◌+◌, ◌<◌, ◌≤◌}
use native.Mathlib.Nat.{not-suc-le-zero}
use native.Mathlib.Omega.{arith}
use lib.ListN.{length, set, length-set}
use lib.Seq.{get_or-set_same, get_or-set_other}
use Rattle.arithmetic.specs.Row.{values}
use Rattle.arithmetic.proofs.Numbers.{by_equal}
use Rattle.arithmetic.proofs.Implied.{Implied, lastly, ◌▸◌}
use Rattle.pricing_laws.specs.Pricer.{Side, exercise, held_or_exercised}
use Rattle.pricing.specs.inside.Rows.{rolled_row}
use Rattle.pricing.specs.inside.Strips.{Laid, strike_values}

-- k nodes laid from a place on
pub record Laying (before after : List ℕ) (start : ℕ) (f : ℕ → ℕ) (k : ℕ) : Type 0 where
  pub same : length after ≡ length before
  pub laid : Laid before after start k f

pub laying-start : (l : List ℕ) (start : ℕ) (f : ℕ → ℕ) → Laying l l start f 0
laying-start l start f = record { same = refl; laid = record { done = λ k h. absurd (not-suc-le-zero h); rest = λ k h. refl } }

pub laying-next :
    {before l : List ℕ} {start : ℕ} {f : ℕ → ℕ} {k x : ℕ} → Laying before l start f k → start + k < length l → x ≡ f k →
    Laying before (set l (start + k) x) start f (k + 1)
laying-next {l} {start} {k} {x} s h e =
    record {
      same = length-set l (start + k) x ∙ s.same;
      laid =
          record {
            done = λ j below.
                by_equal j k (λ same. rw same (get_or-set_same l (start + k) x 0 h ∙ e))
                (λ other.
                get_or-set_other l (start + k) (start + j) x 0 (λ place. other (omega arith)) ∙ s.laid.done j (omega arith));
            rest = λ j past. get_or-set_other l (start + k) j x 0 (λ place. beyond j past place) ∙ s.laid.rest j (omega arith);
          };
    }
  where
    beyond : (j : ℕ) → start + (k + 1) ≤ j → j ≡ start + k → ⊥
    beyond j past place = omega arith

-- the option's value from its roll and the kept row
pub strike-from-roll :
    (side : Side) (strike : ℕ) (listed : Bool) (bare : List ℕ) {options downs discounts : List ℕ} {next k roll r : ℕ} →
    Implied (options ▸ downs ▸ discounts ▸ next ▸ lastly k) →
    roll ≡ rolled_row options downs discounts next k → r ≡ held_or_exercised listed roll (exercise side strike (values bare k)) →
    r ≡ strike_values side strike listed bare options downs discounts next k
strike-from-roll side strike listed bare {k = k} _ eo er =
    er ∙ ap (λ (x : ℕ). held_or_exercised listed x (exercise side strike (values bare k))) eo
