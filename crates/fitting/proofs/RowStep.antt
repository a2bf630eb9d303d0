-- A row's discounts and the sums over its branches, as its loop leaves them.
-- Assumes nothing.
use mathlib.Core.Path.{◌≡◌, sym, ◌∙◌, ap}
use mathlib.Core.Bool.{Bool, true}
use mathlib.Core.List.{List}
use Prim.Native.Nat.{ℕ, ◌*◌, ◌/◌, ◌≤◌, ◌<◌}
use native.Mathlib.Omega.{arith}
use lib.ListN.{length}
use Rattle.arithmetic.specs.Sum.{sum}
use Rattle.arithmetic.specs.Row.{row, values, each}
use Rattle.arithmetic.proofs.SumLaws.{sum-weigh-ge}
use Rattle.arithmetic.proofs.RowLaws.{length-row}
use Rattle.tree.specs.Tree.{incoming}
use Rattle.row_branches.specs.inside.Transitions.{row_transition}
use Rattle.limits.specs.Limits.{is_discount}
use Rattle.fit_laws.specs.Step.{normaliser, discount, carried}
use Rattle.fit_laws.proofs.StepLaws.{normaliser-ge}
use Rattle.fit_laws.specs.inside.Bounds.{least_factor, least_row_sum}
use Rattle.fitting.specs.inside.Rows.{RowStepped}
use Rattle.fitting.specs.inside.Preconditions.{StepReady}

-- Z is not 0
normaliser-positive : (n : ℕ) (q u : ℕ → ℕ) → least_row_sum ≤ sum n q → ((k : ℕ) → k < n → least_factor ≤ u k) → 0 < normaliser n q u
normaliser-positive n q u low least = omega (arith, sum-weigh-ge n least_factor q u least, normaliser-ge n q u)

-- what the loop asks once Z is known and the sums were cleared
module _ {quote discounts next : ℕ} {state-prices factors downs : List ℕ} (ready : StepReady quote state-prices factors downs discounts next) where
  pub positive : (z : ℕ) → z ≡ normaliser (length state-prices) (values state-prices) (values factors) → 0 < z
  positive z e =
      rw e (normaliser-positive (length state-prices) (values state-prices) (values factors) ready.row-sum-least ready.factors-bounded.at_least)

  module _ {sums : List ℕ} (e : sums ≡ row next (λ j. 0)) where
    cleared-length : length sums ≡ next
    cleared-length = ap length e ∙ length-row next (λ j. 0)

    pub cleared-ready : StepReady quote state-prices factors downs discounts (length sums)
    cleared-ready = rw cleared-length ready

    pub cleared-again : sums ≡ row (length sums) (λ j. 0)
    cleared-again = e ∙ ap (λ (m : ℕ). row m (λ j. 0)) (sym cleared-length)

-- what the loop leaves, by the step's definitions; the sums before it were cleared
module _ {quote z next : ℕ} {state-prices factors downs : List ℕ} (ez : z ≡ normaliser (length state-prices) (values state-prices) (values factors))
    (cleared discounts sums : List ℕ) (r : Bool) (ec : cleared ≡ row next (λ j. 0))
    (er : r ≡ each (length state-prices) (λ k. is_discount (quote * values factors k / z)))
    (ed : r ≡ true → discounts ≡ row (length state-prices) (λ k. quote * values factors k / z))
    (es : r ≡ true → sums ≡ row (length cleared) (incoming (row_transition downs (length cleared)) (length state-prices)
    (carried (values state-prices) (λ k. quote * values factors k / z)))) where
  pub stepped : RowStepped quote next state-prices factors downs discounts sums r
  unfolding discount
  stepped =
      record {
        tested = er ∙ rw ez;
        filled = λ t. ed t ∙ rw ez;
        spreads = λ t. es t
            ∙ ap (λ (m : ℕ). row m (incoming (row_transition downs m) (length state-prices)
            (carried (values state-prices) (λ k. quote * values factors k / z))))
            (ap length ec ∙ length-row next (λ j. 0))
            ∙ rw ez;
      }
