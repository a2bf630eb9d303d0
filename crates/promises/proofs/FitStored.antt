-- What an accepted fit leaves in both memories is the fit, unaltered: its discounts by row and node, and each row of its state prices.
-- Assumes nothing.
use mathlib.Core.Path.{ap, ◌∙◌}
use mathlib.Core.List.{List}
use Prim.Native.Nat.{ℕ, suc, ◌+◌, ◌≤◌}
use native.Mathlib.Omega.{arith}
use lib.Ieee.{Float}
use lib.ListN.{length, take, drop, length-append}
use Rattle.arithmetic.specs.Row.{values, place}
use Rattle.arithmetic.proofs.RowLaws.{values-row, length-row}
use Rattle.lattice.specs.Shape.{node_count, row_start, discounts_needed}
use Rattle.lattice.proofs.LaidLaws.{laid-part, laid-value}
use Rattle.fitted_laws.specs.Entry.{fit_memory, fit_discount, fit_state_price, fit_discounts, fit_state_prices}
use Rattle.fitted_laws.proofs.FittedTree.{fit-discounts-length}
use Rattle.promises.specs.Promises.{Unaltered}

pub fit-unaltered : (f n w g : ℕ) (kinds : List ℕ) (figures : List Float) (d q : List ℕ) (r : ℕ) → r ≤ n →
    Unaltered f n w g kinds figures (fit_memory 0 (fit_discounts f n w g kinds figures) d) r
    (take (node_count w r) (drop (row_start w r) (fit_memory 0 (fit_state_prices f n w g kinds figures) q)))
unfolding fit_memory place discounts_needed
fit-unaltered f n w g kinds figures d q r h =
    record {
      discounts-long =
          omega (
            arith,
            length-append (fit_discounts f n w g kinds figures) (drop (0 + length (fit_discounts f n w g kinds figures)) d),
            fit-discounts-length f n w g kinds figures,
          );
      discounts-kept = λ i k hi hk. laid-value w (fit_discount f n w g kinds figures) n i hi _ k hk;
      row-length =
          ap length (laid-part w (fit_state_price f n w g kinds figures) (suc n) r (omega arith) _)
          ∙ length-row (node_count w r) (fit_state_price f n w g kinds figures r);
      prices-kept =
          λ k hk.
          ap (λ (l : List ℕ). values l k) (laid-part w (fit_state_price f n w g kinds figures) (suc n) r (omega arith) _)
          ∙ values-row (node_count w r) k (fit_state_price f n w g kinds figures r) hk;
    }
