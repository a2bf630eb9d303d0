-- The number of a fit in any memories that are long enough, and its discounts as an accepted tree.
-- Assumes nothing.
use mathlib.Core.Path.{◌≡◌}
use Prim.Native.Nat.{ℕ, suc, ◌≤◌}
use mathlib.Core.List.{List}
use native.Mathlib.Omega.{arith}
use borrow.Author.Tests.{le-leb}
use lib.Ieee.{Float}
use Rattle.arithmetic.proofs.Implied.{implied}
use Rattle.limits.specs.Limits.{most_state_prices, shape_cause}
use Rattle.limits.proofs.LimitLaws.{shape-accepted}
use Rattle.lattice.specs.Shape.{discounts_needed, state_prices_needed}
use Rattle.lattice.specs.Entries.{memory_cause}
use Rattle.lattice.proofs.EntryLaws.{tree-answered}
use Rattle.lattice.proofs.Sizes.{start-within}
use Rattle.lent_tree.specs.LentTree.{discounts_cause}
use Rattle.fitted_laws.specs.Entry.{early_cause, fitted_number, fit_number}
use Rattle.fitted_laws.proofs.FittedTree.{fit-discounts-lent}
use Rattle.shelf_promises.specs.Model.{Quoted, fit_number_of, fit_discounts_of}

module _ (n b : ℕ) (shape : shape_cause n b ≡ 0) where
  room-enough : (discounts prices : ℕ) → discounts_needed n b ≤ discounts → state_prices_needed n b ≤ prices → memory_cause n b discounts prices ≡ 0
  unfolding memory_cause
  room-enough discounts prices h l =
      rw (
        tree-answered n b (discounts_needed n b) shape,
        tree-answered n b (state_prices_needed n b) shape,
        le-leb (discounts_needed n b) discounts h,
        le-leb (state_prices_needed n b) prices l,
      )

  all_most : state_prices_needed n b ≤ most_state_prices
  unfolding state_prices_needed
  all_most = start-within b (suc n) (omega (arith, (shape-accepted n b shape).1))

  pub any-room : (f s : ℕ) (rows kinds : List ℕ) (figures : List Float) (discounts prices : ℕ) →
      discounts_needed n b ≤ discounts → state_prices_needed n b ≤ prices →
      fit_number f n b s rows kinds figures (discounts_needed n b) most_state_prices ≡ fit_number f n b s rows kinds figures discounts prices
  unfolding fitted_number early_cause
  any-room f s rows kinds figures discounts prices h l =
      rw (room-enough (discounts_needed n b) most_state_prices (omega arith) all_most, room-enough discounts prices h l)

pub fit-lent : (q : Quoted) (n b : ℕ) → fit_number_of q n b ≡ 0 → discounts_cause n b (fit_discounts_of q n b) ≡ 0
fit-lent q n b e =
    fit-discounts-lent implied e
