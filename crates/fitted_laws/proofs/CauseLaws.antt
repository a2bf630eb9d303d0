-- No cause from 2 to 7: what is then known of the numbers.
-- Assumes nothing.
use mathlib.Core.Path.{◌≡◌, refl, ◌∙◌}
use Prim.Native.Nat.{ℕ, suc, ◌≤◌}
use native.Mathlib.Omega.{arith}
use Rattle.limits.specs.WithinLimits.{WithinLimits}
use Rattle.arithmetic.proofs.Numbers.{by_order}
use Rattle.arithmetic.specs.Answers.{lowest_cause}
use Rattle.arithmetic.proofs.CauseLaws.{lowest-none}
use Rattle.lattice.specs.Shape.{row_start, discounts_needed, state_prices_needed}
use Rattle.lattice.specs.Entries.{discounts_needed_answer, state_prices_needed_answer, memory_cause}
use Rattle.lattice.proofs.MemoryLaws.{memory-short, memory-lacks}
use Rattle.lattice.proofs.TreeEntries.{tree-accepted, tree-value}
use Rattle.fitted_laws.specs.Entry.{early_cause}
use Rattle.fitted_laws.specs.inside.Numbers.{Numbers}

-- the memories hold the tree
pub memory-none : (n b ds ps : ℕ) → memory_cause n b ds ps ≡ 0 → ((discounts_needed_answer n b).value ≤ ds) × ((state_prices_needed_answer n b).value ≤ ps)
memory-none n b ds ps e =
    by_order (discounts_needed_answer n b).value ds
    (λ h. by_order (state_prices_needed_answer n b).value ps (λ g. (h, g))
    (λ g. absurd (six (memory-lacks n b ps {needed = discounts_needed_answer n b} {all = state_prices_needed_answer n b} refl refl h g ∙ e))))
    (λ h. absurd (six (memory-short n b ps {needed = discounts_needed_answer n b} {all = state_prices_needed_answer n b} refl refl h ∙ e)))
  where
    six : ◌≡◌ {A = ℕ} 6 0 → ⊥
    six z = omega arith

-- no early cause: each part has none, and the numbers are those of an accepted tree
module _ (n w converted spaced ds ps : ℕ) (z : early_cause converted n w spaced ds ps ≡ 0) where
  sides : (lowest_cause converted (discounts_needed_answer n w).number ≡ 0) × (lowest_cause spaced (memory_cause n w ds ps) ≡ 0)
  unfolding early_cause
  sides = lowest-none _ _ z

  lefts : (converted ≡ 0) × ((discounts_needed_answer n w).number ≡ 0)
  lefts = lowest-none converted (discounts_needed_answer n w).number sides.0

  rights : (spaced ≡ 0) × (memory_cause n w ds ps ≡ 0)
  rights = lowest-none spaced (memory_cause n w ds ps) sides.1

  accepted : WithinLimits n w
  accepted = tree-accepted n w (discounts_needed n w) (discounts_needed_answer n w) refl lefts.1

  pub numbers_of : Numbers n w converted spaced ds ps
  unfolding discounts_needed state_prices_needed
  numbers_of =
      let room = memory-none n w ds ps rights.1 in
      record {
        quotes-converted = lefts.0;
        spacing-found = rights.0;
        limits = accepted;
        room-discounts = rw (tree-value n w (row_start w n) (discounts_needed_answer n w) refl accepted) at room.0;
        room-state-prices = rw (tree-value n w (row_start w (suc n)) (state_prices_needed_answer n w) refl accepted) at room.1;
      }
