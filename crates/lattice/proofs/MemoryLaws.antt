-- The cause about the memories that hold a tree, by the tests that code makes.
-- Assumes nothing.
use mathlib.Core.Path.{◌≡◌}
use Prim.Native.Nat.{ℕ, ◌≤◌, ◌<◌}
use borrow.Author.Tests.{le-leb, lt-leb}
use Rattle.arithmetic.specs.declared.Answer.{Answer}
use Rattle.lattice.specs.Entries.{discounts_needed_answer, state_prices_needed_answer, memory_cause}

module _ (n b : ℕ) {ds : ℕ} (ps : ℕ) {needed all : Answer} (en : needed ≡ discounts_needed_answer n b) (ea : all ≡ state_prices_needed_answer n b) where
  pub memory-short : ds < needed.value → 6 ≡ memory_cause n b ds ps
  unfolding memory_cause
  memory-short h = rw (← en, lt-leb needed.value ds h)

  module _ (h : needed.value ≤ ds) where
    pub memory-lacks : ps < all.value → 6 ≡ memory_cause n b ds ps
    unfolding memory_cause
    memory-lacks g = rw (← en, ← ea, le-leb needed.value ds h, lt-leb all.value ps g)

    pub memory-enough : all.value ≤ ps → 0 ≡ memory_cause n b ds ps
    unfolding memory_cause
    memory-enough g = rw (← en, ← ea, le-leb needed.value ds h, le-leb all.value ps g)
