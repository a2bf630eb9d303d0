-- What the first number of a range that passes a test is known by.
-- Assumes nothing.
use Rattle.std.specs.Prelude.{ℕ, ◌≤◌, ◌<◌, ◌≡◌, Bool, true, false}

-- what the words above say of r: all before it fail, and it passes unless it is the end
pub record First (test : ℕ → Bool) (start end r : ℕ) : Type 0 where
  pub least : start ≤ r
  pub most : r ≤ end
  pub before : (k : ℕ) → start ≤ k → k < r → test k ≡ false
  pub passes : r < end → test r ≡ true
