-- Rounding (document 01, Terms): "down" to the whole number below, "up" to the one above, "nearest" with halves away from zero.
-- Assumes nothing.
use Rattle.std.specs.Prelude.{ℕ, ◌+◌, ◌-◌, ◌*◌, ◌/◌, ◌≤◌, ◌<◌, suc, ◌≡◌, ℤ, pos, negsuc, neg_ℤ}

-- one, in billionths
abbrev pub one : ℕ
one = 1000000000

-- a / d, down
unfoldable pub round_down : ℕ → ℕ → ℕ
round_down a d = a / d

-- a / d, up
unfoldable pub round_up : ℕ → ℕ → ℕ
round_up a d = (a + (d - 1)) / d

-- a / d, nearest
unfoldable pub nearest : ℕ → ℕ → ℕ
nearest a d = (2 * a + d) / (2 * d)

-- the same of numbers with a sign
unfoldable pub round_down_signed : ℤ → ℕ → ℤ
round_down_signed (pos a) d = pos (round_down a d)
round_down_signed (negsuc a) d = neg_ℤ (pos (round_up (suc a) d))

unfoldable pub nearest_signed : ℤ → ℕ → ℤ
nearest_signed (pos a) d = pos (nearest a d)
nearest_signed (negsuc a) d = neg_ℤ (pos (nearest (suc a) d))

-- What laws use of a division: it exceeds the exact quotient by at most over / 2, falls short of it by at most under / 2, keeps order,
-- and leaves a whole quotient.
pub record Rounds (divide : ℕ → ℕ → ℕ) (over under : ℕ) : Type 0 where
  pub above : (a d : ℕ) → 0 < d → 2 * (d * divide a d) ≤ 2 * a + over * d
  pub below : (a d : ℕ) → 0 < d → 2 * a ≤ 2 * (d * divide a d) + under * d
  pub monotone : (a b d : ℕ) → 0 < d → a ≤ b → divide a d ≤ divide b d
  pub exact : (q d : ℕ) → 0 < d → divide (d * q) d ≡ q
