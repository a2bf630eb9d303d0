-- Where the discounts of either side of 0 pass a given one, and how far they are from it.
-- Assumes nothing.
use Rattle.std.specs.Prelude.{◌≡◌, ℕ, ◌+◌, ◌≤◌, ◌<◌, Bool, true, false, cond, leb, ltb}
use Rattle.arithmetic.specs.Rounding.{one}
use Rattle.continuous.specs.Continuous.{side_discount}
use Rattle.continuous_rate.specs.ContinuousRate.{distance}

-- how far the discount of a quotient is from v
abbrev pub side_miss : ℕ → Bool → ℕ → ℕ
side_miss v below = λ q. distance (side_discount q below) v

-- the same above 0, from a first quotient on
abbrev pub window_miss : ℕ → ℕ → ℕ → ℕ
window_miss v from = λ k. distance (side_discount (from + k) false) v

-- the discounts of one side, which start at one, have not passed v at the quotient q
unfoldable pub before : ℕ → Bool → ℕ → Bool
before v true q = leb (side_discount q true) v
before v false q = leb v (side_discount q false)

-- how far from the passing quotient the nearest one may stand
unfoldable pub reach_of : ℕ → ℕ
reach_of q = cond (ltb q 499999000) 19 100

-- they have not passed v at the quotient q, and have at the next one, where there is one
pub record Passes (v : ℕ) (below : Bool) (q : ℕ) : Type 0 where
  pub top : q ≤ one
  pub here : before v below q ≡ true
  pub next : q < one → before v below (q + 1) ≡ false
