-- Laws of numbers spelled by bytes, over any width.
-- Assumes nothing.
use Prim.Native.Nat.{ℕ, zero, suc, ◌+◌, ◌*◌, ◌^◌, ◌<◌}
use native.Mathlib.Nat.{pow-suc, pow-le-pow_right, lt_of_lt_of_le}
use native.Mathlib.Numerals.{add-one}
use native.Mathlib.Omega.{arith}
use mathlib.Core.List.{List}
use mathlib.Core.Path.{◌≡◌, refl}
use lib.ListN.{get_or}
use lib.Arith.{digits_lt}
use Rattle.job_record.specs.Bytes.{Bytes, number_at}
use Rattle.job_record.specs.inside.Widths.{most_width}

pub number-nothing : (s : List ℕ) (o : ℕ) → number_at s o 0 ≡ 0
unfolding number_at
number-nothing s o = refl

pub number_more : (s : List ℕ) (o k : ℕ) → number_at s o (k + 1) ≡ number_at s o k * 256 + get_or s (o + k) 0
unfolding number_at
number_more s o k = rw add-one

-- a number of k bytes is below 256 ^ k
pub number_bound : (s : List ℕ) → Bytes s → (o k : ℕ) → number_at s o k < 256 ^ k
unfolding number_at
number_bound s h o zero = omega arith
number_bound s h o (suc k) = rw pow-suc (digits_lt (number_bound s h o k) (h (o + k)))

-- one byte more than k fits 64 bits
pub byte_more : (k v b : ℕ) → k < most_width → v < 256 ^ k → b < 256 → v * 256 + b < 2 ^ 64
byte_more k v b hk hv hb = lt_of_lt_of_le (rw (← pow-suc) at (digits_lt hv hb)) (pow-le-pow_right {n = 256} (omega arith) hk)
