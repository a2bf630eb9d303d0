-- What `scaled` computes: a product in two parts, and a bit moved up.
-- Assumes nothing.
use mathlib.Core.Path.{◌≡◌, sym, ◌∙◌, ap}
use Prim.Native.Nat.{ℕ, ◌+◌, ◌-◌, ◌*◌, ◌/◌, ◌%◌, ◌^◌, ◌≤◌, ◌<◌}
use native.Mathlib.Nat.{mod-eq_of_lt, one-mul, add-sub_of_le}
use native.Mathlib.Omega.{arith}
use lib.Pow.{pow-add, pow_pos, pow-lt}
use Rattle.arithmetic.specs.Rounding.{one, nearest}
use lib.Dec.{lit<}
use Rattle.arithmetic.specs.Power.{power_of_ten}
use Rattle.arithmetic.proofs.PowerLaws.{power-listed}
use Rattle.arithmetic.proofs.RoundingLaws.{nearest-by-parts, product-by-parts}

-- a bit moved up by fewer than 64 places
pub bit_up : (k : ℕ) → k < 64 → (1 * 2 ^ k) % 2 ^ 64 ≡ 2 ^ k
bit_up k h = ap (λ (a : ℕ). a % 2 ^ 64) (one-mul (2 ^ k)) ∙ mod-eq_of_lt (pow-lt h)

-- 2 ^ shift, with 30 places and one taken off
pub shift-parts : (shift : ℕ) → 31 ≤ shift → 2 ^ shift ≡ 2 ^ 30 * (2 ^ (shift - 31) * 2)
shift-parts shift h =
    ap (λ (a : ℕ). 2 ^ a) (sym (add-sub_of_le h)) ∙ pow-add 2 31 (shift - 31) ∙ omega arith

-- what the code computes, from the table's entry and the moved bit
pub scaled-is :
    (s power shift half : ℕ) → power ≡ one → half ≡ 2 ^ (shift - 31) → 31 ≤ shift →
    (s / 2 ^ 30 * power + s % 2 ^ 30 * power / 2 ^ 30 + half) / (half * 2) ≡ nearest (s * one) (2 ^ shift)
scaled-is s power shift half ep eh h =
    rw (ep, eh, product-by-parts s one (2 ^ 30) (pow_pos 30), shift-parts shift h)
    (sym (nearest-by-parts (s * one) (2 ^ 30) (2 ^ (shift - 31)) (pow_pos 30) (pow_pos (shift - 31))))

-- the table's entry is one
pub table-one : (power : ℕ) → power ≡ power_of_ten 9 → power ≡ one
table-one power e = e ∙ power-listed 9 (lit< tt)
