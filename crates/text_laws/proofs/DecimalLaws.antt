-- Laws of decimal text: its last digit, and how long it is.
-- Assumes nothing.
use mathlib.Core.Path.{◌≡◌, refl, sym, ap}
use mathlib.Core.Bool.{Bool, true, false, cond}
use mathlib.Core.List.{List, [], ◌∷◌, ◌++◌, append_assoc, append-nil}
use Prim.Native.Nat.{ℕ, zero, suc, ◌+◌, ◌-◌, ◌*◌, ◌/◌, ◌%◌, ◌^◌, ◌≤◌, ◌<◌}
use native.Mathlib.Nat.{div-lt_iff_lt-mul, pow-suc, lt_trans, lt_of_le_of_lt, div-le_self}
use native.Mathlib.Omega.{arith}
use borrow.Author.Tests.{lt-ltb, le-ltb, ltb-true, ltb-false}
use lib.Dec.{ltb, lit<}
use lib.IntN.{ℤ, pos, negsuc, nat_abs}
use lib.ListN.{length, length-append}
use Rattle.text_laws.specs.Decimal.{digit, natural_within, natural, last_digits, decimal, sign_of, signed_decimal}
use Rattle.text_laws.specs.inside.Decimal.{fraction}

-- ---- the last digit

pub digits_step : (k n : ℕ) → 0 < k → last_digits k n ≡ last_digits (k - 1) (n / 10) ++ (digit (n % 10) ∷ [])
unfolding last_digits
digits_step zero n h = let none : ⊥ = omega arith in absurd none
digits_step (suc k) n h = let e : suc k - 1 ≡ k = omega arith in rw e

pub digits-none : (k n : ℕ) → k ≡ 0 → last_digits k n ≡ []
unfolding last_digits
digits-none k n e = rw e

pub natural-small : (n : ℕ) → n < 10 → natural n ≡ digit n ∷ []
unfolding natural natural_within
natural-small n h = go n
  where
    go : (m : ℕ) → natural_within m n ≡ digit n ∷ []
    go zero = let e : n % 10 ≡ n = omega arith in rw e
    go (suc m) = rw (lt-ltb n 10 h)

-- the bound does not matter, where it is no less than the number
within : (a b n : ℕ) → n ≤ a → n ≤ b → natural_within a n ≡ natural_within b n
unfolding natural_within
within zero zero n h p = refl
within zero (suc b) n h p = let e : n ≡ 0 = omega arith in rw e
within (suc a) zero n h p = let e : n ≡ 0 = omega arith in rw e
within (suc a) (suc b) n h p = go (ltb n 10) refl (λ x y. within a b (n / 10) x y)
  where
    go : (t : Bool) → ltb n 10 ≡ t → (n / 10 ≤ a → n / 10 ≤ b → natural_within a (n / 10) ≡ natural_within b (n / 10))
        → cond t (digit n ∷ []) (natural_within a (n / 10) ++ (digit (n % 10) ∷ [])) ≡ cond t (digit n ∷ []) (natural_within b (n / 10) ++ (digit (n % 10) ∷ []))
    go true q r = refl
    go false q r = let big = ltb-false n 10 q in ap (λ (l : List ℕ). l ++ (digit (n % 10) ∷ [])) (r (omega arith) (omega arith))

pub natural-step : (n : ℕ) → 9 < n → natural n ≡ natural (n / 10) ++ (digit (n % 10) ∷ [])
unfolding natural natural_within
natural-step zero h = let none : ⊥ = omega arith in absurd none
natural-step (suc m) h = rw (le-ltb (suc m) 10 h, within m (suc m / 10) (suc m / 10) (omega arith) (omega arith))

pub fraction-none : (k n : ℕ) → k ≡ 0 → fraction k n ≡ []
unfolding fraction
fraction-none k n e = rw e

pub fraction-point : (k n : ℕ) → 0 < k → fraction k n ≡ 46 ∷ last_digits k n
unfolding fraction
fraction-point zero n h = let none : ⊥ = omega arith in absurd none
fraction-point (suc k) n h = refl

-- whole part and fraction
pub decimal-parts : (k n : ℕ) → decimal k n ≡ natural (n / 10 ^ k) ++ fraction k n
unfolding decimal fraction
decimal-parts zero n = let e : n / 1 ≡ n = omega arith in rw e (sym (append-nil (natural n)))
decimal-parts (suc k) n = refl

-- ---- lengths

pub length_digits : (k n : ℕ) → length (last_digits k n) ≡ k
unfolding last_digits
length_digits zero n = refl
length_digits (suc k) n = simp (length-append, length_digits k (n / 10)) (omega arith)

pub length-natural-step : (n : ℕ) → 9 < n → length (natural n) ≡ length (natural (n / 10)) + 1
length-natural-step n h = rw (natural-step n h) (simp length-append)

pub length-natural-small : (n : ℕ) → n < 10 → length (natural n) ≡ 1
length-natural-small n h = rw (natural-small n h)

-- a number below 10 ^ (m + 1) has at most m + 1 digits
pub natural-most : (m n : ℕ) → n < 10 ^ suc m → length (natural n) ≤ suc m
natural-most zero n h = rw (natural-small n h) (omega arith)
natural-most (suc m) n h = go (ltb n 10) refl (λ p. natural-most m (n / 10) p)
  where
    go : (t : Bool) → ltb n 10 ≡ t → (n / 10 < 10 ^ suc m → length (natural (n / 10)) ≤ suc m) → length (natural n) ≤ suc (suc m)
    go true q r = rw (natural-small n (ltb-true n 10 q)) (omega arith)
    go false q r =
        let big = ltb-false n 10 q in
        let p : n < 10 ^ suc m * 10 = rw (pow-suc 10 (suc m)) at h in
        omega (arith, length-natural-step n big, r ((div-lt_iff_lt-mul {k = 10} {x = n} {y = 10 ^ suc m} (omega arith)).1 p))

pub natural-room : (n : ℕ) → n < 2 ^ 64 → length (natural n) ≤ 20
natural-room n h = natural-most 19 n (lt_trans h (lit< tt))

pub decimal-room : (k n : ℕ) → n < 2 ^ 64 → length (decimal k n) ≤ 21 + k
unfolding decimal
decimal-room zero n h = omega (arith, natural-room n h)
decimal-room (suc k) n h =
    simp (length-append, length_digits (suc k) n) (omega (arith, natural-room (n / 10 ^ suc k) (lt_of_le_of_lt (div-le_self n (10 ^ suc k)) h)))

-- a text and the byte that follows it
length-followed : (text : List ℕ) (follower : ℕ) → length (text ++ (follower ∷ [])) ≡ length text + 1
length-followed text follower = simp length-append

pub field_room : (k n follower : ℕ) → n < 2 ^ 64 → length (decimal k n ++ (follower ∷ [])) ≤ 22 + k
field_room k n follower h = omega (arith, length-followed (decimal k n) follower, decimal-room k n h)

-- the parts of a number with decimals, of a field, and of a field with a sign
pub decimal-length : (k n : ℕ) → length (decimal k n) ≡ length (natural (n / 10 ^ k)) + length (fraction k n)
decimal-length k n = rw (decimal-parts k n) (simp length-append)

pub fraction-length : (k n : ℕ) → 0 < k → length (fraction k n) ≡ 1 + k
fraction-length k n h = rw (fraction-point k n h) (omega (arith, length_digits k n))

pub field-length : (k n follower : ℕ) → length (decimal k n ++ (follower ∷ [])) ≡ length (decimal k n) + 1
field-length k n follower = length-followed (decimal k n) follower

pub signed-length : (k follower : ℕ) (z : ℤ) →
    length (signed_decimal k z ++ (follower ∷ [])) ≡ length (sign_of z) + length (decimal k (nat_abs z) ++ (follower ∷ []))
unfolding signed_decimal
signed-length k follower z = simp length-append (omega arith)

pub signed_parts : (k follower : ℕ) (z : ℤ) → signed_decimal k z ++ (follower ∷ []) ≡ sign_of z ++ (decimal k (nat_abs z) ++ (follower ∷ []))
unfolding signed_decimal
signed_parts k follower z = append_assoc (sign_of z) (decimal k (nat_abs z)) (follower ∷ [])

sign-room : (z : ℤ) → length (sign_of z) ≤ 1
sign-room (pos n) = omega arith
sign-room (negsuc n) = omega arith

pub signed-room : (k follower : ℕ) (z : ℤ) → nat_abs z < 2 ^ 64 → length (signed_decimal k z ++ (follower ∷ [])) ≤ 23 + k
signed-room k follower z h = omega (arith, signed-length k follower z, sign-room z, field_room k (nat_abs z) follower h)

pub ten-pos : (k : ℕ) → 0 < 10 ^ k
ten-pos zero = omega arith
ten-pos (suc k) = rw (pow-suc 10 k) (omega (arith, ten-pos k))
