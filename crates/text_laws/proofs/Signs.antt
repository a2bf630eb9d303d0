-- The sign and the size of a number that an `i64` holds.
-- Assumes nothing.
use mathlib.Core.Path.{◌≡◌, refl}
use mathlib.Core.Bool.{true, false}
use mathlib.Core.List.{[], ◌∷◌, ◌++◌}
use Prim.Native.Nat.{ℕ, ◌<◌, ◌≤◌, ◌+◌}
use native.Mathlib.Omega.{arith}
use lib.IntN.{ℤ, pos, negsuc}
use lib.ListN.{length}
use lib.Signed.{lt_z}
use borrow.Author.Tests.{ltb-true}
use mir.Syntax.{w64}
use mir.Val.{SFits, to_z, of_z}
use mir.Facts.{to_z-of_z}
use Rattle.arithmetic.proofs.Signed.{size-most}
use Rattle.text_laws.specs.Decimal.{sign_of, signed_decimal}
use Rattle.text_laws.proofs.DecimalLaws.{signed-room}

below-zero : (n : ℕ) → n < 0 → ⊥
below-zero n h = omega arith

pub sign-negative : (z : ℤ) → lt_z z (pos 0) ≡ true → sign_of z ≡ 45 ∷ []
sign-negative (pos n) h = absurd (below-zero n (ltb-true n 0 h))
sign-negative (negsuc a) h = refl

pub sign-none : (z : ℤ) → lt_z z (pos 0) ≡ false → sign_of z ≡ []
sign-none (pos n) h = refl
sign-none (negsuc a) h = cc

-- the field of a number that is read back from its bits
pub held-room : (k follower : ℕ) (z : ℤ) → SFits w64 z → length (signed_decimal k (to_z w64 (of_z w64 z)) ++ (follower ∷ [])) ≤ 23 + k
held-room k follower z f = rw (to_z-of_z f) (signed-room k follower z (omega (arith, size-most z f)))
