-- The sums over a node's three destinations, by its branching alone.
-- Assumes nothing.
use mathlib.Core.Path.{◌≡◌, sym, ap, ap₂, ◌∙◌}
use Prim.Native.Nat.{ℕ, ◌+◌, ◌*◌}
use native.Mathlib.Omega.{arith}
use lib.IntN.{ℤ, pos, negsuc, neg_ℤ, ◌+ℤ◌, ◌-ℤ◌, ◌*ℤ◌, +ℤ_comm, +ℤ_assoc, +ℤ_idl, +ℤ_idr, +ℤ-neg_ℤ_cancel, neg_ℤ-+ℤ, pos-+ℤ-pos, pos-*ℤ-pos, pos-*ℤ-negsuc}
use Rattle.lattice.specs.Branching.{Branching, ordinary, top, bottom, branching, lowest_of, up_probability, middle_probability, down_probability}
use Rattle.lattice.specs.Branching.{change_to, change, squared, square_to, square}

unfoldable pub change-of : Branching → ℕ → ℕ → ℕ → ℤ
change-of ordinary u m d = pos u -ℤ pos d
change-of top u m d = neg_ℤ (pos (m + 2 * d))
change-of bottom u m d = pos (2 * u + m)

unfoldable pub square-of : Branching → ℕ → ℕ → ℕ → ℕ
square-of ordinary u m d = u + d
square-of top u m d = m + 4 * d
square-of bottom u m d = 4 * u + m

-- a change of node does not depend on the node
moved : (j x : ℤ) → j +ℤ x -ℤ j ≡ x
moved j x = ap (λ (y : ℤ). y -ℤ j) (+ℤ_comm j x) ∙ +ℤ-neg_ℤ_cancel x j

moved_on : (j x y : ℤ) → j +ℤ x +ℤ y -ℤ j ≡ x +ℤ y
moved_on j x y = ap (λ (z : ℤ). z -ℤ j) (+ℤ_assoc j x y) ∙ moved j (x +ℤ y)

-- the three changes, from where the lowest leads
module _ (j x : ℤ) (u m d : ℕ) where
  change-from : change_to j (j +ℤ x) u m d ≡ pos d *ℤ x +ℤ pos m *ℤ (x +ℤ pos 1) +ℤ pos u *ℤ (x +ℤ pos 2)
  unfolding change_to
  change-from =
      ap₂ ◌+ℤ◌ (ap₂ ◌+ℤ◌ (ap (λ (y : ℤ). pos d *ℤ y) (moved j x)) (ap (λ (y : ℤ). pos m *ℤ y) (moved_on j x (pos 1))))
      (ap (λ (y : ℤ). pos u *ℤ y) (moved_on j x (pos 2)))

  square-from : square_to j (j +ℤ x) u m d ≡ d * squared x + m * squared (x +ℤ pos 1) + u * squared (x +ℤ pos 2)
  unfolding square_to
  square-from =
      ap₂ ◌+◌ (ap₂ ◌+◌ (ap (λ (y : ℤ). d * squared y) (moved j x)) (ap (λ (y : ℤ). m * squared y) (moved_on j x (pos 1))))
      (ap (λ (y : ℤ). u * squared y) (moved_on j x (pos 2)))

none : (n : ℕ) → pos n *ℤ pos 0 ≡ pos 0
none n = let e : n * 0 ≡ 0 = omega arith in pos-*ℤ-pos n 0 ∙ ap pos e

once : (n : ℕ) → pos n *ℤ pos 1 ≡ pos n
once n = let e : n * 1 ≡ n = omega arith in pos-*ℤ-pos n 1 ∙ ap pos e

twice : (n : ℕ) → pos n *ℤ pos 2 ≡ pos (2 * n)
twice n = let e : n * 2 ≡ 2 * n = omega arith in pos-*ℤ-pos n 2 ∙ ap pos e

once-back : (n : ℕ) → pos n *ℤ negsuc 0 ≡ neg_ℤ (pos n)
once-back n = let e : n * 1 ≡ n = omega arith in pos-*ℤ-negsuc n 0 ∙ ap (λ (k : ℕ). neg_ℤ (pos k)) e

twice-back : (n : ℕ) → pos n *ℤ negsuc 1 ≡ neg_ℤ (pos (2 * n))
twice-back n = let e : n * 2 ≡ 2 * n = omega arith in pos-*ℤ-negsuc n 1 ∙ ap (λ (k : ℕ). neg_ℤ (pos k)) e

exchanged : (x y : ℕ) → x + y ≡ y + x
exchanged x y = omega arith

pub change-table : (r : Branching) (j : ℤ) (u m d : ℕ) → change_to j (lowest_of r j) u m d ≡ change-of r u m d
unfolding lowest_of change-of
change-table ordinary j u m d =
    change-from j (negsuc 0) u m d
    ∙ ap₂ ◌+ℤ◌ (ap₂ ◌+ℤ◌ (once-back d) (none m)) (once u)
    ∙ ap (λ (y : ℤ). y +ℤ pos u) (+ℤ_idr (neg_ℤ (pos d)))
    ∙ +ℤ_comm (neg_ℤ (pos d)) (pos u)
change-table top j u m d =
    change-from j (negsuc 1) u m d
    ∙ ap₂ ◌+ℤ◌ (ap₂ ◌+ℤ◌ (twice-back d) (once-back m)) (none u)
    ∙ +ℤ_idr (neg_ℤ (pos (2 * d)) +ℤ neg_ℤ (pos m))
    ∙ sym (neg_ℤ-+ℤ (pos (2 * d)) (pos m))
    ∙ ap neg_ℤ (pos-+ℤ-pos (2 * d) m ∙ ap pos (exchanged (2 * d) m))
change-table bottom j u m d =
    ap (λ (y : ℤ). change_to j y u m d) (sym (+ℤ_idr j))
    ∙ change-from j (pos 0) u m d
    ∙ ap₂ ◌+ℤ◌ (ap₂ ◌+ℤ◌ (none d) (once m)) (twice u)
    ∙ ap (λ (y : ℤ). y +ℤ pos (2 * u)) (+ℤ_idl (pos m))
    ∙ pos-+ℤ-pos m (2 * u)
    ∙ ap pos (exchanged m (2 * u))

pub square-table : (r : Branching) (j : ℤ) (u m d : ℕ) → square_to j (lowest_of r j) u m d ≡ square-of r u m d
unfolding lowest_of square-of squared
square-table ordinary j u m d = square-from j (negsuc 0) u m d ∙ omega arith
square-table top j u m d = square-from j (negsuc 1) u m d ∙ omega arith
square-table bottom j u m d =
    ap (λ (y : ℤ). square_to j y u m d) (sym (+ℤ_idr j)) ∙ square-from j (pos 0) u m d ∙ omega arith

pub change-is : (b : ℕ) (j : ℤ) → change b j ≡ change-of (branching b j) (up_probability b j) (middle_probability b j) (down_probability b j)
unfolding change
change-is b j = change-table (branching b j) j (up_probability b j) (middle_probability b j) (down_probability b j)

pub square-is : (b : ℕ) (j : ℤ) → square b j ≡ square-of (branching b j) (up_probability b j) (middle_probability b j) (down_probability b j)
unfolding square
square-is b j = square-table (branching b j) j (up_probability b j) (middle_probability b j) (down_probability b j)
