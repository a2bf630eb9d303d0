-- A row's part of the lent discounts: its least and its greatest number, from what the code finds in it.
-- Assumes nothing.
use mathlib.Core.Path.{◌≡◌, sym, ap, ap₂, ◌∙◌}
use mathlib.Core.List.{List}
use Prim.Native.Nat.{ℕ, ◌+◌, ◌-◌, ◌*◌, ◌≤◌, ◌<◌}
use native.Mathlib.Nat.{mul-le-mul}
use native.Mathlib.Omega.{arith}
use lib.ListN.{length, take, drop}
use Rattle.arithmetic.specs.Row.{values}
use Rattle.arithmetic.proofs.PartLaws.{part-is, part-value, part_length}
use Rattle.limits.specs.Limits.{most_discount}
use Rattle.lattice.specs.Shape.{node_count, row_start}
use Rattle.lattice.specs.declared.RowShape.{RowShape}
use Rattle.lattice.specs.Entries.{shape_of, row_shape_answer}
use Rattle.lattice.proofs.Sizes.{row_ends}
use Rattle.lattice.proofs.ShapeLaws.{shape-found}
use Rattle.lent_tree.specs.LentTree.{stored, Accepted}
use Rattle.pair_laws.specs.PairCauses.{least}
use Rattle.pair_laws.proofs.CauseLaws.{least-cong, least-most}

module _ (n b i : ℕ) (discounts : List ℕ) (a : Accepted n b discounts) (hi : i < n) (s : RowShape) (es : s ≡ row_shape_answer b n i) where
  shape : s ≡ shape_of b n i
  shape =
      let few = a.limits.steps-within-limit in
      es ∙ sym (shape-found b n i a.limits.reversion-within-limit few (omega arith) (omega (arith, few)))

  count-is : s.count ≡ node_count b i
  count-is = ap (λ (x : RowShape). x.count) shape

  start_is : s.start ≡ row_start b i
  start_is = ap (λ (x : RowShape). x.start) shape

  pub least-part :
      (g : ℕ) (part : List ℕ) → part ≡ take (s.start + s.count - s.start) (drop s.start discounts) →
      g ≡ least (length part) (values part) → g ≡ least (node_count b i) (stored b discounts i)
  unfolding stored
  least-part g part ep e =
      let p : part ≡ take (node_count b i) (drop (row_start b i) discounts)
      = ep ∙ part-is discounts s.start s.count ∙ ap₂ (λ (x y : ℕ). take x (drop y discounts)) count-is start_is in
      let l : length part ≡ node_count b i
      = ap length p ∙ part_length discounts (row_start b i) (node_count b i) (omega (arith, row_ends b i n hi, a.room)) in
      e
      ∙ ap (λ (m : ℕ). least m (values part)) l
      ∙ least-cong (node_count b i) _ _
      (λ k h. ap (λ (x : List ℕ). values x k) p ∙ part-value discounts (row_start b i) (node_count b i) k h)

-- the product of the least of two rows fits
pub least_fits : (n m : ℕ) {x y : ℕ} (f g : ℕ → ℕ) → x ≡ least n f → y ≡ least m g → x * y ≤ 1210000000000000000
least_fits n m {x} {y} f g ex ey =
    mul-le-mul {n₁ = x} {m₁ = y} {n₂ = most_discount} {m₂ = most_discount} (omega (arith, ex, least-most n f)) (omega (arith, ey, least-most m g))
