-- The entries' answers by the tests that code makes, and what callers use of them.
-- Assumes nothing.
use mathlib.Core.Path.{◌≡◌, refl, sym, ap, ◌∙◌}
use mathlib.Core.Bool.{Bool, true, false, cond}
use mathlib.Core.List.{[], ◌∷◌}
use Prim.Native.Nat.{ℕ, ◌+◌, ◌-◌, ◌*◌, ◌/◌, ◌≤◌, ◌<◌, min}
use native.Mathlib.Nat.{div-le_self, mul-le-mul, pos_of_ne-zero}
use native.Mathlib.Omega.{arith}
use lib.Dec.{eqb, ltb}
use borrow.Author.Tests.{ne_eqb, lt-ltb, le-ltb, eqb-true}
use lib.IntN.{pos, nat_abs}
use Rattle.arithmetic.specs.Answers.{refused, answered}
use Rattle.arithmetic.specs.declared.Answer.{Answer}
use Rattle.arithmetic.proofs.Numbers.{by_order, by_equal}
use Rattle.limits.specs.Limits.{shape_cause, most_steps, most_state_prices}
use Rattle.limits.proofs.LimitLaws.{shape-empty, shape-long, shape-steep, shape-found}
use Rattle.lattice.specs.Shape.{highest_node, half_width, row_start}
use Rattle.lattice.specs.Branching.{ordinary, top, z_of, up_formula, middle_formula, down_formula}
use Rattle.lattice.specs.Branching.{up_probability, middle_probability, down_probability, probabilities}
use Rattle.lattice.specs.Entries.{about_row, about_tree}
use Rattle.lattice.proofs.Sizes.{half-flat, half-capped, half-within, start-square, start-capped, within-by-product}
use Rattle.lattice.proofs.Nodes.{ordinary-node, top-node}

module _ (b i result : ℕ) where
  pub row-steep : 6000 < b → about_row b i result ≡ refused 4
  unfolding about_row
  row-steep h = rw (lt-ltb 6000 b h)

  module _ (hb : b ≤ 6000) where
    pub row-past : 60 < i → about_row b i result ≡ refused 6
    unfolding about_row
    row-past h = rw (le-ltb 6000 b hb, lt-ltb 60 i h)

    -- accepted: the number itself
    pub row-found : i ≤ 60 → about_row b i result ≡ answered result
    unfolding about_row
    row-found h = rw (le-ltb 6000 b hb, le-ltb 60 i h)

-- a quotient of a small number, and one more, fits 64 bits
pub highest-fits : (a d : ℕ) → a < 10000 → a / d + 1 < 18446744073709551616
highest-fits a d h = omega (arith, div-le_self a d)

-- what is worked out for a row that is not in the tree does not show
pub row-clipped : (b i : ℕ) (f : ℕ → ℕ) → about_row b i (f (min i 60)) ≡ about_row b i (f i)
unfolding about_row
row-clipped b i f =
    by_order i 60
    (λ h. let e : min i 60 ≡ i = omega arith in ap (λ (x : ℕ). cond (ltb 6000 b) (refused 4) (cond (ltb 60 i) (refused 6) (answered (f x)))) e)
    (λ h. rw (lt-ltb 60 i h))

pub row-answer : (b i : ℕ) (f : ℕ → ℕ) (y x : ℕ) → y ≡ min i 60 → x ≡ f y → about_row b i x ≡ about_row b i (f i)
row-answer b i f y x ey ex = ap (about_row b i) (ex ∙ ap f ey) ∙ row-clipped b i f

module _ (n b result : ℕ) where
  pub tree-refused : (x : ℕ) → x ≡ shape_cause n b → (x ≡ 0 → ⊥) → about_tree n b result ≡ refused x
  unfolding about_tree
  tree-refused x e nz = rw (← e, ne_eqb x 0 nz)

  pub tree-answered : shape_cause n b ≡ 0 → about_tree n b result ≡ answered result
  unfolding about_tree
  tree-answered e = rw e

  -- an answer's number is the cause, and without one its value is the number itself
  pub tree-number : (a : Answer) → a ≡ about_tree n b result → a.number ≡ shape_cause n b
  unfolding about_tree
  tree-number a e = ap (λ (r : Answer). r.number) e ∙ go (eqb (shape_cause n b) 0) refl
    where
      go : (t : Bool) → eqb (shape_cause n b) 0 ≡ t → (cond t (answered result) (refused (shape_cause n b))).number ≡ shape_cause n b
      go true q = sym (eqb-true (shape_cause n b) 0 q)
      go false q = refl

  pub tree-result : (a : Answer) → a ≡ about_tree n b result → shape_cause n b ≡ 0 → a.value ≡ result
  tree-result a e z = ap (λ (r : Answer). r.value) (e ∙ tree-answered z)

  pub tree-empty : n ≡ 0 → about_tree n b result ≡ refused 3
  tree-empty h = tree-refused 3 (sym (shape-empty n b h)) (λ z. omega arith)

  module _ (some : n ≡ 0 → ⊥) where
    pub tree-long : 60 < n → about_tree n b result ≡ refused 3
    tree-long h = tree-refused 3 (sym (shape-long n b h)) (λ z. omega arith)

    module _ (few : n ≤ 60) where
      pub tree-steep : 6000 < b → about_tree n b result ≡ refused 4
      tree-steep h = tree-refused 4 (sym (shape-steep n b (pos_of_ne-zero some) few h)) (λ z. omega arith)

      -- accepted: the number itself
      pub tree-found : b ≤ 6000 → about_tree n b result ≡ answered result
      tree-found h = tree-answered (shape-found n b (pos_of_ne-zero some) few h)

pub tree-clipped : (n b : ℕ) (f : ℕ → ℕ) → about_tree n b (f (min n 60)) ≡ about_tree n b (f n)
tree-clipped n b f =
    by_order n 60
    (λ h. let e : min n 60 ≡ n = omega arith in ap (λ (x : ℕ). about_tree n b (f x)) e)
    (λ h. tree-long n b _ (λ z. omega arith) h ∙ sym (tree-long n b _ (λ z. omega arith) h))

pub tree-answer : (n b : ℕ) (f : ℕ → ℕ) (y x : ℕ) → y ≡ min n 60 → x ≡ f y → about_tree n b x ≡ about_tree n b (f n)
tree-answer n b f y x ey ex = ap (about_tree n b) (ex ∙ ap f ey) ∙ tree-clipped n b f

-- ---- sizes as code works them out

module _ (b i : ℕ) (nz : b ≡ 0 → ⊥) where
  pub half-before : i < highest_node b → i ≡ half_width b i
  half-before h = omega (arith, half-capped b i nz)

  pub half-from : highest_node b ≤ i → highest_node b ≡ half_width b i
  half-from h = omega (arith, half-capped b i nz)

start-growing : (i w : ℕ) → w ≡ i → w * w + (i - w) * (2 * w + 1) ≡ i * i
start-growing i w e = let d : i - i ≡ 0 = omega arith in rw (e, d) (omega arith)

start-past : (J d i w : ℕ) → w ≡ J → i ≡ J + d → w * w + (i - w) * (2 * w + 1) ≡ J * J + d * (2 * J + 1)
start-past J d i w e f = let g : J + d - J ≡ d = omega arith in rw (e, f, g)

pub start-form : (b i : ℕ) → half_width b i * half_width b i + (i - half_width b i) * (2 * half_width b i + 1) ≡ row_start b i
start-form b i =
    by_equal b 0
    (λ z. start-growing i (half_width b i) (half-flat b i z) ∙ sym (start-square b i (λ nz. absurd (nz z))))
    (λ nz. by_order i (highest_node b)
    (λ h. start-growing i (half_width b i) (omega (arith, half-capped b i nz)) ∙ sym (start-square b i (λ _. h)))
    (λ h.
    let d : highest_node b + (i - highest_node b) ≡ i = omega arith in
    start-past (highest_node b) (i - highest_node b) i (half_width b i) (omega (arith, half-capped b i nz)) (sym d)
    ∙ sym (start-capped b (i - highest_node b) nz) ∙ ap (row_start b) d))

pub start_fits : (b i w : ℕ) → w ≡ half_width b i → i ≤ most_steps + 1 → (w ≤ i) × (w * w ≤ most_state_prices) × ((i - w) * (2 * w + 1) ≤ 7503)
start_fits b i w e h =
    let l : w ≤ i = omega (arith, half-within b i) in
    let s : w ≤ 61 = omega arith in
    (l, mul-le-mul s s, mul-le-mul {n₁ = i - w} {m₁ = 2 * w + 1} {n₂ = 61} {m₂ = 123} (omega arith) (omega arith))

-- ---- the probabilities of the upper side as code works them out

module _ (b d : ℕ) where
  pub three-ordinary : d * b ≤ 1840 →
      probabilities b (pos d)
      ≡ nat_abs (up_formula ordinary (pos (d * b))) ∷ nat_abs (middle_formula ordinary (pos (d * b))) ∷ nat_abs (down_formula ordinary (pos (d * b))) ∷ []
  unfolding up_probability middle_probability down_probability z_of
  three-ordinary h = rw (ordinary-node b d h)

  pub three-top : d * b ≤ 1840 + b → 1840 < d * b →
      probabilities b (pos d)
      ≡ nat_abs (up_formula top (pos (d * b))) ∷ nat_abs (middle_formula top (pos (d * b))) ∷ nat_abs (up_formula ordinary (pos (d * b))) ∷ []
  unfolding up_probability middle_probability down_probability z_of up_formula down_formula
  three-top w h = rw (top-node b d (within-by-product b d w) h)
