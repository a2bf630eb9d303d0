-- Laws of rows for every reversion: J is the first node whose z is above 1,840; rows tile the memory with no gap and no overlap.
-- Assumes nothing.
use mathlib.Core.Path.{◌≡◌, refl}
use Prim.Native.Nat.{ℕ, zero, suc, ◌+◌, ◌*◌, ◌/◌, ◌≤◌, ◌<◌, min}
use native.Mathlib.Nat.{mul-suc, suc-mul, mul-le-mul, mul-le-mul_right, add-mul, one-mul, div-add-mod', mod-lt, pos_of_ne-zero, mul-zero, le_refl}
use native.Mathlib.Omega.{arith}
use borrow.Author.Tests.{eq-eqb, ne_eqb}
use Rattle.limits.specs.Limits.{most_steps, most_nodes, most_state_prices}
use Rattle.arithmetic.specs.Sum.{sum}
use Rattle.arithmetic.proofs.SumLaws.{sum-suc, sum-next, sum_grow}
use Rattle.arithmetic.proofs.Numbers.{by_equal, by_order}
use Rattle.lattice.specs.Shape.{highest_node, half_width, node_count, row_start}

pub highest-above : (b : ℕ) → 0 < b → 1840 < highest_node b * b
unfolding highest_node
highest-above b h = simp add-mul (omega (arith, div-add-mod' 1840 b, mod-lt 1840 h, one-mul b))

pub highest-within : (b : ℕ) → highest_node b * b ≤ 1840 + b
unfolding highest_node
highest-within b = simp add-mul (omega (arith, div-add-mod' 1840 b, one-mul b))

pub highest-positive : (b : ℕ) → 0 < highest_node b
unfolding highest_node
highest-positive b = omega arith

-- below J every z is at most 1,840
pub below-highest : (b j : ℕ) → j < highest_node b → j * b ≤ 1840
unfolding highest_node
below-highest b j h =
    let s : j ≤ 1840 / b = omega arith in
    omega (arith, mul-le-mul_right b s, div-add-mod' 1840 b)

pub half-flat : (b i : ℕ) → b ≡ 0 → half_width b i ≡ i
unfolding half_width
half-flat b i h = simp (eq-eqb b 0 h)

pub half-capped : (b i : ℕ) → (b ≡ 0 → ⊥) → half_width b i ≡ min i (highest_node b)
unfolding half_width
half-capped b i h = simp (ne_eqb b 0 h)

pub half-within : (b i : ℕ) → half_width b i ≤ i
half-within b i = by_equal b 0 (λ z. omega (arith, half-flat b i z)) (λ nz. omega (arith, half-capped b i nz))

-- the distance of a node of the tree from the middle: at most J, where there is one
abbrev pub Within : ℕ → ℕ → Type 0
Within b d = (b ≡ 0 → ⊥) → d ≤ highest_node b

pub within-row : (b i d : ℕ) → d ≤ half_width b i → Within b d
within-row b i d h nz = omega (arith, half-capped b i nz)

pub row_within : (b i d : ℕ) → d ≤ i → Within b d → d ≤ half_width b i
row_within b i d h w =
    by_equal b 0 (λ z. omega (arith, half-flat b i z)) (λ nz. omega (arith, half-capped b i nz, w nz))

-- without a division: a node is in the tree where its z is at most b above 1,840
pub within-by-product : (b d : ℕ) → d * b ≤ 1840 + b → Within b d
within-by-product b d h nz =
    by_order d (highest_node b) (λ l. l)
    (λ l. absurd (absent (mul-le-mul_right b l) (highest-above b (pos_of_ne-zero nz))))
  where
    absent : suc (highest_node b) * b ≤ d * b → 1840 < highest_node b * b → ⊥
    absent g a = omega (arith, suc-mul (highest_node b) b)

-- J itself, without a division: the least distance whose z is above 1,840
pub highest-is : (b j : ℕ) → (b ≡ 0 → ⊥) → 1840 < j * b → j * b ≤ 1840 + b → j ≡ highest_node b
highest-is b j nz above within =
    by_order (highest_node b) j
    (λ l. omega (arith, within-by-product b j within nz))
    (λ l. omega (arith, below-highest b j l))

pub product-within : (b d : ℕ) → Within b d → d * b ≤ 1840 + b
product-within b d w =
    by_equal b 0 (λ z. rw z (omega (arith, mul-zero d)))
    (λ nz. omega (arith, mul-le-mul_right b (w nz), highest-within b))

pub half-grows : (b i : ℕ) → half_width b i ≤ half_width b (suc i)
half-grows b i =
    by_equal b 0
    (λ z. omega (arith, half-flat b i z, half-flat b (suc i) z))
    (λ nz. omega (arith, half-capped b i nz, half-capped b (suc i) nz))

-- later rows are no narrower
pub half-later : (b i n : ℕ) → i ≤ n → half_width b i ≤ half_width b n
half-later b i n h =
    row_within b n (half_width b i) (omega (arith, half-within b i)) (within-row b i (half_width b i) (le_refl (half_width b i)))

-- a row as wide as the next is as wide as rows get
pub half_full : (b i : ℕ) → half_width b (suc i) ≡ half_width b i → (b ≡ 0 → ⊥) × (half_width b i ≡ highest_node b)
half_full b i e = (not-flat, omega (arith, half-capped b i not-flat, half-capped b (suc i) not-flat))
  where
    not-flat : b ≡ 0 → ⊥
    not-flat z = omega (arith, half-flat b i z, half-flat b (suc i) z)

pub half-root : (b : ℕ) → half_width b 0 ≡ 0
half-root b = omega (arith, half-within b 0)

pub count-within : (b i : ℕ) → i ≤ most_steps → node_count b i ≤ most_nodes
unfolding node_count
count-within b i h = omega (arith, half-within b i)

pub count-positive : (b i : ℕ) → 0 < node_count b i
unfolding node_count
count-positive b i = omega arith

-- ---- rows stored row after row

pub start_first : (b : ℕ) → row_start b 0 ≡ 0
unfolding row_start sum
start_first b = refl

pub start-suc : (b i : ℕ) → row_start b (suc i) ≡ row_start b i + node_count b i
unfolding row_start
start-suc b i = sum-suc i (node_count b)

-- the same, as code counts rows
pub start-next : (b i : ℕ) → row_start b (i + 1) ≡ row_start b i + node_count b i
unfolding row_start
start-next b i = sum-next i (node_count b)

pub start-grow : (b i n : ℕ) → i ≤ n → row_start b i ≤ row_start b n
unfolding row_start
start-grow b i n h = sum_grow n i (node_count b) h

-- a row ends where the next starts, inside the part that a tree of n rows needs
pub row_ends : (b i n : ℕ) → i < n → row_start b i + node_count b i ≤ row_start b n
row_ends b i n h = omega (arith, start-grow b (i + 1) n (omega arith), start-next b i)

-- rows that still grow: their squares
pub start-square : (b i : ℕ) → Within b i → row_start b i ≡ i * i
unfolding row_start sum node_count
start-square b zero w = refl
start-square b (suc i) w =
    let h : Within b i = λ (nz : b ≡ 0 → ⊥). let g = w nz in omega arith in
    let s = start-square b i h in
    let e : half_width b i ≡ i = by_equal b 0 (λ z. half-flat b i z) (λ nz. omega (arith, half-capped b i nz, h nz)) in
    simp (mul-suc, suc-mul) (omega (arith, s, e))

-- rows past J: each has 2 J + 1 nodes
pub start-capped : (b d : ℕ) → (b ≡ 0 → ⊥) →
    row_start b (highest_node b + d) ≡ highest_node b * highest_node b + d * (2 * highest_node b + 1)
unfolding row_start sum node_count
start-capped b zero nz =
    let e : highest_node b + 0 ≡ highest_node b = omega arith in
    rw e (omega (arith, start-square b (highest_node b) (λ _. le-self)))
  where
    le-self : highest_node b ≤ highest_node b
    le-self = omega arith
start-capped b (suc d) nz =
    let e : highest_node b + suc d ≡ suc (highest_node b + d) = omega arith in
    rw e (omega (arith, start-capped b d nz, half-capped b (highest_node b + d) nz))

pub start-most : (b i : ℕ) → row_start b i ≤ i * i
unfolding row_start sum node_count
start-most b zero = omega arith
start-most b (suc i) = simp (mul-suc, suc-mul) (omega (arith, start-most b i, half-within b i))

pub start-within : (b i : ℕ) → i ≤ most_steps + 1 → row_start b i ≤ most_state_prices
start-within b i h = omega (arith, start-most b i, mul-le-mul h h)
