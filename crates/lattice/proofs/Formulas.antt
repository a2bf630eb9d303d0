-- Document 01's formulas at z = a and z = −a: none is below 0 on a node of the tree, and the two sides mirror one another.
-- Assumes nothing.
use mathlib.Core.Path.{◌≡◌, refl, sym, subst, ap, ◌∙◌}
use Prim.Native.Nat.{ℕ, zero, suc, ◌+◌, ◌-◌, ◌*◌, ◌≤◌}
use native.Mathlib.Nat.{sub-add_cancel, mul-le-mul, mul-zero}
use native.Mathlib.Omega.{arith}
use lib.IntN.{ℤ, pos, neg_ℤ, ◌+ℤ◌, ◌*ℤ◌, +ℤ-neg_ℤ_cancel, neg_ℤ-neg_ℤ, neg_ℤ-+ℤ, +ℤ_comm}
use Rattle.arithmetic.proofs.Numbers.{tangent, between}
use Rattle.lattice.specs.Branching.{Branching, ordinary, top, bottom, up_formula, middle_formula, down_formula}
use Rattle.lattice.proofs.Destinations.{change-of, square-of}

-- a difference that is at least 0
pub pos-minus : (x y : ℕ) → y ≤ x → pos x +ℤ neg_ℤ (pos y) ≡ pos (x - y)
pos-minus x y h =
    subst (λ (t : ℕ). pos t +ℤ neg_ℤ (pos y) ≡ pos (x - y)) (sub-add_cancel h) (+ℤ-neg_ℤ_cancel (pos (x - y)) (pos y))

-- a difference that is at most 0
pub neg-minus : (x y : ℕ) → x ≤ y → pos x +ℤ neg_ℤ (pos y) ≡ neg_ℤ (pos (y - x))
neg-minus x y h =
    +ℤ_comm (pos x) (neg_ℤ (pos y))
    ∙ ap (λ (t : ℤ). neg_ℤ (pos y) +ℤ t) (sym (neg_ℤ-neg_ℤ (pos x)))
    ∙ sym (neg_ℤ-+ℤ (pos y) (neg_ℤ (pos x)))
    ∙ ap neg_ℤ (pos-minus y x h)

-- −p − y + x
minus_plus : (p y x : ℕ) → p + y ≤ x → neg_ℤ (pos p) +ℤ neg_ℤ (pos y) +ℤ pos x ≡ pos (x - (p + y))
minus_plus p y x h =
    ap (λ (t : ℤ). t +ℤ pos x) (sym (neg_ℤ-+ℤ (pos p) (pos y))) ∙ +ℤ_comm (neg_ℤ (pos (p + y))) (pos x) ∙ pos-minus x (p + y) h

pub times-negative : (c x : ℕ) → pos c *ℤ neg_ℤ (pos x) ≡ neg_ℤ (pos (c * x))
times-negative c zero = rw mul-zero
times-negative c (suc x) = refl

-- Three numbers of a node on the upper side by its branching, a = z: each with its difference written as a sum.
pub record Upper (r : Branching) (a u m d : ℕ) : Type 0 where
  pub up_is : up_formula r (pos a) ≡ pos u
  pub middle-is : middle_formula r (pos a) ≡ pos m
  pub down_is : down_formula r (pos a) ≡ pos d
  pub total : u + m + d ≡ 600000000
  pub change-is : change-of r u m d ≡ neg_ℤ (pos (60000 * a))
  pub square-is : square-of r u m d ≡ 2 * (100000000 + 3 * (a * a))

-- no difference is cut off
pub ordinary-up-whole : (a : ℕ) → 30000 * a ≤ 100000000 + 3 * (a * a)
ordinary-up-whole a = omega (arith, tangent a 5000)

pub edge-up-whole : (a : ℕ) → 90000 * a ≤ 700000000 + 3 * (a * a)
edge-up-whole a = omega (arith, tangent a 15000)

pub ordinary-middle-whole : (a : ℕ) → a ≤ 1840 → 6 * (a * a) ≤ 400000000
ordinary-middle-whole a h = omega (arith, mul-le-mul h h)

pub edge-middle-whole : (a : ℕ) → 1841 ≤ a → a ≤ 7840 → 200000000 + 6 * (a * a) ≤ 120000 * a
edge-middle-whole a l u = omega (arith, between a 1841 7840 l u)

-- z is at most 7,840 anywhere in the tree
pub square-within : (a : ℕ) → a ≤ 7840 → a * a ≤ 61465600
square-within a h = mul-le-mul h h

pub upper-ordinary : (a : ℕ) → a ≤ 1840 →
    Upper ordinary a (100000000 + 3 * (a * a) - 30000 * a) (400000000 - 6 * (a * a)) (100000000 + 3 * (a * a) + 30000 * a)
unfolding up_formula middle_formula down_formula change-of square-of
upper-ordinary a h =
    let o = ordinary-up-whole a in
    let c = ordinary-middle-whole a h in
    let e : 100000000 + 3 * (a * a) + 30000 * a - (100000000 + 3 * (a * a) - 30000 * a) ≡ 60000 * a = omega arith in
    record {
      up_is = pos-minus (100000000 + 3 * (a * a)) (30000 * a) o;
      middle-is = pos-minus 400000000 (6 * (a * a)) c;
      down_is = refl;
      total = omega arith;
      change-is =
          neg-minus (100000000 + 3 * (a * a) - 30000 * a) (100000000 + 3 * (a * a) + 30000 * a) (omega arith)
          ∙ ap (λ (x : ℕ). neg_ℤ (pos x)) e;
      square-is = omega arith;
    }

pub upper-top : (a : ℕ) → 1841 ≤ a → a ≤ 7840 →
    Upper top a (700000000 + 3 * (a * a) - 90000 * a) (120000 * a - (200000000 + 6 * (a * a))) (100000000 + 3 * (a * a) - 30000 * a)
unfolding up_formula middle_formula down_formula change-of square-of
upper-top a l h =
    let o = ordinary-up-whole a in
    let s = edge-up-whole a in
    let n = edge-middle-whole a l h in
    let e : 120000 * a - (200000000 + 6 * (a * a)) + 2 * (100000000 + 3 * (a * a) - 30000 * a) ≡ 60000 * a = omega arith in
    record {
      up_is = pos-minus (700000000 + 3 * (a * a)) (90000 * a) s;
      middle-is = minus_plus 200000000 (6 * (a * a)) (120000 * a) n;
      down_is = pos-minus (100000000 + 3 * (a * a)) (30000 * a) o;
      total = omega arith;
      change-is = ap (λ (x : ℕ). neg_ℤ (pos x)) e;
      square-is = omega arith;
    }

-- ---- the lower side: up and down, and the two edges, change places

abbrev pub mirrored : Branching → Branching
mirrored ordinary = ordinary
mirrored top = bottom
mirrored bottom = top

-- a sum that adds what the other side takes away
pub up-mirrored : (r : Branching) (a : ℕ) → up_formula (mirrored r) (neg_ℤ (pos a)) ≡ down_formula r (pos a)
unfolding up_formula down_formula
up-mirrored ordinary zero = refl
up-mirrored top zero = refl
up-mirrored bottom zero = refl
up-mirrored ordinary (suc c) = ap (λ (t : ℤ). pos (100000000 + 3 * (suc c * suc c)) +ℤ t) (neg_ℤ-neg_ℤ (pos (30000 * suc c)))
up-mirrored top (suc c) = refl
up-mirrored bottom (suc c) = ap (λ (t : ℤ). pos (700000000 + 3 * (suc c * suc c)) +ℤ t) (neg_ℤ-neg_ℤ (pos (90000 * suc c)))

pub down-mirrored : (r : Branching) (a : ℕ) → down_formula (mirrored r) (neg_ℤ (pos a)) ≡ up_formula r (pos a)
unfolding up_formula down_formula
down-mirrored ordinary zero = refl
down-mirrored top zero = refl
down-mirrored bottom zero = refl
down-mirrored ordinary (suc c) = refl
down-mirrored top (suc c) = refl
down-mirrored bottom (suc c) = ap (λ (t : ℤ). pos (100000000 + 3 * (suc c * suc c)) +ℤ t) (neg_ℤ-neg_ℤ (pos (30000 * suc c)))

pub middle-mirrored : (r : Branching) (a : ℕ) → middle_formula (mirrored r) (neg_ℤ (pos a)) ≡ middle_formula r (pos a)
unfolding middle_formula
middle-mirrored ordinary zero = refl
middle-mirrored top zero = refl
middle-mirrored bottom zero = refl
middle-mirrored ordinary (suc c) = refl
middle-mirrored top (suc c) =
    ap (λ (t : ℤ). neg_ℤ (pos 200000000) +ℤ neg_ℤ (pos (6 * (suc c * suc c))) +ℤ t) (neg_ℤ-neg_ℤ (pos (120000 * suc c)))
middle-mirrored bottom (suc c) = refl

pub change-mirrored : (r : Branching) (u m d : ℕ) → change-of (mirrored r) d m u ≡ neg_ℤ (change-of r u m d)
unfolding change-of
change-mirrored ordinary u m d =
    sym (neg_ℤ-+ℤ (pos u) (neg_ℤ (pos d)) ∙ ap (λ (t : ℤ). neg_ℤ (pos u) +ℤ t) (neg_ℤ-neg_ℤ (pos d)) ∙ +ℤ_comm (neg_ℤ (pos u)) (pos d))
change-mirrored top u m d =
    let e : 2 * d + m ≡ m + 2 * d = omega arith in
    ap pos e ∙ sym (neg_ℤ-neg_ℤ (pos (m + 2 * d)))
change-mirrored bottom u m d =
    let e : m + 2 * u ≡ 2 * u + m = omega arith in
    ap (λ (x : ℕ). neg_ℤ (pos x)) e

pub square-mirrored : (r : Branching) (u m d : ℕ) → square-of (mirrored r) d m u ≡ square-of r u m d
unfolding square-of
square-mirrored ordinary u m d = omega arith
square-mirrored top u m d = omega arith
square-mirrored bottom u m d = omega arith
