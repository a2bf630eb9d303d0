-- Laws of one step, for any width and any transition. Duality: what flows into the next row, weighed by values there, is what stands on this
-- row weighed by the values rolled back.
-- Assumes nothing.
use mathlib.Core.Path.{◌≡◌, refl, ◌∙◌, ap}
use Prim.Native.Nat.{ℕ, zero, suc, ◌+◌, ◌*◌, ◌≤◌, ◌<◌}
use native.Mathlib.Nat.{add-mul, mul-le-mul_left}
use native.Mathlib.Omega.{arith}
use Rattle.arithmetic.specs.Sum.{sum, only}
use Rattle.tree.specs.Tree.{Transition, Tree, Inside, Total, Sound, chance, incoming, outgoing, probability_total}
use Rattle.arithmetic.proofs.SumLaws.{sum-cong, sum-add, sum-scale, sum-swap, sum-only, sum-next, sum-le, only-times}

-- what node k hands on, weighed by the values where its branches lead
chance-row : (t : Transition) (m k : ℕ) (v : ℕ → ℕ) → t.low k + 2 < m → sum m (λ j. chance t k j * v j) ≡ outgoing t v k
unfolding chance outgoing
chance-row t m k v h =
    sum-cong m _ (λ j. (only a j x * v j + only (a + 1) j y * v j) + only (a + 2) j z * v j) (λ j l. omega arith)
    ∙ (sum-add m (λ j. only a j x * v j + only (a + 1) j y * v j) (λ j. only (a + 2) j z * v j)
    ∙ omega (
      arith,
      sum-add m (λ j. only a j x * v j) (λ j. only (a + 1) j y * v j),
      sum-only m a x v (omega arith),
      sum-only m (a + 1) y v (omega arith),
      sum-only m (a + 2) z v h,
    ))
  where
    a : ℕ
    a = t.low k

    x : ℕ
    x = t.down k

    y : ℕ
    y = t.middle k

    z : ℕ
    z = t.up k

pub duality :
    (t : Transition) (n m : ℕ) (c v : ℕ → ℕ) → Inside t n m →
    sum m (λ j. incoming t n c j * v j) ≡ sum n (λ k. c k * outgoing t v k)
unfolding incoming
duality t n m c v h =
    sum-cong m _ (λ j. sum n (λ k. c k * (chance t k j * v j))) (λ j l. inner j)
    ∙ (sum-swap n m (λ k j. c k * (chance t k j * v j))
    ∙ sum-cong n _ _ (λ k l. sum-scale m (c k) (λ j. chance t k j * v j) ∙ rw (chance-row t m k v (h k l)) refl))
  where
    inner : (j : ℕ) → sum n (λ k. chance t k j * c k) * v j ≡ sum n (λ k. c k * (chance t k j * v j))
    inner j =
        omega (
          arith,
          sum-scale n (v j) (λ k. chance t k j * c k),
          sum-cong n (λ k. c k * (chance t k j * v j)) (λ k. v j * (chance t k j * c k)) (λ k l. omega arith),
        )

-- what flows into the next row is the whole times what stood on this one
pub incoming-total :
    (t : Transition) (n m : ℕ) (c : ℕ → ℕ) → Inside t n m → Total t n →
    sum m (λ j. incoming t n c j) ≡ probability_total * sum n c
unfolding outgoing
incoming-total t n m c h p =
    sum-cong m _ (λ j. incoming t n c j * 1) (λ j l. omega arith)
    ∙ (duality t n m c (λ j. 1) h
    ∙ (sum-cong n _ (λ k. probability_total * c k) (λ k l. product k l) ∙ sum-scale n probability_total c))
  where
    product : (k : ℕ) → k < n → c k * (t.down k * 1 + t.middle k * 1 + t.up k * 1) ≡ probability_total * c k
    product k l =
        let e : t.down k * 1 + t.middle k * 1 + t.up k * 1 ≡ probability_total = omega (arith, p k l) in
        rw e (omega arith)

-- one node more: what flows into node j
pub incoming-next : (t : Transition) (n : ℕ) (c : ℕ → ℕ) (j : ℕ) → incoming t (n + 1) c j ≡ incoming t n c j + chance t n j * c n
unfolding incoming
incoming-next t n c j = sum-next n (λ k. chance t k j * c k)

pub incoming-none : (t : Transition) (c : ℕ → ℕ) (j : ℕ) → incoming t 0 c j ≡ 0
unfolding incoming sum
incoming-none t c j = refl

-- the branches of a node, one place after the other
pub chance-times :
    (t : Transition) (k j c : ℕ) →
    only (t.low k) j (t.down k * c) + only (t.low k + 1) j (t.middle k * c) + only (t.low k + 2) j (t.up k * c) ≡ chance t k j * c
unfolding chance
chance-times t k j c =
    omega (
      arith,
      only-times (t.low k) j (t.down k) c,
      only-times (t.low k + 1) j (t.middle k) c,
      only-times (t.low k + 2) j (t.up k) c,
    )

pub incoming-cong :
    (t : Transition) (n : ℕ) (c d : ℕ → ℕ) → ((k : ℕ) → k < n → c k ≡ d k) → (j : ℕ) → incoming t n c j ≡ incoming t n d j
unfolding incoming
incoming-cong t n c d h j = sum-cong n _ _ (λ k l. ap (λ (x : ℕ). chance t k j * x) (h k l))

pub incoming-le : (t : Transition) (n : ℕ) (c d : ℕ → ℕ) → ((k : ℕ) → k < n → c k ≤ d k) → (j : ℕ) → incoming t n c j ≤ incoming t n d j
unfolding incoming
incoming-le t n c d h j = sum-le n _ _ (λ k l. mul-le-mul_left (chance t k j) (h k l))

pub incoming-scale : (t : Transition) (n a : ℕ) (c : ℕ → ℕ) (j : ℕ) → incoming t n (λ k. a * c k) j ≡ a * incoming t n c j
unfolding incoming
incoming-scale t n a c j = sum-cong n _ (λ k. a * (chance t k j * c k)) (λ k l. omega arith) ∙ sum-scale n a (λ k. chance t k j * c k)

-- every row of a tree has a node
pub row-positive : (t : Tree) → Sound t → (i : ℕ) → 0 < t.nodes i
row-positive t s zero = omega (arith, s.root)
row-positive t s (suc i) = omega (arith, s.inside i 0 (row-positive t s i))

-- What a node's branches reach decides its sum.
module _ (t : Transition) (n m : ℕ) (inside : Inside t n m) (v w : ℕ → ℕ) (k : ℕ) (hk : k < n) where
  pub outgoing-le : ((j : ℕ) → j < m → v j ≤ w j) → outgoing t v k ≤ outgoing t w k
  unfolding outgoing
  outgoing-le h =
      let a = inside k hk in
      omega (
        arith,
        mul-le-mul_left (t.down k) (h (t.low k) (omega arith)),
        mul-le-mul_left (t.middle k) (h (t.low k + 1) (omega arith)),
        mul-le-mul_left (t.up k) (h (t.low k + 2) a),
      )

-- the sum of one value on all branches
pub outgoing-same :
    (t : Transition) (n m : ℕ) → Inside t n m → Total t n → (v : ℕ → ℕ) (a k : ℕ) → k < n → ((j : ℕ) → j < m → v j ≡ a) →
    outgoing t v k ≡ probability_total * a
unfolding outgoing
outgoing-same t n m inside total v a k hk h =
    let r = inside k hk in
    rw (h (t.low k) (omega arith), h (t.low k + 1) (omega arith), h (t.low k + 2) r)
    (omega (arith, add-mul (t.down k + t.middle k) (t.up k) a, add-mul (t.down k) (t.middle k) a, ap (λ (x : ℕ). x * a) (total k hk)))
