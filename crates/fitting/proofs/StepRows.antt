-- The loops of one step: what each holds after k nodes, and that it stays small.
-- Assumes nothing.
use mathlib.Core.Path.{◌≡◌, sym, ◌∙◌, ap}
use mathlib.Core.Bool.{Bool, true, false, cond}
use mathlib.Core.List.{List}
use Prim.Native.Nat.{ℕ, ◌+◌, ◌*◌, ◌/◌, ◌≤◌, ◌<◌}
use native.Mathlib.Nat.{mul-le-mul, le_refl}
use native.Mathlib.Omega.{arith}
use lib.ListN.{length}
use Rattle.arithmetic.specs.Rounding.{one}
use Rattle.arithmetic.specs.Sum.{sum, only}
use Rattle.arithmetic.specs.Row.{row, values, each}
use Rattle.arithmetic.proofs.SumLaws.{sum-next, sum_grow, sum-weigh-le, sum-term, only-most}
use Rattle.arithmetic.proofs.RowLaws.{row-cong, values-row, length-row, each_holds, added-length, added-value}
use Rattle.tree.specs.Tree.{Transition, Inside, Total, chance, incoming, probability_total}
use Rattle.tree.proofs.StepLaws.{incoming-next, incoming-total, chance-times}
use Rattle.row_branches.specs.declared.RowBranch.{RowBranch}
use Rattle.row_branches.specs.RowBranches.{row_branch}
use Rattle.row_branches.specs.inside.Transitions.{branch_up, branch_middle, branch_down, branch_total, row_transition}
use Rattle.row_branches.proofs.BranchLaws.{backwards}
use Rattle.limits.specs.Limits.{most_discount, is_discount, most_quote}
use Rattle.limits.proofs.LimitLaws.{discount-most}
use Rattle.fit_laws.specs.Step.{carried}
use Rattle.fit_laws.proofs.StepLaws.{carried-le}
use Rattle.fitting.specs.inside.Preconditions.{Factors, SpreadReady}
use Rattle.fit_laws.specs.inside.Bounds.{most_factor, most_row_sum, most_carried, most_incoming}

-- the sum of state price × factor over the first k nodes, and one node more
abbrev pub weighed : List ℕ → List ℕ → ℕ → ℕ
weighed state-prices factors k = sum k (λ i. values state-prices i * values factors i)

module _ (state-prices factors : List ℕ) (f : Factors factors (length state-prices)) (s : sum (length state-prices) (values state-prices) ≤ most_row_sum)
    {k total : ℕ} (e : total ≡ weighed state-prices factors k) (h : k < length state-prices) where
  pub weighed-next : total + values state-prices k * values factors k ≡ weighed state-prices factors (k + 1)
  weighed-next = rw e (sym (sum-next k (λ i. values state-prices i * values factors i)))

  pub weighed-small : total + values state-prices k * values factors k ≤ most_row_sum * most_factor
  weighed-small =
      omega (
        arith,
        weighed-next,
        sum_grow (length state-prices) (k + 1) (λ i. values state-prices i * values factors i) (omega arith),
        sum-weigh-le (length state-prices) most_factor (values state-prices) (values factors) f.at_most,
      )

pub quoted-small : (p x : ℕ) → p ≤ most_quote → x ≤ most_factor → p * x ≤ most_quote * most_factor
quoted-small p x hp hx = mul-le-mul hp hx

-- the carried amounts of state prices of at most 2,000,000,300 in sum, at discounts of at most 1.1
module _ (n : ℕ) (q v : ℕ → ℕ) (hs : sum n q ≤ most_row_sum) (hv : (k : ℕ) → k < n → v k ≤ most_discount) where
  carried-sum : sum n (carried q v) ≤ most_carried
  carried-sum = omega (arith, carried-le n q v, sum-weigh-le n most_discount q v hv)

-- what a branch hands on: each product is small, and so is each sum after it is added, up, middle and down in turn
module _ {b : RowBranch} {x : ℕ} {l : List ℕ} (r : SpreadReady b x l) where
  product_small : (p : ℕ) → p ≤ probability_total → p * x ≤ probability_total * most_carried
  product_small p hp = mul-le-mul hp r.amount-most

  pub up_small : branch_up b * x ≤ probability_total * most_carried
  up_small = product_small (branch_up b) (omega (arith, r.branch-most))

  pub middle-small : branch_middle b * x ≤ probability_total * most_carried
  middle-small = product_small (branch_middle b) (omega (arith, r.branch-most))

  pub down-small : branch_down b * x ≤ probability_total * most_carried
  down-small = product_small (branch_down b) (omega (arith, r.branch-most))

  pub up_fits : (b.low + 2 < length l) × (values l (b.low + 2) + branch_up b * x < 18446744073709551616)
  up_fits = (r.branch-inside, omega (arith, up_small, r.sums-most (b.low + 2) r.branch-inside))

  module _ {l₁ : List ℕ} (e₁ : l₁ ≡ row (length l) (λ j. values l j + only (b.low + 2) j (branch_up b * x))) where
    length₁ : length l₁ ≡ length l
    length₁ = added-length l l₁ (b.low + 2) (branch_up b * x) e₁

    small₁ : (j : ℕ) → j < length l → values l₁ j ≤ most_incoming + probability_total * most_carried
    small₁ j h =
        omega (
          arith,
          added-value l l₁ (b.low + 2) (branch_up b * x) e₁ j h,
          only-most (b.low + 2) j (branch_up b * x),
          up_small,
          r.sums-most j h,
        )

    pub middle-fits : (b.low + 1 < length l₁) × (values l₁ (b.low + 1) + branch_middle b * x < 18446744073709551616)
    middle-fits = (omega (arith, length₁, r.branch-inside), omega (arith, middle-small, small₁ (b.low + 1) (omega (arith, r.branch-inside))))

    module _ {l₂ : List ℕ} (e₂ : l₂ ≡ row (length l₁) (λ j. values l₁ j + only (b.low + 1) j (branch_middle b * x))) where
      pub down_fits : (b.low < length l₂) × (values l₂ b.low + branch_down b * x < 18446744073709551616)
      down_fits =
          let n = added-length l₁ l₂ (b.low + 1) (branch_middle b * x) e₂ in
          let h : b.low < length l₁ = omega (arith, length₁, r.branch-inside) in (
            omega (arith, n, length₁, r.branch-inside),
            omega (
              arith,
              added-value l₁ l₂ (b.low + 1) (branch_middle b * x) e₂ b.low h,
              only-most (b.low + 1) b.low (branch_middle b * x),
              middle-small,
              down-small,
              small₁ b.low (omega (arith, r.branch-inside)),
            ),
          )

-- the next row after k nodes stays small, and takes in one node more
module _ (t : Transition) (n m : ℕ) (c : ℕ → ℕ) (inside : Inside t n m) (total : Total t n) (hs : sum n c ≤ most_carried) where
  incoming-small : (k j : ℕ) → k ≤ n → j < m → incoming t k c j ≤ most_incoming
  incoming-small k j h i =
      omega (
        arith,
        sum-term m j (incoming t k c) i,
        incoming-total t k m c (λ a b. inside a (omega arith)) (λ a b. total a (omega arith)),
        sum_grow n k c h,
      )

  row_small : (k : ℕ) (l : List ℕ) → k ≤ n → l ≡ row m (incoming t k c) → (j : ℕ) → j < length l → values l j ≤ most_incoming
  row_small k l h e j i =
      let w : length l ≡ m = ap length e ∙ length-row m _ in
      let i' : j < m = omega arith in
      rw (ap (λ (x : List ℕ). values x j) e ∙ values-row m j _ i') (incoming-small k j h i')

-- a branch's three additions as one of what it hands on
pub spread-once :
    (downs : List ℕ) (k x : ℕ) (l l' : List ℕ) (b : RowBranch) → b ≡ row_branch downs (length l) k →
    l' ≡ row (length l) (λ j. values l j
    + (only (b.low + 2) j (branch_up b * x) + only (b.low + 1) j (branch_middle b * x) + only b.low j (branch_down b * x))) →
    l' ≡ row (length l) (λ j. values l j + chance (row_transition downs (length l)) k j * x)
unfolding row_transition
spread-once downs k x l l' b e e' =
    e' ∙ rw e (row-cong (length l) _ _ (λ j _. ap (λ (y : ℕ). values l j + y)
    (backwards _ _ _ ∙ chance-times (row_transition downs (length l)) k j x)))

-- node k of a row, whose discounts v before it are accepted: branches t into a next row of m nodes, state prices q
pub record AtNode (t : Transition) (n m : ℕ) (q v : ℕ → ℕ) (k : ℕ) : Type 0 where
  pub inside : Inside t n m
  pub total : Total t n
  pub row-sum-most : sum n q ≤ most_row_sum
  pub in_row : k < n
  pub accepted : each k (λ i. is_discount (v i)) ≡ true

module _ {t : Transition} {n m : ℕ} {q v : ℕ → ℕ} {k : ℕ} (a : AtNode t n m q v k) where
  accepted-most : (i : ℕ) → i < k → v i ≤ most_discount
  accepted-most i h = discount-most (v i) (each_holds k i (λ i. is_discount (v i)) a.accepted h)

  carried-so-far : sum k (carried q v) ≤ most_carried
  carried-so-far = carried-sum k q v (omega (arith, a.row-sum-most, sum_grow n k q (omega (arith, a.in_row)))) accepted-most

  pub sums-small : (l : List ℕ) → l ≡ row m (incoming t k (carried q v)) → (j : ℕ) → j < length l → values l j ≤ most_incoming
  sums-small l e =
      row_small t k m (carried q v) (λ i h. a.inside i (omega (arith, a.in_row))) (λ i h. a.total i (omega (arith, a.in_row)))
      carried-so-far k l (le_refl k) e

  module _ (this : is_discount (v k) ≡ true) where
    pub product-most : q k * v k ≤ most_row_sum * most_discount
    product-most =
        let price = sum-term n k q a.in_row in
        mul-le-mul {n₁ = q k} {m₁ = v k} {n₂ = most_row_sum} {m₂ = most_discount} (omega (arith, a.row-sum-most)) (discount-most (v k) this)

    pub amount-most : q k * v k / one ≤ most_carried
    amount-most = omega (arith, product-most)

    pub sums_next : (l l' : List ℕ) (x : ℕ) → x ≡ carried q v k → l ≡ row m (incoming t k (carried q v)) →
        l' ≡ row (length l) (λ j. values l j + chance t k j * x) → l' ≡ row m (incoming t (k + 1) (carried q v))
    sums_next l l' x ex e e' =
        e'
        ∙ (ap (λ (y : ℕ). row y (λ j. values l j + chance t k j * x)) (ap length e ∙ length-row m _)
        ∙ row-cong m _ _ (λ j h. one_more j h))
      where
        one_more : (j : ℕ) → j < m → values l j + chance t k j * x ≡ incoming t (k + 1) (carried q v) j
        one_more j h =
            ap (λ (y : ℕ). y + chance t k j * x) (ap (λ (y : List ℕ). values y j) e ∙ values-row m j _ h)
            ∙ ap (λ (y : ℕ). incoming t k (carried q v) j + chance t k j * y) ex
            ∙ sym (incoming-next t k (carried q v) j)

-- what a branch asks of the next row
pub node-asks : (downs : List ℕ) (next n k : ℕ) → Inside (row_transition downs next) n next → Total (row_transition downs next) n → k < n →
    ((row_branch downs next k).low + 2 < next) × (branch_total (row_branch downs next k) ≤ probability_total)
unfolding row_transition
node-asks downs next n k inside total h = (inside k h, omega (arith, total k h))

-- a test that failed did not pass
pub never : {X : Type 0} → false ≡ true → X
never e = absurd (different (ap (λ (t : Bool). cond t 1 0) e))
  where
    different : ◌≡◌ {A = ℕ} 0 1 → ⊥
    different z = omega arith
