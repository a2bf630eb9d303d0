-- The promise about payoffs valued by fitted state prices.
-- Assumes nothing.
use mathlib.Core.Path.{◌≡◌, refl, ap, sym, ◌∙◌}
use mathlib.Core.Bool.{Bool, true, false, cond, not, ◌&&◌}
use mathlib.Core.List.{List}
use Prim.Native.Nat.{ℕ, ◌+◌, ◌*◌, ◌/◌, ◌%◌, ◌^◌, ◌≤◌, ◌<◌}
use native.Mathlib.Omega.{arith}
use lib.Dec.{eqb, leb, ltb}
use lib.Ieee.{Float}
use lib.ListN.{length}
use borrow.Author.Tests.{eqb-false, eqb-true, ltb-false}
use Rattle.arithmetic.specs.Rounding.{one}
use Rattle.arithmetic.specs.Sum.{sum}
use Rattle.arithmetic.specs.Row.{values, sum_of}
use Rattle.arithmetic.specs.Answers.{refused, answered}
use Rattle.arithmetic.proofs.SumLaws.{sum-cong}
use Rattle.tree.specs.Tree.{unit}
use Rattle.lattice.specs.Shape.{node_count, discounts_needed}
use Rattle.lattice.specs.RateTree.{rate_tree}
use Rattle.fit_laws.specs.StatePrices.{state_price}
use Rattle.fitted_laws.specs.Entry.{fitted_number}
use Rattle.fitted_laws.proofs.Promised.{fit-sound}
use Rattle.fitted_laws.proofs.FittedTree.{fit-lent}
use Rattle.price_laws.specs.Exact.{exact_payoff}
use Rattle.arithmetic.specs.Row.{greatest_of}
use Rattle.arithmetic.proofs.Implied.{implied}
use Rattle.lent_tree.specs.LentTree.{stored}
use Rattle.valuation_laws.specs.Valuation.{value_by_state_prices, valuation_bound, valuation_error_bound, exact_price}
use Rattle.valuation_laws.proofs.ValuationLaws.{value-below, value-short}
use Rattle.limits.specs.Limits.{value_limit, sum_limit}
use Rattle.valuation.specs.Entries.{value_of, fit_aRow, value_by_state_prices_answer, valuation_cause, valuation_error_bound_answer}
use Rattle.valuation.proofs.EntryLaws as entry
use Rattle.promises.specs.Promises.{Weighed, ShortOf, Unaltered}
use Rattle.promises.proofs.StatePricesKept.{fitted-prices}

-- the values of answers that are not refused
value-given : (prices payoffs : List ℕ) → (value_by_state_prices_answer prices payoffs).number ≡ 0 →
    (value_by_state_prices_answer prices payoffs).value ≡ value_of prices payoffs
unfolding value_by_state_prices_answer
value-given prices payoffs z =
    go (not (fit_aRow prices payoffs)) (ltb value_limit (greatest_of payoffs)) (ltb sum_limit (sum_of prices))
    (ltb value_limit (value_of prices payoffs)) (value_of prices payoffs) z
  where
    go : (s t u w : Bool) (v : ℕ) →
        (cond s (refused 6) (cond t (refused 12) (cond u (refused 12) (cond w (refused 12) (answered v))))).number ≡ 0 →
        (cond s (refused 6) (cond t (refused 12) (cond u (refused 12) (cond w (refused 12) (answered v))))).value ≡ v
    go true t u w v k = absurd (omega arith)
    go false true u w v k = absurd (omega arith)
    go false false true w v k = absurd (omega arith)
    go false false false true v k = absurd (omega arith)
    go false false false false v k = refl

bound-given : (n b : ℕ) (discounts : List ℕ) (r : ℕ) (payoffs : List ℕ) → (valuation_error_bound_answer n b discounts r payoffs).number ≡ 0 →
    (valuation_error_bound_answer n b discounts r payoffs).value ≡ valuation_error_bound (rate_tree b) (stored b discounts) r (values payoffs)
unfolding valuation_error_bound_answer
bound-given n b discounts r payoffs z = go (valuation_cause n b discounts r payoffs) _ (eqb (valuation_cause n b discounts r payoffs) 0) refl z
  where
    go : (x v : ℕ) (t : Bool) → eqb x 0 ≡ t → (cond t (answered v) (refused x)).number ≡ 0 → (cond t (answered v) (refused x)).value ≡ v
    go x v true e k = refl
    go x v false e k = absurd (eqb-false x 0 e k)

-- the value and its error bound, spelled out
pub weighed-kept : (prices payoffs : List ℕ) (n b : ℕ) (discounts : List ℕ) (r : ℕ) → Weighed prices payoffs n b discounts r
unfolding value_of value_by_state_prices valuation_error_bound valuation_bound rate_tree
weighed-kept prices payoffs n b discounts r = record { value-is = value-given prices payoffs; bound-is = bound-given n b discounts r payoffs }

-- one value, by three lists of the same nodes
value-by : (n m : ℕ) (p q payoff : ℕ → ℕ) → n ≡ m → ((k : ℕ) → k < m → p k ≡ q k) → value_by_state_prices n p payoff ≡ value_by_state_prices m q payoff
unfolding value_by_state_prices
value-by n m p q payoff e h =
    ap (λ (c : ℕ). sum c (λ k. p k * payoff k) / one) e
    ∙ ap (λ (x : ℕ). x / one) (sum-cong m (λ k. p k * payoff k) (λ k. q k * payoff k) (λ k l. ap (λ (x : ℕ). x * payoff k) (h k l)))

exact_same : (b : ℕ) (discounts : List ℕ) (r : ℕ) (payoffs : List ℕ) →
    exact_price (rate_tree b) (stored b discounts) r (values payoffs) ≡ exact_payoff b discounts r payoffs
unfolding exact_price exact_payoff
exact_same b discounts r payoffs = refl

turned : (e a M x : ℕ) → M * e ≤ x → x ≤ M * (e + a) → ShortOf a M e x
turned e a M x h l = record { never-above = omega (arith, h); short = omega (arith, l) }

-- a value that was given: the lengths are the same, and no payoff is too high
value-parts : (f h s v : Bool) (x : ℕ) →
    (cond (not f) (refused 6) (cond h (refused 12) (cond s (refused 12) (cond v (refused 12) (answered x))))).number ≡ 0 → (f ≡ true) × (h ≡ false)
value-parts false h s v x e = absurd (none e)
  where
    none : ◌≡◌ {A = ℕ} 6 0 → ⊥
    none z = omega arith
value-parts true true s v x e = absurd (none e)
  where
    none : ◌≡◌ {A = ℕ} 12 0 → ⊥
    none z = omega arith
value-parts true false s v x e = (refl, refl)

first_of : (a b c : Bool) → (a && b && c) ≡ true → a ≡ true
first_of true b c e = refl
first_of false b c e = e

payoffs-known : (prices payoffs : List ℕ) → (value_by_state_prices_answer prices payoffs).number ≡ 0 →
    (length prices ≡ length payoffs) × (ltb value_limit (greatest_of payoffs) ≡ false)
unfolding value_by_state_prices_answer fit_aRow
payoffs-known prices payoffs z =
    let p =
    value-parts (fit_aRow prices payoffs) (ltb value_limit (greatest_of payoffs)) (ltb sum_limit (sum_of prices))
    (ltb value_limit (value_of prices payoffs)) (value_of prices payoffs) z in
    let alike = first_of (eqb (length prices) (length payoffs)) (not (eqb (length prices % 2) 0)) (leb (length prices) 121) p.0 in
    (eqb-true (length prices) (length payoffs) alike, p.1)

-- the discounts of an accepted fit are an accepted tree, so the error bound of its rows is given
module _ (f n b spaced g : ℕ) (rows kinds : List ℕ) (figures : List Float) (ds ps : ℕ) (z : fitted_number f n b spaced g rows kinds figures ds ps ≡ 0)
    (discounts : List ℕ) (r : ℕ) (prices payoffs : List ℕ) (h : r ≤ n) (kept : Unaltered f n b g kinds figures discounts r prices) where
  bound-accepted : (value_by_state_prices_answer prices payoffs).number ≡ 0 → (valuation_error_bound_answer n b discounts r payoffs).number ≡ 0
  unfolding discounts_needed stored
  bound-accepted zv =
      let q = payoffs-known prices payoffs zv in
      entry.bound-given b discounts payoffs
      (fit-lent implied z discounts kept.discounts-long (λ i k hi hk. kept.discounts-kept i k hi hk)) h
      (sym q.0 ∙ kept.row-length) (ltb-false value_limit (greatest_of payoffs) q.1)

payoffs-within : (f n b spaced g : ℕ) (rows kinds : List ℕ) (figures : List Float) (ds ps : ℕ) →
    fitted_number f n b spaced g rows kinds figures ds ps ≡ 0 →
    (discounts : List ℕ) (r : ℕ) (prices payoffs : List ℕ) → r ≤ n → Unaltered f n b g kinds figures discounts r prices →
    (value_by_state_prices_answer prices payoffs).number ≡ 0 → (valuation_error_bound_answer n b discounts r payoffs).number ≡ 0 →
    ShortOf (valuation_error_bound_answer n b discounts r payoffs).value (unit ^ r) (value_by_state_prices_answer prices payoffs).value
    (exact_payoff b discounts r payoffs)
unfolding value_of rate_tree stored
payoffs-within f n b spaced g rows kinds figures ds ps z discounts r prices payoffs h kept zv zb =
    let sound = fit-sound implied z in
    let v : ℕ → ℕ → ℕ = stored b discounts in
    let price-is : (k : ℕ) → k < node_count b r → values prices k ≡ state_price (rate_tree b) v r k =
    λ k l. kept.prices-kept k l ∙ fitted-prices f n b g kinds figures v (λ i c hi hc. kept.discounts-kept i c hi hc) r h k in
    let same : (value_by_state_prices_answer prices payoffs).value ≡ value_by_state_prices (node_count b r) (state_price (rate_tree b) v r) (values payoffs) =
    value-given prices payoffs zv
    ∙ value-by (length prices) (node_count b r) (values prices) (state_price (rate_tree b) v r) (values payoffs) kept.row-length price-is in
    rw (same, bound-given n b discounts r payoffs zb, ← exact_same b discounts r payoffs)
    (turned _ _ _ _ (value-below (rate_tree b) sound v r (values payoffs)) (value-short (rate_tree b) sound v r (values payoffs)))

pub payoffs-kept : (f n b spaced g : ℕ) (rows kinds : List ℕ) (figures : List Float) (ds ps : ℕ) →
    fitted_number f n b spaced g rows kinds figures ds ps ≡ 0 →
    (discounts : List ℕ) (r : ℕ) (prices payoffs : List ℕ) → r ≤ n → Unaltered f n b g kinds figures discounts r prices →
    (value_by_state_prices_answer prices payoffs).number ≡ 0 →
    ((valuation_error_bound_answer n b discounts r payoffs).number ≡ 0)
    × ShortOf (valuation_error_bound_answer n b discounts r payoffs).value (unit ^ r) (value_by_state_prices_answer prices payoffs).value
    (exact_payoff b discounts r payoffs)
payoffs-kept f n b spaced g rows kinds figures ds ps z discounts r prices payoffs h kept zv =
    let given = bound-accepted f n b spaced g rows kinds figures ds ps z discounts r prices payoffs h kept zv in
    (given, payoffs-within f n b spaced g rows kinds figures ds ps z discounts r prices payoffs h kept zv given)
