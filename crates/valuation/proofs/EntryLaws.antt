-- The answers of the entries by the tests that code makes.
-- Assumes nothing.
use mathlib.Core.Path.{◌≡◌, refl, sym, ap, ◌∙◌}
use mathlib.Core.Bool.{Bool, true, false, cond, and-false}
use mathlib.Core.List.{List}
use Prim.Native.Nat.{ℕ, suc, ◌+◌, ◌-◌, ◌*◌, ◌/◌, ◌%◌, ◌≤◌, ◌<◌}
use native.Mathlib.Omega.{arith}
use lib.Dec.{eqb, ltb}
use lib.ListN.{length}
use borrow.Author.Tests.{eq-eqb, ne_eqb, lt-ltb, le-ltb, le-leb, lt-leb, ltb-false, eqb-true}
use Rattle.arithmetic.specs.Rounding.{one}
use Rattle.arithmetic.specs.Sum.{sum, greatest}
use Rattle.arithmetic.specs.Row.{values, greatest_of, sum_of}
use Rattle.arithmetic.proofs.Numbers.{by_order}
use Rattle.arithmetic.specs.Answers.{refused, answered, lowest_cause}
use Rattle.arithmetic.specs.declared.Answer.{Answer}
use Rattle.arithmetic.proofs.CauseLaws.{lowest-first, lowest-none}
use Rattle.arithmetic.proofs.SumLaws.{sum_grow, sum-suc, sum-next, sum-weigh-le, greatest-ge}
use Rattle.limits.specs.Limits.{most_nodes, value_limit, limit_cause, sum_limit}
use Rattle.limits.proofs.LimitLaws.{limit-kept, limit-accepted}
use Rattle.lattice.specs.Shape.{node_count}
use Rattle.lattice.specs.Entries.{node_count_answer}
use Rattle.lattice.specs.RateTree.{rate_tree}
use Rattle.lattice.proofs.TreeEntries.{row-value}
use Rattle.lent_tree.specs.LentTree.{stored, discounts_cause}
use Rattle.lent_tree.proofs.LentLaws.{accepted}
use Rattle.fit_laws.specs.StatePrices.{state_price_error_bound}
use Rattle.state_price_bound.specs.ErrorBound.{bound_cause, state_price_error_bound_answer}
use Rattle.state_price_bound.proofs.Meaning.{answer-number, answer-value}
use Rattle.state_price_bound.proofs.BoundLaws.{Lent, not-refused, row-there, bound-most}
use Rattle.valuation_laws.specs.Valuation.{value_by_state_prices, valuation_bound, valuation_error_bound}
use Rattle.valuation.specs.Entries.{value_of, fit_aRow, value_by_state_prices_answer, payoffs_cause, valuation_cause, valuation_error_bound_answer}
use Rattle.valuation.specs.inside.Products.{sum_of_products}

-- ---- the running sum

-- the first i state prices sum to a total within the limit
pub record Summed (prices : List ℕ) (i total : ℕ) : Type 0 where
  pub sums : total ≡ sum i (λ k. values prices k)
  pub small : total ≤ sum_limit

pub summed-start : (prices : List ℕ) → Summed prices 0 0
unfolding sum
summed-start prices = record { sums = refl; small = omega arith }

module _ (prices : List ℕ) (i total : ℕ) (s : Summed prices i total) where
  pub summed-next : values prices i ≤ sum_limit - total → Summed prices (i + 1) (total + values prices i)
  summed-next h =
      record { sums = omega (arith, s.sums, sum-next i (λ k. values prices k)); small = omega (arith, s.small) }

  pub summed-over : i < length prices → sum_limit - total < values prices i → true ≡ ltb sum_limit (sum_of prices)
  unfolding sum_of
  summed-over l h =
      sym (lt-ltb sum_limit (sum (length prices) (λ k. values prices k))
      (omega (arith, s.small, s.sums, sum-suc i (λ k. values prices k), sum_grow (length prices) (suc i) (λ k. values prices k) l)))

  pub summed-all : i ≡ length prices → false ≡ ltb sum_limit (sum_of prices)
  unfolding sum_of
  summed-all e =
      sym (le-ltb sum_limit (sum (length prices) (λ k. values prices k))
      (omega (arith, s.small, s.sums, ap (λ (n : ℕ). sum n (λ k. values prices k)) e)))

-- ---- the sum of products

-- no sum of the first i products is above what 64 bits hold
module _ (prices payoffs : List ℕ) (same : length prices ≡ length payoffs) (few : sum_of prices ≤ sum_limit)
    (low : greatest_of payoffs ≤ value_limit) where
  pub products-small : (i : ℕ) → i ≤ length prices → sum i (λ k. values prices k * values payoffs k) ≤ 16000000800000000000
  unfolding sum_of
  products-small i l =
      omega (
        arith,
        sum-weigh-le i value_limit (λ k. values prices k) (λ k. values payoffs k)
            (λ k h. omega (arith, greatest-ge (length payoffs) (λ k. values payoffs k) k (omega arith))),
        sum_grow (length prices) i (λ k. values prices k) l,
      )

  pub product_small : (i total : ℕ) → i < length prices → total ≡ sum i (λ k. values prices k * values payoffs k) →
      total + values prices i * values payoffs i ≤ 16000000800000000000
  product_small i total l e =
      omega (arith, products-small (suc i) l, sum-suc i (λ k. values prices k * values payoffs k))

-- the first i products sum to a total
pub record Multiplied (prices payoffs : List ℕ) (i total : ℕ) : Type 0 where
  pub sums : total ≡ sum i (λ k. values prices k * values payoffs k)

pub products-start : (prices payoffs : List ℕ) → Multiplied prices payoffs 0 0
unfolding sum
products-start prices payoffs = record { sums = refl }

module _ (prices payoffs : List ℕ) (i total : ℕ) (m : Multiplied prices payoffs i total) where
  pub products-next : Multiplied prices payoffs (i + 1) (total + values prices i * values payoffs i)
  products-next = record { sums = omega (arith, m.sums, sum-next i (λ k. values prices k * values payoffs k)) }

  pub products-all : i ≡ length prices → total ≡ sum_of_products prices payoffs
  unfolding sum_of_products
  products-all h = m.sums ∙ ap (λ (n : ℕ). sum n (λ k. values prices k * values payoffs k)) h

-- ---- valuation by state prices

-- what the tests tell that the sum of products asks
pub low-payoffs : (payoffs : List ℕ) (g : ℕ) → g ≡ greatest_of payoffs → g ≤ value_limit → greatest_of payoffs ≤ value_limit
low-payoffs payoffs g e h = omega arith

pub low_sum : (prices : List ℕ) (t : Bool) → t ≡ ltb sum_limit (sum_of prices) → t ≡ false → sum_of prices ≤ sum_limit
low_sum prices t e h = ltb-false sum_limit (sum_of prices) (sym e ∙ h)

pub value-is : (prices payoffs : List ℕ) (x : ℕ) → x ≡ sum_of_products prices payoffs → x / one ≡ value_of prices payoffs
unfolding value_of value_by_state_prices sum_of_products
value-is prices payoffs x e = ap (λ (y : ℕ). y / one) e

module _ (prices payoffs : List ℕ) where
  refused-length : (a : Answer) → a ≡ refused 6 → fit_aRow prices payoffs ≡ false → a ≡ value_by_state_prices_answer prices payoffs
  unfolding value_by_state_prices_answer
  refused-length a e f = rw (e, f)

  pub unequal : (a : Answer) → a ≡ refused 6 → (length prices ≡ length payoffs → ⊥) → a ≡ value_by_state_prices_answer prices payoffs
  unfolding fit_aRow
  unequal a e h = refused-length a e (rw (ne_eqb (length prices) (length payoffs) h))

  pub even : (a : Answer) → a ≡ refused 6 → length prices % 2 ≡ 0 → a ≡ value_by_state_prices_answer prices payoffs
  unfolding fit_aRow
  even a e h = refused-length a e (simp (eq-eqb (length prices % 2) 0 h, and-false))

  pub too_long : (a : Answer) → a ≡ refused 6 → most_nodes < length prices → a ≡ value_by_state_prices_answer prices payoffs
  unfolding fit_aRow
  too_long a e h = refused-length a e (simp (lt-leb (length prices) most_nodes h, and-false))

  module _ (same : length prices ≡ length payoffs) (odd : length prices % 2 ≡ 0 → ⊥) (few : length prices ≤ most_nodes) where
    fits : fit_aRow prices payoffs ≡ true
    unfolding fit_aRow
    fits = rw (eq-eqb (length prices) (length payoffs) same, ne_eqb (length prices % 2) 0 odd, le-leb (length prices) most_nodes few)

    pub high-payoff : (a : Answer) (g : ℕ) → a ≡ refused 12 → g ≡ greatest_of payoffs → value_limit < g → a ≡ value_by_state_prices_answer prices payoffs
    unfolding value_by_state_prices_answer
    high-payoff a g e eg h = rw (fits, lt-ltb value_limit (greatest_of payoffs) (omega arith)) e

    module _ (low : greatest_of payoffs ≤ value_limit) where
      pub high_sum : (a : Answer) (t : Bool) → a ≡ refused 12 → t ≡ ltb sum_limit (sum_of prices) → t ≡ true →
          a ≡ value_by_state_prices_answer prices payoffs
      unfolding value_by_state_prices_answer
      high_sum a t e es h = rw (fits, le-ltb value_limit (greatest_of payoffs) low, sym es ∙ h) e

      module _ (t : Bool) (es : t ≡ ltb sum_limit (sum_of prices)) (within : t ≡ false) (x : ℕ) (ex : x ≡ sum_of_products prices payoffs) where
        valued : value_by_state_prices_answer prices payoffs
            ≡ cond (ltb value_limit (value_of prices payoffs)) (refused 12) (answered (value_of prices payoffs))
        unfolding value_by_state_prices_answer
        valued = rw (fits, le-ltb value_limit (greatest_of payoffs) low, sym es ∙ within)

        pub high_value : (a : Answer) → a ≡ refused 12 → value_limit < x / one → a ≡ value_by_state_prices_answer prices payoffs
        high_value a e h =
            e ∙ sym (valued ∙ rw (lt-ltb value_limit (value_of prices payoffs) (omega (arith, value-is prices payoffs x ex))) refl)

        pub value_found : x / one ≤ value_limit → answered (x / one) ≡ value_by_state_prices_answer prices payoffs
        value_found h =
            sym (valued ∙ rw (le-ltb value_limit (value_of prices payoffs) (omega (arith, value-is prices payoffs x ex)), value-is prices payoffs x ex) refl)

-- ---- the error bound

-- the number comes before the size
pub payoffs-missing : (count nodes greatest : ℕ) → (count ≡ nodes → ⊥) → 6 ≡ payoffs_cause count nodes greatest
unfolding payoffs_cause lowest_cause limit_cause
payoffs-missing count nodes g h =
    rw (ne_eqb count nodes h)
    (by_order g value_limit (λ l. rw (le-ltb value_limit g l)) (λ l. rw (lt-ltb value_limit g l)))

pub payoffs-counted : (count nodes greatest high : ℕ) → high ≡ limit_cause greatest → count ≡ nodes → high ≡ payoffs_cause count nodes greatest
unfolding payoffs_cause
payoffs-counted count nodes greatest high eh h = rw (eq-eqb count nodes h) (eh ∙ lowest-first 0 (limit_cause greatest) refl)

-- no cause about payoffs: as many as the nodes, and none above the limit
payoffs-known : (count nodes greatest : ℕ) → payoffs_cause count nodes greatest ≡ 0 → (count ≡ nodes) × (greatest ≤ value_limit)
unfolding payoffs_cause
payoffs-known count nodes greatest e =
    let z = lowest-none (cond (eqb count nodes) 0 6) (limit_cause greatest) e in
    (counted (eqb count nodes) refl z.0, limit-accepted greatest z.1)
  where
    counted : (t : Bool) → eqb count nodes ≡ t → ◌≡◌ {A = ℕ} (cond t 0 6) 0 → count ≡ nodes
    counted true p q = eqb-true count nodes p
    counted false p q = absurd (omega arith)

-- the number x that code works out from the answers of the row and of its node count
pub record Found (n b : ℕ) (discounts : List ℕ) (i : ℕ) (payoffs : List ℕ) (bound nodes : Answer) (g p x : ℕ) : Type 0 where
  pub row-bound : bound ≡ state_price_error_bound_answer n b discounts i
  pub row-nodes : nodes ≡ node_count_answer b i
  pub highest : g ≡ greatest_of payoffs
  pub of-payoffs : p ≡ payoffs_cause (length payoffs) nodes.value g
  pub lowest : x ≡ lowest_cause bound.number p

pub found :
    {n b : ℕ} {discounts : List ℕ} {i : ℕ} {payoffs : List ℕ} {bound nodes : Answer} {g p x : ℕ} →
    bound ≡ state_price_error_bound_answer n b discounts i → nodes ≡ node_count_answer b i → g ≡ greatest_of payoffs →
    p ≡ payoffs_cause (length payoffs) nodes.value g → x ≡ lowest_cause bound.number p → Found n b discounts i payoffs bound nodes g p x
found e₁ e₂ e₃ e₄ e₅ = record { row-bound = e₁; row-nodes = e₂; highest = e₃; of-payoffs = e₄; lowest = e₅ }

module _ {n : ℕ} (b : ℕ) (discounts : List ℕ) {i : ℕ} (payoffs : List ℕ) where
  module _ {bound nodes : Answer} {g p x : ℕ} (f : Found n b discounts i payoffs bound nodes g p x) where
    row_number_lem : bound.number ≡ bound_cause n b discounts i
    row_number_lem = ap (λ (a : Answer). a.number) f.row-bound ∙ answer-number n b discounts i

    payoffs-number : p ≡ payoffs_cause (length payoffs) (node_count_answer b i).value (greatest_of payoffs)
    payoffs-number = f.of-payoffs ∙ rw (f.row-nodes, f.highest)

    pub number_is : x ≡ valuation_cause n b discounts i payoffs
    unfolding valuation_cause
    number_is = f.lowest ∙ rw (row_number_lem, payoffs-number)

    pub refused-number : (x ≡ 0 → ⊥) → (a : Answer) → a ≡ refused x → a ≡ valuation_error_bound_answer n b discounts i payoffs
    unfolding valuation_error_bound_answer
    refused-number nz a e = e ∙ rw (← number_is, ne_eqb x 0 nz) refl

    -- what number 0 tells
    module _ (z : x ≡ 0) where
      none : (bound.number ≡ 0) × (p ≡ 0)
      none = lowest-none bound.number p (sym f.lowest ∙ z)

      lent : Lent n b discounts i
      lent = not-refused n b discounts i (sym row_number_lem ∙ none.0)

      known : (length payoffs ≡ nodes.value) × (g ≤ value_limit)
      known = payoffs-known (length payoffs) nodes.value g (sym f.of-payoffs ∙ none.1)

      counted : length payoffs ≡ node_count b i
      counted =
          known.0
          ∙ row-value b i (node_count b i) nodes f.row-nodes lent.tree.limits.reversion-within-limit
          (omega (arith, lent.present, lent.tree.limits.steps-within-limit))

      pub none-sizes : (g ≤ value_limit) × (bound.value ≤ 1000000)
      none-sizes = (known.1, omega (arith, ap (λ (a : Answer). a.value) f.row-bound, bound-most n b discounts i))

      pub bound-found : (y : ℕ) → y ≡ valuation_bound g bound.value → answered y ≡ valuation_error_bound_answer n b discounts i payoffs
      unfolding valuation_error_bound_answer valuation_error_bound rate_tree
      bound-found y ey =
          let value = ap (λ (a : Answer). a.value) f.row-bound ∙ answer-value n b discounts i (sym row_number_lem ∙ none.0) in
          let same : y ≡ valuation_bound (greatest (node_count b i) (values payoffs)) (state_price_error_bound (rate_tree b) (stored b discounts) i) =
          ey ∙ rw (f.highest, counted, value) refl in
          rw (sym number_is ∙ z) (ap (λ (v : ℕ). answered v) same)

  -- payoffs on a row of an accepted tree, as many as its nodes and none above the limit, are given a bound
  pub bound-given : discounts_cause n b discounts ≡ 0 → i ≤ n → length payoffs ≡ node_count b i → greatest_of payoffs ≤ value_limit →
      (valuation_error_bound_answer n b discounts i payoffs).number ≡ 0
  unfolding valuation_error_bound_answer valuation_cause bound_cause lowest_cause
  bound-given d h e g =
      let l = (accepted n b discounts d).limits in
      let count = e ∙ sym (row-value b i (node_count b i) (node_count_answer b i) refl l.reversion-within-limit (omega (arith, l.steps-within-limit))) in
      rw (
        d,
        ← row-there n i h,
        ← payoffs-counted (length payoffs) (node_count_answer b i).value (greatest_of payoffs) 0 (limit-kept (greatest_of payoffs) g) count,
      )
