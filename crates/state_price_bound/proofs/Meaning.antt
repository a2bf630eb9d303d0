-- What an answer of the state-price error bound tells: the tree is accepted, and the rounded state prices of the row are at most the exact ones
-- node by node and fall short of them, in sum, by at most the bound.
-- Assumes nothing.
use mathlib.Core.Path.{◌≡◌, refl, sym, ◌∙◌}
use mathlib.Core.Bool.{Bool, true, false, cond}
use mathlib.Core.List.{List}
use Prim.Native.Nat.{ℕ, ◌+◌, ◌-◌, ◌*◌, ◌^◌, ◌≤◌, ◌<◌}
use native.Mathlib.Omega.{arith}
use lib.Dec.{eqb}
use lib.ListN.{replicate}
use borrow.Author.Tests.{eq-eqb, ne_eqb, eqb-true}
use Rattle.arithmetic.specs.Row.{values}
use Rattle.arithmetic.specs.Sum.{sum}
use Rattle.arithmetic.specs.Answers.{refused, answered}
use Rattle.arithmetic.proofs.Numbers.{by_order, by_equal}
use Rattle.arithmetic.proofs.CauseLaws.{lowest-first, lowest-none}
use Rattle.arithmetic.proofs.PaddedLaws.{padded-at, padded-after}
use Rattle.arithmetic.proofs.RowLaws.{zeros}
use Rattle.limits.specs.Limits.{most_steps}
use Rattle.tree.specs.Tree.{unit}
use Rattle.lattice.specs.Shape.{node_count}
use Rattle.lattice.specs.RateTree.{rate_tree}
use Rattle.lattice.proofs.RateTreeLaws.{rate-tree-sound}
use Rattle.lent_tree.specs.LentTree.{stored, discounts_cause}
use Rattle.lent_tree.proofs.LentLaws.{accepted}
use Rattle.fit_laws.specs.StatePrices.{state_price, exact_state_price, state_price_error_bound}
use Rattle.fit_laws.proofs.Shortfall.{state-below, state-price-shortfall}
use Rattle.state_price_bound.specs.ErrorBound.{row_cause, bound_cause, state_price_error_bound_answer}
use Rattle.state_price_bound.specs.ErrorBound.{state_price_error_bounds, state_price_error_bounds_answer}
use Rattle.state_price_bound.proofs.BoundLaws.{row-there, not-refused}

module _ (n b : ℕ) (discounts : List ℕ) (i : ℕ) where
  -- the answer's number is the refusal's, and without one its value is the error bound
  pub answer-number : (state_price_error_bound_answer n b discounts i).number ≡ bound_cause n b discounts i
  unfolding state_price_error_bound_answer
  answer-number = go (eqb (bound_cause n b discounts i) 0) refl
    where
      go : (t : Bool) → eqb (bound_cause n b discounts i) 0 ≡ t →
          (cond t (answered (state_price_error_bound (rate_tree b) (stored b discounts) i)) (refused (bound_cause n b discounts i))).number
          ≡ bound_cause n b discounts i
      go true e = sym (eqb-true (bound_cause n b discounts i) 0 e)
      go false e = refl

  pub answer-value : bound_cause n b discounts i ≡ 0 →
      (state_price_error_bound_answer n b discounts i).value ≡ state_price_error_bound (rate_tree b) (stored b discounts) i
  unfolding state_price_error_bound_answer
  answer-value z = rw z

  answer-refused : (bound_cause n b discounts i ≡ 0 → ⊥) → (state_price_error_bound_answer n b discounts i).value ≡ 0
  unfolding state_price_error_bound_answer
  answer-refused nz = rw (ne_eqb (bound_cause n b discounts i) 0 nz)

-- ---- all rows at once: in each place what a call for its row answers, 0 where that refuses

module _ (n b : ℕ) (discounts : List ℕ) where
  bounds-accepted : discounts_cause n b discounts ≡ 0 → (state_price_error_bounds_answer n b discounts).bounds ≡ state_price_error_bounds n b discounts
  unfolding state_price_error_bounds_answer
  bounds-accepted z = rw (eq-eqb (discounts_cause n b discounts) 0 z)

  bounds-refused : (discounts_cause n b discounts ≡ 0 → ⊥) → (state_price_error_bounds_answer n b discounts).bounds ≡ replicate (most_steps + 1) 0
  unfolding state_price_error_bounds_answer
  bounds-refused nz = rw (ne_eqb (discounts_cause n b discounts) 0 nz)

  tree-cause : (i : ℕ) → bound_cause n b discounts i ≡ 0 → discounts_cause n b discounts ≡ 0
  unfolding bound_cause
  tree-cause i none = (lowest-none (discounts_cause n b discounts) (row_cause n i) none).0

  -- a row that the tree has
  row-answered : (i : ℕ) → discounts_cause n b discounts ≡ 0 → i ≤ n → bound_cause n b discounts i ≡ 0
  unfolding bound_cause
  row-answered i z h = sym (lowest-first (discounts_cause n b discounts) (row_cause n i) z) ∙ sym (row-there n i h)

  abbrev RowAnswered : ℕ → List ℕ → Type 0
  RowAnswered i bounds = values bounds i ≡ (state_price_error_bound_answer n b discounts i).value

  module _ (i : ℕ) where
    row-there-answered : discounts_cause n b discounts ≡ 0 → i ≤ n → RowAnswered i (state_price_error_bounds n b discounts)
    unfolding state_price_error_bounds
    row-there-answered z h =
        padded-at (most_steps + 1) (n + 1) (state_price_error_bound (rate_tree b) (stored b discounts)) i
        (omega (arith, (accepted n b discounts z).limits.steps-within-limit)) (omega arith)
        ∙ sym (answer-value n b discounts i (row-answered i z h))

    row-past-answered : n < i → RowAnswered i (state_price_error_bounds n b discounts)
    unfolding state_price_error_bounds
    row-past-answered h =
        padded-after (most_steps + 1) (n + 1) (state_price_error_bound (rate_tree b) (stored b discounts)) i (omega arith)
        ∙ sym (answer-refused n b discounts i (λ none. absurd (omega (arith, (not-refused n b discounts i none).present))))

    pub bounds-at : RowAnswered i (state_price_error_bounds_answer n b discounts).bounds
    bounds-at =
        by_equal (discounts_cause n b discounts) 0
        (λ z. rw (bounds-accepted z) (by_order i n (row-there-answered z) row-past-answered))
        (λ nz. rw (bounds-refused nz)
        (zeros (most_steps + 1) i ∙ sym (answer-refused n b discounts i (λ none. nz (tree-cause i none)))))

-- ---- the meaning of the bound

-- The state prices that follow from discounts are at most the exact ones, and fall short of them by at most a bound in sum. An exact state price of
-- row i is held times m^i.
pub record Covers (b : ℕ) (discounts : List ℕ) (i bound : ℕ) : Type 0 where
  pub below : (k : ℕ) → unit ^ i * state_price (rate_tree b) (stored b discounts) i k ≤ exact_state_price (rate_tree b) (stored b discounts) i k
  pub short :
      sum (node_count b i)
      (λ k. exact_state_price (rate_tree b) (stored b discounts) i k - unit ^ i * state_price (rate_tree b) (stored b discounts) i k)
      ≤ unit ^ i * bound

pub bound-covers : (n b : ℕ) (discounts : List ℕ) (i : ℕ) → (state_price_error_bound_answer n b discounts i).number ≡ 0 →
    Covers b discounts i (state_price_error_bound_answer n b discounts i).value
unfolding rate_tree
bound-covers n b discounts i z =
    let none : bound_cause n b discounts i ≡ 0 = sym (answer-number n b discounts i) ∙ z in
    record {
      below = state-below (rate_tree b) (stored b discounts) i;
      short =
          rw (answer-value n b discounts i none)
          (state-price-shortfall (rate_tree b) (rate-tree-sound b (not-refused n b discounts i none).tree.limits.reversion-within-limit)
          (stored b discounts) i);
    }
