-- The promise about fitted state prices.
-- Assumes nothing.
use mathlib.Core.Path.{◌≡◌, refl, ap, sym, ◌∙◌}
use mathlib.Core.List.{List}
use Prim.Native.Nat.{ℕ, zero, suc, ◌-◌, ◌*◌, ◌^◌, ◌≤◌, ◌<◌}
use native.Mathlib.Omega.{arith}
use lib.Ieee.{Float}
use Rattle.arithmetic.specs.Answers.{lowest_cause}
use Rattle.arithmetic.proofs.SumLaws.{sum-cong}
use Rattle.arithmetic.proofs.Implied.{implied}
use Rattle.tree.specs.Tree.{Tree, unit}
use Rattle.lattice.specs.Shape.{node_count}
use Rattle.lattice.specs.RateTree.{rate_tree}
use Rattle.lent_tree.specs.LentTree.{stored}
use Rattle.fit_laws.specs.StatePrices.{state_price, exact_state_price}
use Rattle.fit_laws.proofs.StepLaws.{next-cong}
use Rattle.fit_laws.proofs.WholeFit.{fitted-is-state}
use Rattle.fitted_laws.specs.Fit.{node_factor, quoted}
use Rattle.fitted_laws.specs.Entry.{quotes_of, fitted_number, fit_discount, fit_state_price, fit_discounts}
use Rattle.fitted_laws.proofs.FittedTree.{fit-discount-stored, fit-discounts-lent}
use Rattle.state_price_bound.specs.ErrorBound.{bound_cause, state_price_error_bound_answer}
use Rattle.state_price_bound.proofs.Meaning.{answer-number, bound-covers}
use Rattle.state_price_bound.proofs.BoundLaws.{row-there}
use Rattle.promises.specs.Promises.{StatePriced}

-- state prices go by the discounts of the tree's own nodes
pub state-by : (t : Tree) (v w : ℕ → ℕ → ℕ) (n : ℕ) → ((i k : ℕ) → i < n → k < t.nodes i → v i k ≡ w i k) → (r : ℕ) → r ≤ n → (k : ℕ) →
    state_price t v r k ≡ state_price t w r k
unfolding state_price
state-by t v w n same zero h k = refl
state-by t v w n same (suc i) h k =
    next-cong (t.step i) (t.nodes i) _ _ _ _ (λ c _. state-by t v w n same i (omega arith) c) (λ c l. same i c (omega arith) l) k

-- the fit's state prices follow from any memory that holds its discounts
pub fitted-prices :
    (f n b g : ℕ) (kinds : List ℕ) (figures : List Float) (v : ℕ → ℕ → ℕ) →
    ((i k : ℕ) → i < n → k < node_count b i → v i k ≡ fit_discount f n b g kinds figures i k) → (r : ℕ) → r ≤ n → (k : ℕ) →
    fit_state_price f n b g kinds figures r k ≡ state_price (rate_tree b) v r k
unfolding rate_tree
fitted-prices f n b g kinds figures v same r h k =
    ap (λ (q : ℕ → ℕ). q k) (fitted-is-state (rate_tree b) (node_factor b g) (quoted (quotes_of f n kinds figures)) r)
    ∙ sym (state-by (rate_tree b) v (fit_discount f n b g kinds figures) n same r h k)

module _ (f n b spaced g : ℕ) (rows kinds : List ℕ) (figures : List Float) (ds ps : ℕ) (z : fitted_number f n b spaced g rows kinds figures ds ps ≡ 0)
    (i : ℕ) (h : i ≤ n) where
  abbrev held : List ℕ
  held = fit_discounts f n b g kinds figures

  price-is : (k : ℕ) → fit_state_price f n b g kinds figures i k ≡ state_price (rate_tree b) (stored b held) i k
  price-is = fitted-prices f n b g kinds figures (stored b held) (fit-discount-stored f n b g kinds figures) i h

  given : (state_price_error_bound_answer n b held i).number ≡ 0
  unfolding bound_cause lowest_cause
  given = answer-number n b held i ∙ rw (fit-discounts-lent implied z, ← row-there n i h)

  pub state-prices-kept :
      ((state_price_error_bound_answer n b held i).number ≡ 0)
      × StatePriced b i (fit_state_price f n b g kinds figures i) (exact_state_price (rate_tree b) (stored b held) i) (state_price_error_bound_answer n b held i).value
  state-prices-kept =
      let c = bound-covers n b held i given in (
        given,
        record {
          below = λ k hk. omega (arith, ap (λ (x : ℕ). unit ^ i * x) (price-is k), c.below k);
          short =
              omega (
                arith,
                sum-cong (node_count b i)
                    (λ k. exact_state_price (rate_tree b) (stored b held) i k - unit ^ i * fit_state_price f n b g kinds figures i k)
                    (λ k. exact_state_price (rate_tree b) (stored b held) i k - unit ^ i * state_price (rate_tree b) (stored b held) i k)
                    (λ k l. ap (λ (x : ℕ). exact_state_price (rate_tree b) (stored b held) i k - unit ^ i * x) (price-is k)),
                c.short,
              );
        },
      )
