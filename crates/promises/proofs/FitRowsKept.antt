-- The fit row by row, what it leaves in its memories, and the state prices of any lent discounts.
-- Assumes nothing.
use mathlib.Core.Path.{◌≡◌, refl, sym, ap, subst, ◌∙◌}
use mathlib.Core.Bool.{Bool, true, false, cond}
use mathlib.Core.List.{List, ◌++◌}
use Prim.Native.Nat.{ℕ, zero, suc, ◌+◌, ◌*◌, ◌/◌, ◌≤◌, ◌<◌}
use native.Mathlib.Nat.{le_refl}
use native.Mathlib.Omega.{arith}
use lib.Dec.{ltb}
use lib.Ieee.{Float}
use lib.IntN.{ℤ, pos, nat_abs, ◌-ℤ◌}
use lib.ListN.{length, drop}
use borrow.Author.Tests.{ltb-false}
use Rattle.arithmetic.specs.Answers.{refused, answered}
use Rattle.arithmetic.specs.Rounding.{one}
use Rattle.arithmetic.specs.Row.{values, place}
use Rattle.arithmetic.specs.Sum.{sum}
use Rattle.arithmetic.proofs.SumLaws.{sum-single}
use Rattle.arithmetic.proofs.Implied.{implied}
use Rattle.tree.specs.Tree.{Tree}
use Rattle.tree.specs.Layout.{laid}
use Rattle.tree.specs.inside.Layout.{start}
use Rattle.tree.proofs.LayoutLaws as layout
use Rattle.lattice.specs.Shape.{half_width, node_count, row_start}
use Rattle.lattice.specs.RateTree.{node_of_index, node, rate_tree}
use Rattle.lattice.proofs.LaidLaws.{length-laid, laid-value}
use Rattle.lattice.proofs.Differences.{sub_is}
use Rattle.factor.specs.Series.{term}
use Rattle.factor.specs.Factor.{factor, node_answer}
use Rattle.factor.proofs.SeriesLaws.{term-zero}
use Rattle.factor.proofs.SideLaws.{next-term, below-sum, above-sum, below_one, above-one}
use Rattle.curve.specs.Curve.{discount_at}
use Rattle.fit_laws.proofs.FitRows as fits
use Rattle.fitted_laws.specs.Fit.{node_factor, quoted}
use Rattle.fitted_laws.specs.Entry.{quotes_of, fitted_number, fit_discount, fit_state_price, fit_memory, fit_discounts, fit_state_prices}
use Rattle.fitted_laws.proofs.Promised.{fit-near, fit-numbers, fit-sound, fit-repriced, quote-is}
use Rattle.fitted_laws.proofs.FittedTree.{fit-placed}
use Rattle.lent_tree.specs.LentTree.{stored}
use Rattle.state_price_bound.specs.ErrorBound.{state_price_error_bound_answer}
use Rattle.state_price_bound.proofs.Meaning.{answer-number, answer-value, bound-covers}
use Rattle.fit_laws.specs.StatePrices.{state_price, exact_state_price, state_price_error_bound}
use Rattle.promises.specs.Promises.{Factored, FitRows, LaidOut, StatePriced, StatePriceRows}

-- ---- factors

pub factored : (j : ℤ) (h : ℕ) → nat_abs j * h ≤ one → Factored j h (factor j h)
factored j h near =
    record {
      term = term (nat_abs j * h);
      term-first = term-zero (nat_abs j * h);
      term-next = next-term (nat_abs j * h);
      below-middle = λ e. (below-sum j h e, below_one j h e);
      from-middle = λ e. (above-sum j h e, above-one j h e near);
    }

pub factors-kept : (j : ℤ) (h : ℕ) → (node_answer j h).number ≡ 0 → Factored j h (node_answer j h).value
unfolding node_answer
factors-kept j h z = go (ltb one (nat_abs j * h)) refl z
  where
    go : (t : Bool) → ltb one (nat_abs j * h) ≡ t → (cond t (refused 8) (answered (factor j h))).number ≡ 0 →
        Factored j h (cond t (refused 8) (answered (factor j h))).value
    go true e k = absurd (omega arith)
    go false e k = factored j h (ltb-false one (nat_abs j * h) e)

-- ---- the rows of a fit

node-is : (b i k : ℕ) → node b i k ≡ pos k -ℤ pos (half_width b i)
unfolding node_of_index
node-is b i k = sub_is k (half_width b i)

module _ (f n w spaced h : ℕ) (rows kinds : List ℕ) (figures : List Float) (ds ps : ℕ)
    (z : fitted_number f n w spaced h rows kinds figures ds ps ≡ 0) where
  abbrev price : ℕ → ℕ → ℕ
  price = fit_state_price f n w h kinds figures

  abbrev discount : ℕ → ℕ → ℕ
  discount = fit_discount f n w h kinds figures

  node-factored : (i k : ℕ) → i < n → k < node_count w i → Factored (pos k -ℤ pos (half_width w i)) h (node_factor w h i k)
  node-factored i k hi hk =
      subst (λ (j : ℤ). Factored j h (node_factor w h i k)) (node-is w i k)
      (factored (node w i k) h (fit-near implied z i k hi hk))

  pub fit-rows : FitRows w n h (discount_at f kinds figures) discount price
  unfolding rate_tree
  fit-rows =
      record {
        factor = node_factor w h;
        normaliser = λ i. sum (node_count w i) (λ k. price i k * node_factor w h i k) / one;
        carried = λ i k. price i k * discount i k / one;
        factored = node-factored;
        first-price = fits.fitted-first (rate_tree w) (node_factor w h) (quoted (quotes_of f n kinds figures)) 0;
        normalised = λ i hi. refl;
        discounted =
            λ i k hi hk.
            fits.fitted-discount (rate_tree w) (node_factor w h) (quoted (quotes_of f n kinds figures)) i k
            ∙ ap (λ (p : ℕ). p * node_factor w h i k / (sum (node_count w i) (λ k. price i k * node_factor w h i k) / one))
            (quote-is implied z i hi);
        carrying = λ i k hi hk. refl;
        next-price = λ i j hi hj. fits.fitted-next (rate_tree w) (node_factor w h) (quoted (quotes_of f n kinds figures)) i j;
      }

  pub sums-weighable : (i : ℕ) → i ≤ n → sum (node_count w i) (price i) ≤ 2000000100
  unfolding rate_tree
  sums-weighable zero l =
      rw (fit-sound implied z).root
      (omega (arith, sum-single (price 0), fits.fitted-first (rate_tree w) (node_factor w h) (quoted (quotes_of f n kinds figures)) 0))
  sums-weighable (suc i) l = (fit-repriced implied z i l).2

-- ---- its memories

module _ (b n : ℕ) (value : ℕ → ℕ → ℕ) (before : List ℕ) (room : row_start b n ≤ length before) where
  placed-is : place before 0 (laid (rate_tree b) value n) ≡ laid (rate_tree b) value n ++ drop (row_start b n) before
  unfolding place
  placed-is =
      let e : 0 + length (laid (rate_tree b) value n) ≡ row_start b n = omega (arith, length-laid b value n) in
      ap (λ (c : ℕ). laid (rate_tree b) value n ++ drop c before) e

  laid_out : (after : List ℕ) → after ≡ place before 0 (laid (rate_tree b) value n) → LaidOut b n value before after
  unfolding rate_tree row_start start
  laid_out after e =
      let m = e ∙ placed-is in
      record {
        length-kept = layout.laid-length (rate_tree b) value n after before room m;
        held = λ i k hi hk. ap (λ (l : List ℕ). values l (row_start b i + k)) m ∙ laid-value b value n i hi _ k hk;
        past-kept = layout.laid-past (rate_tree b) value n n after before (le_refl n) m;
      }

pub fit-laid : (f n w spaced h : ℕ) (rows kinds : List ℕ) (figures : List Float) (d q : List ℕ) →
    fitted_number f n w spaced h rows kinds figures (length d) (length q) ≡ 0 →
    LaidOut w n (fit_discount f n w h kinds figures) d
    (fit_memory (fitted_number f n w spaced h rows kinds figures (length d) (length q)) (fit_discounts f n w h kinds figures) d)
    × LaidOut w (suc n) (fit_state_price f n w h kinds figures) q
    (fit_memory (fitted_number f n w spaced h rows kinds figures (length d) (length q)) (fit_state_prices f n w h kinds figures) q)
fit-laid f n w spaced h rows kinds figures d q z =
    let known = fit-numbers implied z in (
      laid_out w n (fit_discount f n w h kinds figures) d known.room-discounts _ (fit-placed _ (fit_discounts f n w h kinds figures) d z),
      laid_out w (suc n) (fit_state_price f n w h kinds figures) q known.room-state-prices _ (fit-placed _ (fit_state_prices f n w h kinds figures) q z),
    )

-- ---- state prices of any lent discounts

pub state-price-rows : (t : Tree) (discount : ℕ → ℕ → ℕ) → StatePriceRows t discount
state-price-rows t v =
    record {
      first = fits.state-first t v;
      next = fits.state-next t v;
      exact-first = fits.exact-first t v;
      exact-next = fits.exact-next t v;
      bound-first = fits.bound-first t v;
      bound-next = fits.bound-next t v;
    }

module _ (n b : ℕ) (discounts : List ℕ) (i : ℕ) (z : (state_price_error_bound_answer n b discounts i).number ≡ 0) where
  pub bound-is : (state_price_error_bound_answer n b discounts i).value ≡ state_price_error_bound (rate_tree b) (stored b discounts) i
  bound-is = answer-value n b discounts i (sym (answer-number n b discounts i) ∙ z)

  pub lent-near :
      StatePriced b i (state_price (rate_tree b) (stored b discounts) i) (exact_state_price (rate_tree b) (stored b discounts) i)
      (state_price_error_bound_answer n b discounts i).value
  lent-near = let c = bound-covers n b discounts i z in record { below = λ k l. c.below k; short = c.short }
