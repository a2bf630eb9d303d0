-- What an accepted fit means: every quoted discount is repriced within 300 billionths by its row's state prices, and the state prices fall short of
-- the exact ones by no more than the state-price allowance.
-- Assumes nothing.
use mathlib.Core.Path.{◌≡◌, refl, sym, ◌∙◌, ap}
use mathlib.Core.Bool.{Bool, true, false, cond}
use mathlib.Core.List.{List}
use Prim.Native.Nat.{ℕ, suc, ◌+◌, ◌-◌, ◌*◌, ◌^◌, ◌≤◌, ◌<◌}
use native.Mathlib.Nat.{mul-le-mul_right}
use native.Mathlib.Omega.{arith}
use lib.Dec.{ltb}
use lib.Ieee.{Float}
use lib.IntN.{nat_abs}
use borrow.Author.Tests.{eq-eqb, ne_eqb, ltb-false}
use Rattle.arithmetic.specs.Rounding.{one}
use Rattle.arithmetic.specs.Sum.{sum}
use Rattle.arithmetic.specs.Row.{each}
use Rattle.arithmetic.proofs.Numbers.{by_equal}
use Rattle.arithmetic.proofs.RowLaws.{values-row, length-row}
use Rattle.arithmetic.proofs.Implied.{Implied, lastly, ◌▸◌}
use Rattle.tree.specs.Tree.{Sound, unit}
use Rattle.limits.specs.Limits.{most_steps, least_quote, most_quote}
use Rattle.lattice.specs.Shape.{half_width, node_count}
use Rattle.lattice.specs.RateTree.{node, rate_tree}
use Rattle.lattice.proofs.Sizes.{half-within, half-later}
use Rattle.lattice.proofs.RateTreeLaws.{rate-tree-sound, in_row}
use Rattle.factor.proofs.FactorLaws.{factor-bounds}
use Rattle.curve.specs.Curve.{discount_at, curve_number}
use Rattle.curve.proofs.CurveLaws.{curve-range}
use Rattle.fit_laws.specs.StatePrices.{accepted_row, exact_state_price, state_price_error_bound}
use Rattle.fit_laws.proofs.Shortfall.{state-below, state-price-shortfall}
use Rattle.fit_laws.proofs.WholeFit.{Curve, fitted-is-state, quotes-repriced}
use Rattle.fit_laws.specs.inside.Bounds.{least_factor, most_factor}
use Rattle.fitted_laws.specs.Fit.{quoted, curve_accepted, node_factor}
use Rattle.fitted_laws.specs.Entry.{quotes_of, early_cause, late_cause, fitted_number, fit_discount, fit_state_price}
use Rattle.fitted_laws.specs.inside.Numbers.{Numbers}
use Rattle.fitted_laws.proofs.CauseLaws.{numbers_of}

late-parts : (w a : Bool) → ◌≡◌ {A = ℕ} (cond w 8 (cond a 0 9)) 0 → (w ≡ false) × (a ≡ true)
late-parts true a e = absurd (none e)
  where
    none : ◌≡◌ {A = ℕ} 8 0 → ⊥
    none z = omega arith
late-parts false true e = (refl, refl)
late-parts false false e = absurd (none e)
  where
    none : ◌≡◌ {A = ℕ} 9 0 → ⊥
    none z = omega arith

module _ {f n b spaced h : ℕ} {rows kinds : List ℕ} {figures : List Float} {ds ps : ℕ}
    (_ : Implied (f ▸ n ▸ b ▸ spaced ▸ h ▸ rows ▸ kinds ▸ figures ▸ ds ▸ lastly ps))
    (z : fitted_number f n b spaced h rows kinds figures ds ps ≡ 0) where
  abbrev early : ℕ
  early = early_cause (curve_number f n rows kinds figures most_steps) n b spaced ds ps

  no-early : early ≡ 0
  unfolding fitted_number
  no-early =
      by_equal early 0 (λ e. e)
      (λ k. absurd (k (rw (ne_eqb early 0 k) at z)))

  no-late : late_cause n b h (quotes_of f n kinds figures) ≡ 0
  unfolding fitted_number
  no-late = rw (eq-eqb early 0 no-early) at z

  pub fit-numbers : Numbers n b (curve_number f n rows kinds figures most_steps) spaced ds ps
  fit-numbers = numbers_of n b _ spaced ds ps no-early

  parts : (ltb one (half_width b (n - 1) * h) ≡ false) × (curve_accepted b h (quotes_of f n kinds figures) ≡ true)
  unfolding late_cause
  parts = late-parts _ _ no-late

  fit-narrow : half_width b (n - 1) * h ≤ one
  fit-narrow = ltb-false one _ parts.0

  -- every node discount of the fit is accepted
  pub fit-accepted : each n (accepted_row (rate_tree b) (fit_discount f n b h kinds figures)) ≡ true
  unfolding curve_accepted
  fit-accepted =
      ap (λ (k : ℕ). each k (accepted_row (rate_tree b) (fit_discount f n b h kinds figures))) (sym (length-row n (discount_at f kinds figures)))
      ∙ parts.1

  pub fit-sound : Sound (rate_tree b)
  fit-sound = rate-tree-sound b fit-numbers.limits.reversion-within-limit

  range : (i : ℕ) → i < n → (least_quote ≤ discount_at f kinds figures i) × (discount_at f kinds figures i ≤ most_quote)
  range = curve-range f n rows kinds figures most_steps fit-numbers.quotes-converted

  pub quote-is : (i : ℕ) → i < n → quoted (quotes_of f n kinds figures) (suc i) ≡ discount_at f kinds figures i
  unfolding quoted
  quote-is i l = values-row n i (discount_at f kinds figures) l

  -- |j| × h is at most one at every node of rows 0 to n − 1
  pub fit-near : (i k : ℕ) → i < n → k < node_count b i → nat_abs (node b i k) * h ≤ one
  fit-near i k g l =
      omega (
        arith,
        mul-le-mul_right h (in_row b i k l),
        mul-le-mul_right h (half-later b i (n - 1) (omega arith)),
        fit-narrow,
      )

  factor-range : (i k : ℕ) → i < n → k < node_count b i →
      (least_factor ≤ node_factor b h i k) × (node_factor b h i k ≤ most_factor)
  factor-range i k g l = factor-bounds (node b i k) h (fit-near i k g l)

  count_most : (i : ℕ) → node_count b i ≤ 2 * i + 1
  unfolding node_count
  count_most i = omega (arith, half-within b i)

  curve : Curve (rate_tree b) n (node_factor b h) (quoted (quotes_of f n kinds figures))
  unfolding rate_tree
  curve =
      record {
        steps = fit-numbers.limits.steps-within-limit;
        counts = count_most;
        quote-low = λ i l. rw (quote-is i l) (range i l).0;
        quote-high = λ i l. rw (quote-is i l) (range i l).1;
        factor-low = λ i k g l. (factor-range i k g l).0;
        factor-high = λ i k g l. (factor-range i k g l).1;
      }

  -- the quoted discount of row i + 1 and the sum of that row's state prices
  pub fit-repriced : (i : ℕ) → i < n →
      (discount_at f kinds figures i ≤ sum (node_count b (suc i)) (fit_state_price f n b h kinds figures (suc i)) + 300)
      × (sum (node_count b (suc i)) (fit_state_price f n b h kinds figures (suc i)) ≤ discount_at f kinds figures i + 300)
      × (sum (node_count b (suc i)) (fit_state_price f n b h kinds figures (suc i)) ≤ 2000000100)
  unfolding rate_tree
  fit-repriced i l =
      rw (quote-is i l) at (quotes-repriced (rate_tree b) fit-sound n (node_factor b h) (quoted (quotes_of f n kinds figures)) curve i l)

  -- fitted state prices against the exact ones of the same node discounts, row i held times m^i
  pub fit-below : (i k : ℕ) →
      unit ^ i * fit_state_price f n b h kinds figures i k ≤ exact_state_price (rate_tree b) (fit_discount f n b h kinds figures) i k
  fit-below i k =
      rw (fitted-is-state (rate_tree b) (node_factor b h) (quoted (quotes_of f n kinds figures)) i)
      (state-below (rate_tree b) (fit_discount f n b h kinds figures) i k)

  pub fit-shortfall : (i : ℕ) →
      sum (node_count b i) (λ k. exact_state_price (rate_tree b) (fit_discount f n b h kinds figures) i k - unit ^ i * fit_state_price f n b h kinds figures i k)
      ≤ unit ^ i * state_price_error_bound (rate_tree b) (fit_discount f n b h kinds figures) i
  unfolding rate_tree
  fit-shortfall i =
      rw (fitted-is-state (rate_tree b) (node_factor b h) (quoted (quotes_of f n kinds figures)) i)
      (state-price-shortfall (rate_tree b) fit-sound (fit_discount f n b h kinds figures) i)
