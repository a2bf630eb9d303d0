-- The loop over a row's nodes: what holds after k of them, what the next one asks, and what all of them leave.
-- Assumes nothing.
use mathlib.Core.Path.{◌≡◌, refl, sym, ◌∙◌, ap}
use mathlib.Core.Bool.{true, false}
use mathlib.Core.List.{List}
use Prim.Native.Nat.{ℕ, ◌+◌, ◌*◌, ◌/◌, ◌≤◌, ◌<◌}
use native.Mathlib.Omega.{arith}
use lib.ListN.{length, set}
use Rattle.arithmetic.specs.Rounding.{one}
use Rattle.arithmetic.specs.Row.{row, values, each}
use Rattle.arithmetic.proofs.RowLaws.{Filled, filled-start, filled_next, filled-all, row-cong, length-row, each_none, each_more, each-fails}
use Rattle.limits.specs.Limits.{most_discount, is_discount, most_quote}
use Rattle.tree.specs.Tree.{chance, incoming}
use Rattle.tree.proofs.StepLaws.{incoming-none}
use Rattle.row_branches.specs.RowBranches.{row_branch}
use Rattle.row_branches.specs.inside.Transitions.{row_transition}
use Rattle.fit_laws.specs.Step.{carried}
use Rattle.fit_laws.specs.inside.Bounds.{most_factor, most_row_sum}
use Rattle.fitting.specs.inside.Preconditions.{StepReady, SpreadReady}
use Rattle.fitting.proofs.StepRows.{AtNode, quoted-small, node-asks, sums-small, product-most, amount-most, sums_next}

-- quote × factor / Z
abbrev pub ratio : ℕ → List ℕ → ℕ → ℕ → ℕ
ratio quote factors z k = quote * values factors k / z

-- the sums over the branches of the first k nodes into each node of a next row of m nodes
abbrev pub spread-sums : ℕ → List ℕ → ℕ → List ℕ → List ℕ → ℕ → ℕ → List ℕ
spread-sums quote factors z state-prices downs m k = row m (incoming (row_transition downs m) k (carried (values state-prices) (ratio quote factors z)))

-- discounts d and sums s after k nodes; d₀ and s₀ before the first
pub record Stepping (quote z : ℕ) (state-prices factors downs d₀ s₀ d s : List ℕ) (k : ℕ) : Type 0 where
  pub within : k ≤ length state-prices
  pub filled : Filled d₀ d (ratio quote factors z) k
  pub spread : s ≡ spread-sums quote factors z state-prices downs (length s₀) k
  pub good : each k (λ i. is_discount (ratio quote factors z i)) ≡ true

pub stepping-start : {quote z : ℕ} {state-prices factors downs d₀ s₀ : List ℕ} → s₀ ≡ row (length s₀) (λ j. 0) →
    Stepping quote z state-prices factors downs d₀ s₀ d₀ s₀ 0
stepping-start {quote} {z} {state-prices} {factors} {downs} {d₀} {s₀} e =
    record {
      within = omega arith;
      filled = filled-start d₀ (ratio quote factors z);
      spread = e
          ∙ row-cong (length s₀) _ _ (λ j _. sym (incoming-none (row_transition downs (length s₀)) (carried (values state-prices) (ratio quote factors z)) j));
      good = each_none _;
    }

module _ {quote z : ℕ} {state-prices factors downs d₀ s₀ : List ℕ} (ready : StepReady quote state-prices factors downs (length d₀) (length s₀))
    {d s : List ℕ} {k : ℕ} (g : Stepping quote z state-prices factors downs d₀ s₀ d s k) where
  pub sums-length : length s ≡ length s₀
  sums-length = ap length g.spread ∙ length-row (length s₀) _

  pub discounts-length : length d ≡ length state-prices
  discounts-length = g.filled.same ∙ ready.discounts-length

  module _ (hk : k < length state-prices) where
    pub factor-there : k < length factors
    factor-there = omega (arith, ready.factors-bounded.length-is)

    pub quoted-fits : quote * values factors k ≤ most_quote * most_factor
    quoted-fits = quoted-small quote (values factors k) ready.quote-within-limit (ready.factors-bounded.at_most k hk)

    pub stepping-fails : is_discount (ratio quote factors z k) ≡ false → false ≡ each (length state-prices) (λ i. is_discount (ratio quote factors z i))
    stepping-fails e = sym (each-fails (length state-prices) k (λ i. is_discount (ratio quote factors z i)) hk e)

    at-node : AtNode (row_transition downs (length s₀)) (length state-prices) (length s₀) (values state-prices) (ratio quote factors z) k
    at-node =
        record {
          inside = ready.branches-inside;
          total = ready.branches-total;
          row-sum-most = ready.row-sum-most;
          in_row = hk;
          accepted = g.good;
        }

    module _ (this : is_discount (ratio quote factors z k) ≡ true) where
      pub product-fits : values state-prices k * ratio quote factors z k ≤ most_row_sum * most_discount
      product-fits = product-most at-node this

      pub spread-asks : SpreadReady (row_branch downs (length s) k) (values state-prices k * ratio quote factors z k / one) s
      spread-asks =
          let asks = node-asks downs (length s₀) (length state-prices) k ready.branches-inside ready.branches-total hk in
          record {
            branch-inside = rw sums-length asks.0;
            branch-most = rw sums-length asks.1;
            amount-most = amount-most at-node this;
            sums-most = sums-small at-node s g.spread;
          }

      pub stepping-next : (s' : List ℕ) →
          s' ≡ row (length s) (λ j. values s j + chance (row_transition downs (length s)) k j * (values state-prices k * ratio quote factors z k / one)) →
          Stepping quote z state-prices factors downs d₀ s₀ (set d k (ratio quote factors z k)) s' (k + 1)
      unfolding carried
      stepping-next s' e =
          record {
            within = omega arith;
            filled = filled_next {f = ratio quote factors z} {x = ratio quote factors z k} g.filled (omega (arith, discounts-length)) refl;
            spread =
                sums_next at-node this s s' (values state-prices k * ratio quote factors z k / one) refl g.spread
                (e ∙ ap (λ (m : ℕ). row (length s) (λ j. values s j + chance (row_transition downs m) k j
                * (values state-prices k * ratio quote factors z k / one))) sums-length);
            good = each_more k (λ i. is_discount (ratio quote factors z i)) g.good this;
          }

  module _ (all : k ≡ length state-prices) where
    pub stepping-good : true ≡ each (length state-prices) (λ i. is_discount (ratio quote factors z i))
    stepping-good = sym (ap (λ (n : ℕ). each n (λ i. is_discount (ratio quote factors z i))) (sym all) ∙ g.good)

    pub stepping-filled : d ≡ row (length state-prices) (ratio quote factors z)
    stepping-filled =
        filled-all d₀ d (ratio quote factors z) k g.filled (all ∙ sym ready.discounts-length)
        ∙ ap (λ (n : ℕ). row n (ratio quote factors z)) ready.discounts-length

    pub stepping-spread : s ≡ spread-sums quote factors z state-prices downs (length s₀) (length state-prices)
    stepping-spread = g.spread ∙ ap (spread-sums quote factors z state-prices downs (length s₀)) all
