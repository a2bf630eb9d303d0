-- The promises about branching, rates and fit.
-- Assumes nothing.
use mathlib.Core.Path.{◌≡◌, refl, ap, sym, subst, ◌∙◌}
use mathlib.Core.Bool.{Bool, true, false, cond, not}
use Prim.Native.Nat.{ℕ, ◌*◌, ◌≤◌}
use native.Mathlib.Nat.{pos_of_ne-zero}
use native.Mathlib.Omega.{arith}
use lib.Dec.{ltb, leb}
use lib.IntN.{ℤ, nat_abs, pos}
use lib.Signed.{lt_z}
use borrow.Author.Tests.{ltb-false, leb-true}
use Rattle.arithmetic.specs.Rounding.{one}
use Rattle.arithmetic.specs.Within.{Within}
use Rattle.arithmetic.specs.Frequency.{is_frequency}
use Rattle.arithmetic.specs.Answers.{refused, answered}
use Rattle.arithmetic.proofs.FrequencyLaws.{listed_small}
use Rattle.arithmetic.proofs.Numbers.{by_order, by_equal}
use Rattle.arithmetic.proofs.Implied.{implied}
use Rattle.lattice.specs.Shape.{half_width}
use Rattle.lattice.specs.Entries.{branch_answer, branch_of, refused_branch}
use Rattle.lattice.specs.Branching.{change, square, squared}
use Rattle.lattice.proofs.Sizes.{within-row}
use Rattle.lattice.proofs.Landing.{lands}
use Rattle.lattice.proofs.Nodes.{node_laws}
use Rattle.lattice.proofs.RateTreeLaws.{rate-tree-sound}
use Rattle.lattice.proofs.TreeBranches.{tree-nodes}
use Rattle.spacing.specs.Spacing.{spacing, spacing_answer}
use Rattle.spacing.proofs.SpacingLaws.{spacing-passes, spacing-zero, root-greatest, cube-positive}
use Rattle.factor.specs.Series.{scale}
use Rattle.factor.specs.Factor.{factor, exact_factor, node_answer}
use Rattle.factor.proofs.FactorLaws.{factor-within}
use Rattle.step_rate.specs.StepRate.{rate_answer}
use Rattle.step_rate.specs.declared.Rate.{Rate}
use Rattle.step_rate.proofs.RateLaws.{answer-zero, answer-high, answer-sign}
use Rattle.fitted_laws.proofs.Promised.{fit-numbers, fit-repriced}
use Rattle.promises.specs.Promises.{Branched, Spaced, TreePromises}
use Rattle.promises.proofs.BranchesKept.{widths, tiled, led-as, branch-sums}
use Rattle.promises.proofs.FitRowsKept.{factors-kept, fit-rows, fit-laid, sums-weighable, state-price-rows, bound-is, lent-near}
use Rattle.promises.proofs.StatePricesKept.{state-prices-kept}

-- a branch that is not refused leaves a node of the row, and is that node's
branch-given :
    (b i : ℕ) (j : ℤ) → (branch_answer b i j).number ≡ 0 → (b ≤ 6000) × (nat_abs j ≤ half_width b i) × (branch_answer b i j ≡ branch_of b j)
unfolding branch_answer
branch-given b i j z = go (ltb 6000 b) (leb 60 i) (leb (nat_abs j) (half_width b i)) refl refl z
  where
    go : (s t u : Bool) → ltb 6000 b ≡ s → leb (nat_abs j) (half_width b i) ≡ u →
        (cond s (refused_branch 4) (cond t (refused_branch 6) (cond u (branch_of b j) (refused_branch 6)))).number ≡ 0 →
        (b ≤ 6000) × (nat_abs j ≤ half_width b i)
        × (cond s (refused_branch 4) (cond t (refused_branch 6) (cond u (branch_of b j) (refused_branch 6))) ≡ branch_of b j)
    go true t u e f k = absurd (omega arith)
    go false true u e f k = absurd (omega arith)
    go false false true e f k = (ltb-false 6000 b e, leb-true (nat_abs j) (half_width b i) f, refl)
    go false false false e f k = absurd (omega arith)

branched : (b i : ℕ) (j : ℤ) → b ≤ 6000 → nat_abs j ≤ half_width b i → Branched b i j (branch_of b j)
unfolding change square squared
branched b i j hb h =
    let n = node_laws b j hb (within-row b i (nat_abs j) h) in
    record {
      up-whole = n.up-whole;
      middle-whole = n.middle-whole;
      down-whole = n.down-whole;
      group = refl;
      total = n.total;
      lands = lands b i j h;
      mean = n.mean;
      variance = n.variance;
    }

-- the spacing and the factor, where they are answered
spaced : (f s : ℕ) → (spacing_answer f s).number ≡ 0 → Spaced f s (spacing_answer f s).value
unfolding spacing_answer spacing
spaced f s z = go (is_frequency f) (ltb 50000 s) refl z
  where
    go : (t u : Bool) → is_frequency f ≡ t → (cond (not t) (refused 2) (cond u (refused 5) (answered (spacing f s)))).number ≡ 0 →
        Spaced f s (cond (not t) (refused 2) (cond u (refused 5) (answered (spacing f s)))).value
    go true true e k = absurd (omega arith)
    go false u e k = absurd (omega arith)
    go true false e k =
        record {
          passes = spacing-passes f s;
          greatest = root-greatest (f * f * f) (3 * (1000 * s * (1000 * s))) (cube-positive (omega (arith, (listed_small f e).0)));
        }

factor-near : (j : ℤ) (h : ℕ) → (node_answer j h).number ≡ 0 → Within 14 scale (node_answer j h).value (exact_factor j h)
unfolding node_answer
factor-near j h z = go (ltb one (nat_abs j * h)) refl z
  where
    go : (t : Bool) → ltb one (nat_abs j * h) ≡ t → (cond t (refused 8) (answered (factor j h))).number ≡ 0 →
        Within 14 scale (cond t (refused 8) (answered (factor j h))).value (exact_factor j h)
    go true e k = absurd (omega arith)
    go false e k = factor-within j h (ltb-false one (nat_abs j * h) e)

sign : (v : ℕ) → (rate_answer v).number ≡ 0 →
    (lt_z (rate_answer v).value (pos 0) ≡ ltb one v) × (lt_z (pos 0) (rate_answer v).value ≡ ltb v one)
sign v z =
    by_equal v 0
    (λ e. absurd (apart (sym (ap (λ (r : Rate). r.number) (answer-zero v e)) ∙ z)))
    (λ nz. by_order v 1100000000
    (λ l. answer-sign v (pos_of_ne-zero nz) l)
    (λ l. absurd (apart (sym (ap (λ (r : Rate). r.number) (answer-high v l)) ∙ z))))
  where
    apart : ◌≡◌ {A = ℕ} 9 0 → ⊥
    apart k = omega arith

pub tree-kept : TreePromises
tree-kept =
    record {
      branches-exact =
          λ b i j z.
          let g = branch-given b i j z in
          subst (Branched b i j) (sym g.2) (branched b i j g.0 g.1);
      row-widths = widths;
      rows-tiled = tiled;
      tree-rows = tree-nodes;
      tree-branches = led-as;
      tree-sound = rate-tree-sound;
      branch-sums = branch-sums;
      spacing-greatest = spaced;
      spacing-is = λ f s z. (spacing-zero f s z).value;
      factors-near = factor-near;
      factors-by-sign = factors-kept;
      sign-of-rates = sign;
      fit-spaced = λ f n w spaced h rows kinds figures ds ps z. (fit-numbers implied z).spacing-found;
      fit-rows = fit-rows;
      fit-laid = fit-laid;
      quotes-repriced =
          λ f n w spaced h rows kinds figures ds ps z i l.
          let r = fit-repriced implied z i l in record { below = r.0; above = r.1 };
      sums-weighable = sums-weighable;
      state-price-rows = state-price-rows;
      state-price-bound-is = bound-is;
      lent-state-prices-near = lent-near;
      state-prices-near = state-prices-kept;
    }
