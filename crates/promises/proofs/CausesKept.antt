-- The table of causes is kept.
-- Assumes nothing.
use mathlib.Core.Path.{◌≡◌, refl, ◌∙◌}
use mathlib.Core.Bool.{Bool, true, false, not, cond, ◌&&◌}
use mathlib.Core.List.{[], ◌∷◌}
use Prim.Native.Nat.{ℕ, ◌*◌}
use lib.Dec.{eqb, leb, ltb}
use lib.Ieee.{Float}
use lib.IntN.{ℤ, nat_abs}
use lib.ListN.{length}
use Rattle.arithmetic.specs.Answers.{refused, answered, first_cause}
use Rattle.limits.specs.Limits.{is_steps, is_reversion, is_discount, shape_cause}
use Rattle.lattice.specs.Shape.{half_width, node_count, row_start, discounts_needed, state_prices_needed}
use Rattle.lattice.specs.Entries.{about_row, about_tree, branch_answer, branch_of, refused_branch}
use Rattle.figure.specs.Figure.{beyond, billionths_of, figure_of, refused_figure, accepted_figure}
use Rattle.factor.specs.Factor.{node_answer, factor}
use Rattle.step_rate.specs.StepRate.{rate_answer, step_rate, refused_rate, answered_rate}
use Rattle.continuous.specs.Continuous.{continuous_answer, continuous_discount}
use Rattle.continuous_rate.specs.ContinuousRate.{continuous_rate_answer, continuous_rate}
use Rattle.price_laws.specs.declared.Price.{Price}
use Rattle.price_laws.specs.Strips.{strip_cause, strip_answer}
use Rattle.price_laws.proofs.StripLaws.{strip-number}
use Rattle.promises.specs.Causes.{CausePromises, cause, first_of, tree_causes}
use Rattle.promises.proofs.CauseTables.{not-leb, ltb-not, number_of}
use Rattle.promises.proofs.QuoteCauses.{lone-causes, curve-causes, shape-first, spacing-causes}
use Rattle.promises.proofs.QuoteCauses.{fit-causes, by-version-causes, version-spacing-causes, version-causes}
use Rattle.reversion.specs.Reversion.{working_reversion, version_ratio}
use Rattle.promises.proofs.PriceCauses.{price-bound-causes, tree-bounds-causes, state-price-bound-causes, bond-causes}
use Rattle.promises.proofs.PriceCauses.{option-causes, dated-causes, weighing-causes, weighing-bound-causes}

-- ---- rows, sizes and branches

about-row : (b i result : ℕ) → (about_row b i result).number ≡ first_of (cause 4 (not (is_reversion b)) ∷ cause 6 (ltb 60 i) ∷ [])
unfolding about_row first_of
about-row b i result = rw (not-leb b 6000) (by_tests (ltb 6000 b) (ltb 60 i))
  where
    by_tests : (t u : Bool) → (cond t (refused 4) (cond u (refused 6) (answered result))).number ≡ cond t 4 (cond u 6 0)
    by_tests true u = refl
    by_tests false true = refl
    by_tests false false = refl

about-tree : (n b result : ℕ) → (about_tree n b result).number ≡ first_of (tree_causes n b [])
unfolding about_tree
about-tree n b result = number_of (shape_cause n b) result ∙ shape-first n b

branch-causes : (b i : ℕ) (j : ℤ) →
    (branch_answer b i j).number ≡ first_of (cause 4 (not (is_reversion b)) ∷ cause 6 (not (ltb i 60 && leb (nat_abs j) (half_width b i))) ∷ [])
unfolding branch_answer first_of
branch-causes b i j =
    rw (not-leb b 6000, ltb-not i 60) (by_tests (ltb 6000 b) (leb 60 i) (leb (nat_abs j) (half_width b i)))
  where
    by_tests : (t u v : Bool) →
        (cond t (refused_branch 4) (cond u (refused_branch 6) (cond v (branch_of b j) (refused_branch 6)))).number
        ≡ cond t 4 (cond (not (not u && v)) 6 0)
    by_tests true u v = refl
    by_tests false true v = refl
    by_tests false false true = refl
    by_tests false false false = refl

-- ---- figures, rates, amounts, spacing and factors

figure-causes : (x : Float) → (figure_of x).number ≡ first_of (cause 7 (beyond x) ∷ [])
unfolding figure_of first_of
figure-causes x = by-test (beyond x)
  where
    by-test : (t : Bool) → (cond t refused_figure (accepted_figure (billionths_of x))).number ≡ cond t 7 0
    by-test true = refl
    by-test false = refl

rate-causes : (v : ℕ) → (rate_answer v).number ≡ first_of (cause 9 (not (is_discount v)) ∷ [])
unfolding rate_answer first_of
rate-causes v = by-test (not (is_discount v))
  where
    by-test : (t : Bool) → (cond t refused_rate (answered_rate (step_rate v))).number ≡ cond t 9 0
    by-test true = refl
    by-test false = refl

continuous-rate-causes : (v : ℕ) → (continuous_rate_answer v).number ≡ first_of (cause 9 (not (is_discount v)) ∷ [])
unfolding continuous_rate_answer first_of
continuous-rate-causes v = by-test (not (is_discount v))
  where
    by-test : (t : Bool) → (cond t refused_rate (answered_rate (continuous_rate v))).number ≡ cond t 9 0
    by-test true = refl
    by-test false = refl

-- an answer with one cause
single : (cause-number value : ℕ) (t : Bool) → (cond t (refused cause-number) (answered value)).number ≡ cond t cause-number 0
single k value true = refl
single k value false = refl

amount-causes : (y : ℤ) → (continuous_answer y).number ≡ first_of (cause 7 (ltb 4000000000 (nat_abs y)) ∷ [])
unfolding continuous_answer first_of
amount-causes y = single 7 (continuous_discount y) (ltb 4000000000 (nat_abs y))

factor-causes : (j : ℤ) (h : ℕ) → (node_answer j h).number ≡ first_of (cause 8 (ltb 1000000000 (nat_abs j * h)) ∷ [])
unfolding node_answer first_of
factor-causes j h = single 8 (factor j h) (ltb 1000000000 (nat_abs j * h))

-- a strip itself
strip-causes : (n b count : ℕ) (price : ℕ → Price) →
    (strip_answer n b count price).number ≡ first_of (tree_causes n b (cause 6 (not (leb 1 count && leb count 16)) ∷ []))
unfolding strip_cause first_cause shape_cause first_of
strip-causes n b count price =
    strip-number n b count price ∙ by_tests (is_steps n) (is_reversion b) (leb 1 count && leb count 16)
  where
    by_tests : (s r t : Bool) →
        ◌≡◌ {A = ℕ} (cond (eqb (cond s (cond r 0 4) 3) 0) (cond t 0 6) (cond s (cond r 0 4) 3)) (cond (not s) 3 (cond (not r) 4 (cond (not t) 6 0)))
    by_tests false r t = refl
    by_tests true false t = refl
    by_tests true true false = refl
    by_tests true true true = refl

pub causes-kept : CausePromises
causes-kept =
    record {
      half-width = λ b i. about-row b i (half_width b i);
      node-count = λ b i. about-row b i (node_count b i);
      row-start = λ b i. about-row b i (row_start b i);
      discounts-needed = λ n b. about-tree n b (discounts_needed n b);
      state-prices-needed = λ n b. about-tree n b (state_prices_needed n b);
      branch = branch-causes;
      figure = figure-causes;
      lone-quote = lone-causes;
      curve = curve-causes;
      step-rate = rate-causes;
      continuous-rate = continuous-rate-causes;
      continuous-discount = amount-causes;
      node-spacing = spacing-causes;
      node-factor = factor-causes;
      fit = fit-causes;
      working-reversion = λ v b. by-version-causes v b (working_reversion v b);
      variance-ratio = λ v b. by-version-causes v b (version_ratio v b);
      version-spacing = version-spacing-causes;
      version-fit = version-causes;
      price-bound = price-bound-causes;
      tree-bounds = tree-bounds-causes;
      state-price-bound = state-price-bound-causes;
      bond = bond-causes;
      option = option-causes;
      dated-option = dated-causes;
      strip = λ n b discounts flows side dates strikes. strip-causes n b (length strikes) _;
      strip-of-kind = λ n b discounts flows kind expiry strikes. strip-causes n b (length strikes) _;
      weighing = weighing-causes;
      weighing-bound = weighing-bound-causes;
    }
