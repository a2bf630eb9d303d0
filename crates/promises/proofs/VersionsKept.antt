-- The promises about versions.
-- Assumes nothing.
use mathlib.Core.Path.{◌≡◌, refl, sym, ap, ap₂, subst, ◌∙◌}
use mathlib.Core.List.{List}
use Prim.Native.Nat.{ℕ, ◌-◌, ◌*◌, ◌/◌, ◌≤◌, ◌<◌}
use native.Mathlib.Omega.{arith}
use borrow.Author.Tests.{eq-eqb, lt-ltb, le-ltb}
use lib.Ieee.{Float}
use lib.IntN.{pos}
use lib.ListN.{length}
use Rattle.arithmetic.specs.Rounding.{one, nearest, round_down}
use Rattle.arithmetic.specs.Answers.{answered}
use Rattle.arithmetic.specs.declared.Answer.{Answer}
use Rattle.arithmetic.proofs.FrequencyLaws.{listed_small}
use Rattle.arithmetic.proofs.Numbers.{by_order}
use Rattle.limits.specs.Limits.{most_reversion}
use Rattle.continuous.specs.Continuous.{continuous_discount, continuous_answer, amount_limit}
use Rattle.reversion.specs.Reversion.{is_exact, exact_reversion, working_reversion, variance_ratio, working_answer}
use Rattle.reversion.proofs.ReversionLaws.{working-first, working-second, working-most, working-none, working-least, first-same, none-same}
use Rattle.reversion.proofs.EntryLaws.{working-found, answer-beyond}
use Rattle.spacing.specs.Spacing.{version_variance, version_spacing_answer}
use Rattle.spacing.proofs.VersionLaws.{variance-same, version-first, version-none, version-zero, version-passes, version-greatest}
use Rattle.fitted_laws.specs.Entry.{fit_memory, fit_discounts, fit_state_prices, fit_number}
use Rattle.fitted_laws.specs.Entry.{version_discounts, version_state_prices}
use Rattle.fitted_laws.proofs.VersionLaws.{first-number}
use Rattle.promises.specs.Versions.{Working, Ratio, VersionSpaced, FirstIsFit, VersionPromises}

-- ---- F of an amount within its limit

amount-answered : (y : ℕ) → y ≤ amount_limit → continuous_answer (pos y) ≡ answered (continuous_discount (pos y))
unfolding continuous_answer
amount-answered y h = rw (le-ltb amount_limit y h)

amount-number : (y : ℕ) → y ≤ amount_limit → (continuous_answer (pos y)).number ≡ 0
amount-number y h = ap (λ (a : Answer). a.number) (amount-answered y h)

amount-value : (y : ℕ) → y ≤ amount_limit → (continuous_answer (pos y)).value ≡ continuous_discount (pos y)
amount-value y h = ap (λ (a : Answer). a.value) (amount-answered y h)

-- ---- the working reversion

module _ (v b : ℕ) (h : b ≤ most_reversion) where
  second-working : v ≡ 2 → working_reversion v b ≡ nearest (10000 * (one - (continuous_answer (pos (b * 100000))).value)) one
  unfolding exact_reversion
  second-working e =
      let same : 100000 * b ≡ b * 100000 = omega arith in
      working-second v b e h ∙ ap (λ (y : ℕ). nearest (10000 * (one - continuous_discount (pos y))) one) same
      ∙ ap (λ (d : ℕ). nearest (10000 * (one - d)) one) (sym (amount-value (b * 100000) (omega arith)))

  working-kept : Working v b (working_reversion v b)
  working-kept =
      record {
        first = λ e. rw e (working-first b);
        second = second-working;
        answered = amount-number (b * 100000) (omega arith);
        at_most = working-most v b;
        at_least = working-least v b;
      }

pub working-answered : (v b : ℕ) → (working_answer v b).number ≡ 0 → Working v b (working_answer v b).value
working-answered v b z =
    by_order b most_reversion
    (λ h. subst (Working v b) (sym (working-found v b z)) (working-kept v b h))
    (λ h. absurd (omega (arith, z, ap (λ (x : Answer). x.number) (answer-beyond v b (working_reversion v b) h))))

-- ---- the spacing

module _ (v s b : ℕ) (h : b ≤ most_reversion) where
  ratio-only : (c : ℕ) → Ratio b c → variance_ratio b ≡ c
  unfolding variance_ratio round_down
  ratio-only c r =
      let same : 2 * (100000 * b) ≡ 2 * (b * 100000) = omega arith in
      ap (λ (y : ℕ). one * (one - continuous_discount (pos y)) / y) same
      ∙ ap (λ (d : ℕ). one * (one - d) / (2 * (b * 100000))) (sym (amount-value (2 * (b * 100000)) (omega arith)))
      ∙ sym r.is

  counted : v ≡ 2 → 0 < b → version_variance v s b ≡ round_down (3 * (1000 * s * (1000 * s)) * variance_ratio b) one
  unfolding version_variance is_exact
  counted e p = rw (eq-eqb v 2 e, lt-ltb 0 b p)

  second-limit : v ≡ 2 → 0 < b → (c : ℕ) → Ratio b c → version_variance v s b ≡ 3 * (1000 * s * (1000 * s)) * c / one
  unfolding round_down
  second-limit e p c r =
      counted e p ∙ ap (λ (x : ℕ). 3 * (1000 * s * (1000 * s)) * x / one) (ratio-only c r)

spaced-kept : (v f s b : ℕ) → (version_spacing_answer v f s b).number ≡ 0 → VersionSpaced v f s b (version_spacing_answer v f s b).value
spaced-kept v f s b z =
    let a = version-zero v f s b z in
    subst (VersionSpaced v f s b) (sym a.value)
    (record {
      limit = version_variance v s b;
      first = λ e. variance-same v s b (first-same v b e);
      none = λ e. variance-same v s b (none-same v b e);
      second = second-limit v s b a.reversion;
      passes = version-passes v f s b;
      greatest = version-greatest v f s b (listed_small f a.frequency).0;
    })

-- ---- the fit

module _ (f n b s : ℕ) (rows kinds : List ℕ) (figures : List Float) (d q : List ℕ) where
  first-fit : FirstIsFit f n b s rows kinds figures d q
  first-fit =
      let e = first-number f n b s rows kinds figures (length d) (length q) in
      record {
        number = e;
        discounts =
            ap (λ (c : ℕ). fit_memory c (version_discounts 1 f n b s kinds figures) d) e
            ∙ ap₂ (λ (w h : ℕ). fit_memory (fit_number f n b s rows kinds figures (length d) (length q)) (fit_discounts f n w h kinds figures) d)
            (working-first b) (version-first f s b);
        prices =
            ap (λ (c : ℕ). fit_memory c (version_state_prices 1 f n b s kinds figures) q) e
            ∙ ap₂ (λ (w h : ℕ). fit_memory (fit_number f n b s rows kinds figures (length d) (length q)) (fit_state_prices f n w h kinds figures) q)
            (working-first b) (version-first f s b);
      }

pub versions-kept : VersionPromises
versions-kept =
    record {
      working = working-answered;
      working-is = working-found;
      spaced = spaced-kept;
      spaced-is = λ v f s b z. (version-zero v f s b z).value;
      fitted-by = λ v f n b s rows kinds figures d q. record { number = refl; discounts = refl; prices = refl };
      first-is-fit = first-fit;
      first-tree = λ f s b. (working-first b, version-first f s b);
      none-tree = λ v f s. (working-none v, version-none v f s);
    }
