-- What a version is (document 02, request (ix)), in its equations. v is the version, b the pull, B the same in billionths, b × 100,000; F of y is what the
-- entry of request (i) answers for y.
-- Assumes nothing.
use Rattle.std.specs.Prelude.{◌≡◌, List, ℕ, ◌-◌, ◌*◌, ◌/◌, ◌≤◌, ◌<◌, Float, pos, length}
use Rattle.arithmetic.specs.Rounding.{one, nearest}
use Rattle.continuous.specs.Continuous.{continuous_answer}
use Rattle.reversion.specs.Reversion.{working_reversion, working_answer}
use Rattle.spacing.specs.Spacing.{spacing, version_spacing, version_spacing_answer}
use Rattle.fitted_laws.specs.Entry.{fitted_number, fit_memory, fit_discounts, fit_state_prices, fit_number, discounts_after, state_prices_after}
use Rattle.fitted_laws.specs.Entry.{version_number, version_discounts_after, version_state_prices_after}

-- the working pull w: b itself in version 1; 10,000 × (one − F(B)) / one, nearest, in version 2. At most b, so that all that is said of the lattice holds of
-- it, and 0 only for 0.
pub record Working (v b w : ℕ) : Type 0 where
  pub first : v ≡ 1 → w ≡ b
  pub second : v ≡ 2 → w ≡ nearest (10000 * (one - (continuous_answer (pos (b * 100000))).value)) one
  pub answered : (continuous_answer (pos (b * 100000))).number ≡ 0
  pub at_most : w ≤ b
  pub at_least : 0 < b → 0 < w

-- c, for b above 0: one × (one − F(2B)) / (2B), down
pub record Ratio (b c : ℕ) : Type 0 where
  pub answered : (continuous_answer (pos (2 * (b * 100000)))).number ≡ 0
  pub is : c ≡ one * (one - (continuous_answer (pos (2 * (b * 100000)))).value) / (2 * (b * 100000))

-- h: the greatest whole number with h² × f³ at most 3 × (1,000 s)², in version 2 and for b above 0 times c / one, down
pub record VersionSpaced (v f s b h : ℕ) : Type 0 where
  pub limit : ℕ
  pub first : v ≡ 1 → limit ≡ 3 * (1000 * s * (1000 * s))
  pub none : b ≡ 0 → limit ≡ 3 * (1000 * s * (1000 * s))
  pub second : v ≡ 2 → 0 < b → (c : ℕ) → Ratio b c → limit ≡ 3 * (1000 * s * (1000 * s)) * c / one
  pub passes : h * h * (f * f * f) ≤ limit
  pub greatest : (g : ℕ) → g * g * (f * f * f) ≤ limit → g ≤ h

-- the fit by version is that of its working reversion and its spacing: its number, and what it leaves in its two memories, d and q before it
pub record FittedBy (v f n b s : ℕ) (rows kinds : List ℕ) (figures : List Float) (d q : List ℕ) : Type 0 where
  pub number : version_number v f n b s rows kinds figures (length d) (length q)
      ≡ fitted_number f n (working_reversion v b) (version_spacing_answer v f s b).number (version_spacing v f s b) rows kinds figures (length d) (length q)
  pub discounts : version_discounts_after v f n b s rows kinds figures d q
      ≡ fit_memory (version_number v f n b s rows kinds figures (length d) (length q))
      (fit_discounts f n (working_reversion v b) (version_spacing v f s b) kinds figures) d
  pub prices : version_state_prices_after v f n b s rows kinds figures d q
      ≡ fit_memory (version_number v f n b s rows kinds figures (length d) (length q))
      (fit_state_prices f n (working_reversion v b) (version_spacing v f s b) kinds figures) q

-- version 1 is the fit: its number and what it leaves
pub record FirstIsFit (f n b s : ℕ) (rows kinds : List ℕ) (figures : List Float) (d q : List ℕ) : Type 0 where
  pub number : version_number 1 f n b s rows kinds figures (length d) (length q) ≡ fit_number f n b s rows kinds figures (length d) (length q)
  pub discounts : version_discounts_after 1 f n b s rows kinds figures d q ≡ discounts_after f n b s rows kinds figures d q
  pub prices : version_state_prices_after 1 f n b s rows kinds figures d q ≡ state_prices_after f n b s rows kinds figures d q

pub record VersionPromises : Type 0 where
  pub working : (v b : ℕ) → (working_answer v b).number ≡ 0 → Working v b (working_answer v b).value
  pub working-is : (v b : ℕ) → (working_answer v b).number ≡ 0 → (working_answer v b).value ≡ working_reversion v b
  pub spaced : (v f s b : ℕ) → (version_spacing_answer v f s b).number ≡ 0 → VersionSpaced v f s b (version_spacing_answer v f s b).value
  pub spaced-is : (v f s b : ℕ) → (version_spacing_answer v f s b).number ≡ 0 → (version_spacing_answer v f s b).value ≡ version_spacing v f s b
  pub fitted-by : (v f n b s : ℕ) (rows kinds : List ℕ) (figures : List Float) (d q : List ℕ) → FittedBy v f n b s rows kinds figures d q
  pub first-is-fit : (f n b s : ℕ) (rows kinds : List ℕ) (figures : List Float) (d q : List ℕ) → FirstIsFit f n b s rows kinds figures d q
  pub first-tree : (f s b : ℕ) → (working_reversion 1 b ≡ b) × (version_spacing 1 f s b ≡ spacing f s)
  -- for b = 0 both agree
  pub none-tree : (v f s : ℕ) → (working_reversion v 0 ≡ 0) × (version_spacing v f s 0 ≡ spacing f s)
