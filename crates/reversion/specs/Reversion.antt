-- The reversion by version (document 02, request (ix)). b is the pull per step in ten-thousandths; B, the same in billionths, is b × 100,000.
-- F is `continuous_discount`.
-- Assumes nothing.
use Rattle.std.specs.Prelude.{ℕ, ◌-◌, ◌*◌, Bool, cond, not, ◌&&◌, ◌||◌, leb, ltb, eqb, pos}
use Rattle.arithmetic.specs.Rounding.{one, round_down, nearest}
use Rattle.arithmetic.specs.Answers.{refused, answered}
use Rattle.arithmetic.specs.declared.Answer.{Answer}
use Rattle.limits.specs.Limits.{most_reversion}
use Rattle.continuous.specs.Continuous.{continuous_discount}

-- the two versions
unfoldable pub is_version : ℕ → Bool
is_version version = eqb version 1 || eqb version 2

-- version 2's working pull: 10,000 × (one − F(B)) / one, nearest
unfoldable pub exact_reversion : ℕ → ℕ
exact_reversion b = nearest (10000 * (one - continuous_discount (pos (100000 * b)))) one

-- the working reversion, which stands for b in J, branching, rows and prices: b itself unless the version is 2 and b within its limit
unfoldable pub working_reversion : ℕ → ℕ → ℕ
working_reversion version b = cond (eqb version 2 && leb b most_reversion) (exact_reversion b) b

-- c, for b above 0: one × (one − F(2B)) / (2B), down
unfoldable pub variance_ratio : ℕ → ℕ
variance_ratio b = round_down (one * (one - continuous_discount (pos (2 * (100000 * b))))) (2 * (100000 * b))

-- where c counts: in version 2, for b above 0
unfoldable pub is_exact : ℕ → ℕ → Bool
is_exact version b = eqb version 2 && ltb 0 b

-- c by version: one where it does not count
unfoldable pub version_ratio : ℕ → ℕ → ℕ
version_ratio version b = cond (is_exact version b) (variance_ratio b) one

-- what the entries answer: cause 4, cause 7, or the number
unfoldable pub by_version : ℕ → ℕ → ℕ → Answer
by_version version b result = cond (ltb most_reversion b) (refused 4) (cond (not (is_version version)) (refused 7) (answered result))

abbrev pub working_answer : ℕ → ℕ → Answer
working_answer version b = by_version version b (working_reversion version b)

abbrev pub ratio_answer : ℕ → ℕ → Answer
ratio_answer version b = by_version version b (version_ratio version b)
