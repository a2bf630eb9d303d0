-- The spacing of the nodes (document 01, Spacing and fit, first point; document 02, request (ix)) and the entries that answer it.
-- Assumes nothing.
use Rattle.std.specs.Prelude.{ℕ, zero, suc, ◌*◌, Bool, cond, not, leb, ltb}
use Rattle.arithmetic.specs.Rounding.{one, round_down}
use Rattle.arithmetic.specs.Frequency.{is_frequency}
use Rattle.arithmetic.specs.Answers.{refused, answered}
use Rattle.arithmetic.specs.declared.Answer.{Answer}
use Rattle.limits.specs.Limits.{most_reversion}
use Rattle.reversion.specs.Reversion.{is_version, is_exact, variance_ratio}

-- the greatest number of at most n that passes a test, 0 where none does
unfoldable pub greatest_passing : (ℕ → Bool) → ℕ → ℕ
greatest_passing test zero = 0
greatest_passing test (suc n) = cond (test (suc n)) (suc n) (greatest_passing test n)

-- the greatest h with h² × c ≤ x, for c above 0: none above x can pass
unfoldable pub greatest_root : ℕ → ℕ → ℕ
greatest_root c x = greatest_passing (λ h. leb (h * h * c) x) x

-- h: the greatest whole number with h² × f³ ≤ 3 × (1,000 s)²
unfoldable pub spacing : ℕ → ℕ → ℕ
spacing f s = greatest_root (f * f * f) (3 * (1000 * s * (1000 * s)))

-- what the entry answers: cause 2, cause 5, or h
unfoldable pub spacing_answer : ℕ → ℕ → Answer
spacing_answer f s = cond (not (is_frequency f)) (refused 2) (cond (ltb 50000 s) (refused 5) (answered (spacing f s)))

-- what h² × f³ may come to: 3 × (1,000 s)², in version 2 and for b above 0 times c / one, down
unfoldable pub version_variance : ℕ → ℕ → ℕ → ℕ
version_variance version s b =
    cond (is_exact version b) (round_down (3 * (1000 * s * (1000 * s)) * variance_ratio b) one) (3 * (1000 * s * (1000 * s)))

-- h by version: the greatest whole number whose h² × f³ is at most that
unfoldable pub version_spacing : ℕ → ℕ → ℕ → ℕ → ℕ
version_spacing version f s b = greatest_root (f * f * f) (version_variance version s b)

-- what the entry by version answers: cause 2, cause 4, cause 5, cause 7, or h
unfoldable pub version_spacing_answer : ℕ → ℕ → ℕ → ℕ → Answer
version_spacing_answer version f s b =
    cond (not (is_frequency f)) (refused 2)
    (cond (ltb most_reversion b) (refused 4)
    (cond (ltb 50000 s) (refused 5)
    (cond (not (is_version version)) (refused 7) (answered (version_spacing version f s b)))))
