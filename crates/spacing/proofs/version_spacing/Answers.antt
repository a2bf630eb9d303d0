use mathlib.Core.Path.{◌≡◌, refl, sym, ◌∙◌}
use Rattle.std.proofs.lemmas.Result.{err_from_is_err_and}
use mathlib.Core.Bool.{true}
use Prim.Native.Nat.{ℕ, ◌*◌, ◌≤◌}
use native.Mathlib.Nat.{mul-le-mul}
use native.Mathlib.Omega.{arith}
use Rattle.arithmetic.specs.Frequency.{is_frequency}
use Rattle.arithmetic.proofs.FrequencyLaws.{listed_small}
use Rattle.arithmetic.proofs.Implied.{implied}
use Rattle.spacing.proofs.SpacingLaws.{cube-positive}
use Rattle.spacing.proofs.VersionLaws.{answer-unlisted, answer-reverting, answer-volatile, ratio-kept, ratio-fits, ratio-found}
use Rattle.spacing.proofs.version_spacing.Goals as goal

square-fits : {s : ℕ} → s ≤ 50000 → s * s ≤ 2500000000
square-fits h = mul-le-mul h h

square-listed : (f : ℕ) → is_frequency f ≡ true → f * f ≤ 144
square-listed f u = mul-le-mul (listed_small f u).1 (listed_small f u).1

cube-listed : (f : ℕ) → is_frequency f ≡ true → f * f * f ≤ 1728
cube-listed f u = mul-le-mul (square-listed f u) (listed_small f u).1

pub returns-then-not-is_frequency : goal.returns-then-not-is_frequency
returns-then-not-is_frequency c = sym (answer-unlisted _ _ _ _ (sym c.is_frequency.ensures ∙ c.if-not-is_frequency.true))

pub returns-then-reversion-gt-MOST_REVERSION : goal.returns-then-reversion-gt-MOST_REVERSION
returns-then-reversion-gt-MOST_REVERSION c =
    sym (answer-reverting _ _ _ _ (sym c.is_frequency.ensures ∙ c.if-not-is_frequency.false) c.if-reversion-gt-MOST_REVERSION.true)

pub returns-then-volatility-gt50000 : goal.returns-then-volatility-gt50000
returns-then-volatility-gt50000 c =
    sym (answer-volatile _ _ _ _ (sym c.is_frequency.ensures ∙ c.if-not-is_frequency.false) (omega arith) c.if-volatility-gt50000.true)

pub returns-in_err-ratio : goal.returns-in_err-ratio
returns-in_err-ratio c =
    let p = err_from_is_err_and c.from_residual.result c.from_residual.ensures.1 in
    rw (p.1, p.2)
    (ratio-kept implied _ (sym c.is_frequency.ensures ∙ c.if-not-is_frequency.false) (omega arith) (omega arith) c.in_err-ratio.ensures)

pub overflow_mul-variance : goal.overflow_mul-variance
overflow_mul-variance c = omega (arith, square-fits c.if-volatility-gt50000.false)

pub overflow_mul-variance-2 : goal.overflow_mul-variance-2
overflow_mul-variance-2 c = omega (arith, square-fits c.if-volatility-gt50000.false)

pub overflow_mul-variance-3 : goal.overflow_mul-variance-3
overflow_mul-variance-3 c =
    omega (
      arith,
      ratio-fits {s = c.args.volatility} implied (sym c.is_frequency.ensures ∙ c.if-not-is_frequency.false) (omega arith) (omega arith)
          c.in_ok-ratio.ensures refl,
    )

pub overflow_mul-cube : goal.overflow_mul-cube
overflow_mul-cube c = omega (arith, square-listed _ (sym c.is_frequency.ensures ∙ c.if-not-is_frequency.false))

pub overflow_mul-cube-2 : goal.overflow_mul-cube-2
overflow_mul-cube-2 c = omega (arith, cube-listed _ (sym c.is_frequency.ensures ∙ c.if-not-is_frequency.false))

pub nonzero_div-variance-2 : goal.nonzero_div-variance-2
nonzero_div-variance-2 c = cube-positive (listed_small _ (sym c.is_frequency.ensures ∙ c.if-not-is_frequency.false)).0

pub returns : goal.returns
returns c =
    sym (ratio-found implied (sym c.is_frequency.ensures ∙ c.if-not-is_frequency.false) (omega arith) (omega arith) c.in_ok-ratio.ensures
    refl _ c.isqrt.ensures.square_le c.isqrt.ensures.next_square_gt)
