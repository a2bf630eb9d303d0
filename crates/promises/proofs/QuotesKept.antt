-- The promises about figures and quotes are kept.
-- Assumes nothing.
use mathlib.Core.Path.{◌≡◌, refl, sym, ◌∙◌, subst}
use mathlib.Core.Bool.{Bool, true, false, not, cond, true≢false}
use mathlib.Core.List.{List}
use Prim.Native.Nat.{ℕ, zero, suc, ◌*◌, ◌≤◌, ◌<◌}
use native.Mathlib.Nat.{mul_comm}
use native.Mathlib.Omega.{arith}
use borrow.Author.Tests.{ltb-false}
use lib.Ieee.{Float, nan, inf, fin, up, down}
use lib.IntN.{ℤ, pos, negsuc, neg_ℤ, nat_abs, ◌+ℤ◌, ◌*ℤ◌}
use lib.Pow.{pow_pos}
use Rattle.arithmetic.specs.Answers.{refused, answered}
use Rattle.arithmetic.specs.declared.Answer.{Answer}
use Rattle.arithmetic.specs.Frequency.{is_frequency}
use Rattle.arithmetic.specs.Rounding.{one, nearest, round_down}
use Rattle.arithmetic.proofs.Numbers.{by-test}
use Rattle.arithmetic.proofs.RoundingLaws.{nearest-le-half, nearest-gt-half}
use Rattle.arithmetic.proofs.Implied.{implied}
use Rattle.limits.specs.Limits.{most_steps, is_steps}
use Rattle.figure.specs.Figure.{beyond, signed, negative, magnitude_of, billionths_of, figure_of}
use Rattle.figure.proofs.FigureLaws.{number-accepted, value-accepted}
use Rattle.quotes.specs.declared.Point.{Point}
use Rattle.quotes.specs.Quotes.{row_known, in_range, factor_discount, quotient, rate_discount, ranged_answer, figure_answer, quote_answer, kind_answer, lone_answer}
use Rattle.quotes.proofs.QuoteLaws.{lone-told, range-bounds}
use Rattle.curve.specs.Curve.{answer_at, curve_number}
use Rattle.curve.proofs.CurveLaws.{accepted}
use Rattle.fitted_laws.proofs.Promised.{fit-numbers}
use Rattle.promises.specs.Causes.{is_kind}
use Rattle.promises.proofs.CauseTables.{none_first}
use Rattle.promises.proofs.QuoteCauses.{lone-causes}
use Rattle.promises.specs.Quoted.{Taken, OfRate, Quoted, CurveQuoted, QuotePromises}

-- ---- a figure

down-positive : (e : ℤ) → 0 < down e
down-positive (pos k) = omega arith
down-positive (negsuc k) = pow_pos (suc k)

sign-size : (s : Bool) (n : ℕ) → nat_abs (signed s n) ≡ n
sign-size true zero = refl
sign-size true (suc n) = refl
sign-size false n = refl

taken : (x : Float) → beyond x ≡ false → Taken x (billionths_of x)
unfolding beyond billionths_of magnitude_of
taken nan h = absurd (true≢false h)
taken (inf s) h = absurd (true≢false h)
taken (fin s m e) h =
    let size : nat_abs (signed s (nearest (m * up e * one) (down e))) ≡ nearest (m * up e * one) (down e) = sign-size s _ in
    record {
      negative = s;
      significand = m;
      exponent = e;
      float = refl;
      within-ten = ltb-false (10 * down e) (m * up e) h;
      half-above = rw (size, mul_comm (nearest (m * up e * one) (down e)) (down e)) (nearest-le-half (m * up e * one) (down e) (down-positive e));
      half-below = rw (size, mul_comm (nearest (m * up e * one) (down e)) (down e)) (nearest-gt-half (m * up e * one) (down e) (down-positive e));
      signed = rw size (by_sign s);
    }
  where
    by_sign : (t : Bool) → signed t (nearest (m * up e * one) (down e))
        ≡ cond t (neg_ℤ (pos (nearest (m * up e * one) (down e)))) (pos (nearest (m * up e * one) (down e)))
    by_sign true = refl
    by_sign false = refl

figures-taken : (x : Float) → (figure_of x).number ≡ 0 → Taken x (figure_of x).value
figures-taken x h = subst (Taken x) (sym (value-accepted x (figure_of x) refl h)) (taken x (number-accepted x (figure_of x) refl h))

-- ---- a lone quote

seven : ◌≡◌ {A = ℕ} 7 0 → ⊥
seven e = omega arith

-- the discount of an accepted figure, which is no 0
figured : (x : Float) (discount : ℤ → ℕ) → (figure_answer x discount).number ≡ 0 →
    ((figure_answer x discount).value ≡ discount (billionths_of x)) × (1 ≤ discount (billionths_of x))
unfolding figure_answer ranged_answer
figured x discount = by_tests (beyond x) (in_range p) refl
  where
    p : ℕ
    p = discount (billionths_of x)

    by_tests : (t u : Bool) → in_range p ≡ u → (cond t (refused 7) (cond u (answered p) (refused 7))).number ≡ 0 →
        ((cond t (refused 7) (cond u (answered p) (refused 7))).value ≡ p) × (1 ≤ p)
    by_tests true u h e = absurd (seven e)
    by_tests false true h e = (refl, omega (arith, (range-bounds p h).0))
    by_tests false false h e = absurd (seven e)

-- what holds of a kind's answer holds of a lone quote's
by-lone : (P : Answer → Type 0) (f kind : ℕ) (p : Point) → ((k : ℕ) → P (refused (suc k))) → P (kind_answer f kind p) → P (lone_answer f kind p)
unfolding lone_answer
by-lone P f kind p of-refused of-kind =
    by-test (not (is_frequency f)) P (refused 2) _ (λ h. of-refused 1)
    (λ h. by-test (not (row_known p.row)) P (refused 6) (kind_answer f kind p) (λ g. of-refused 5) (λ g. of-kind))

module _ (f : ℕ) (p : Point) where
  abbrev amount : ℤ
  amount = billionths_of p.figure

  abbrev factor-promised : Answer → Type 0
  factor-promised a = a.number ≡ 0 → pos a.value ≡ amount

  abbrev rate-promised : Answer → Type 0
  rate-promised a = a.number ≡ 0 → OfRate f p.row amount a.value

  factor-kind : factor-promised (kind_answer f 5 p)
  unfolding kind_answer quote_answer factor_discount
  factor-kind e = let told = figured p.figure factor_discount e in rw told.0 (whole amount told.1)
    where
      whole : (r : ℤ) → 1 ≤ factor_discount r → pos (factor_discount r) ≡ r
      whole (pos r) h = refl
      whole (negsuc r) h = let none : ⊥ = omega arith in absurd none

  rate-kind : rate-promised (kind_answer f 6 p)
  unfolding kind_answer quote_answer rate_discount quotient round_down
  rate-kind e =
      let told = figured p.figure (rate_discount f p.row) e in
      rw told.0 (divided (pos (f * one) +ℤ pos p.row *ℤ amount) refl told.1)
    where
      divided : (z : ℤ) → z ≡ pos (f * one) +ℤ pos p.row *ℤ amount → 1 ≤ quotient (one * one * f) z →
          OfRate f p.row amount (quotient (one * one * f) z)
      divided (pos zero) ez h = let none : ⊥ = omega arith in absurd none
      divided (pos (suc d)) ez h = record { divisor = suc d; divisor-is = ez; divisor-positive = omega arith; discount = refl }
      divided (negsuc d) ez h = let none : ⊥ = omega arith in absurd none

  discount-factors : factor-promised (lone_answer f 5 p)
  discount-factors = by-lone factor-promised f 5 p (λ k e. let none : ⊥ = omega arith in absurd none) factor-kind

  yearly-rates : rate-promised (lone_answer f 6 p)
  yearly-rates = by-lone rate-promised f 6 p (λ k e. let none : ⊥ = omega arith in absurd none) rate-kind

  -- the figure is not beyond ±10
  figure-passes : (kind : ℕ) → (lone_answer f kind p).number ≡ 0 → beyond p.figure ≡ false
  figure-passes kind h =
      let rows = (none_first 2 (not (is_frequency f)) _ (omega arith) (sym (lone-causes f kind p) ∙ h)).1 in
      let kinds = (none_first 6 (not (is_steps p.row)) _ (omega arith) rows).1 in
      let figures = (none_first 7 (not (is_kind kind)) _ (omega arith) kinds).1 in
      (none_first 7 (beyond p.figure) _ (omega arith) figures).0

  quoted : (kind : ℕ) → (lone_answer f kind p).number ≡ 0 → Quoted f kind p
  quoted kind h =
      let range = (lone-told f kind p).range h in
      record { figure = taken p.figure (figure-passes kind h); range = record { least = range.0; most = range.1 } }

-- ---- a curve

curve-quoted : (f n : ℕ) (rows kinds : List ℕ) (figures : List Float) (room : ℕ) → curve_number f n rows kinds figures room ≡ 0 → CurveQuoted f n kinds figures
unfolding answer_at
curve-quoted f n rows kinds figures room h = record { accepted = (accepted f n rows kinds figures room h).converted; discount = λ i. refl }

pub quotes-kept : QuotePromises
quotes-kept =
    record {
      figures-taken = figures-taken;
      quotes-accepted = λ f kind p. quoted f p kind;
      discount-factors = discount-factors;
      yearly-rates = yearly-rates;
      curves-quoted = curve-quoted;
      fits-quoted = λ f n w spaced h rows kinds figures ds ps z.
          curve-quoted f n rows kinds figures most_steps (fit-numbers implied z).quotes-converted;
    }
