-- What a quoted point gives (document 01, Quotes; document 02, request (i)): its discount P in billionths, or a refusal.
-- Assumes nothing.
use Rattle.std.specs.Prelude.{ℕ, zero, suc, ◌*◌, Bool, not, cond, ◌&&◌, leb, eqb, ℤ, pos, negsuc, ◌+ℤ◌, ◌*ℤ◌, Float}
use Rattle.arithmetic.specs.declared.Answer.{Answer}
use Rattle.arithmetic.specs.Answers.{refused, answered}
use Rattle.arithmetic.specs.Frequency.{is_frequency}
use Rattle.arithmetic.specs.Rounding.{one, round_down, round_down_signed}
use Rattle.limits.specs.Limits.{least_quote, most_quote, is_steps}
use Rattle.continuous.specs.Continuous.{continuous_answer}
use Rattle.figure.specs.Figure.{billionths_of, beyond}
use Rattle.quotes.specs.declared.Point.{Point}
use Rattle.quotes.specs.declared.Quote.{Quote}
use Rattle.quotes.specs.declared.Quote.TheVariants.{DiscountFactor, YearlyRate, YearlyYield}

-- the row of a lone point, within the limits of n
unfoldable pub row_known : ℕ → Bool
row_known t = is_steps t

-- the range of P
unfoldable pub in_range : ℕ → Bool
in_range p = leb least_quote p && leb p most_quote

-- P of a discount factor of r billionths; 0, which is out of range, where it is negative
unfoldable pub factor_discount : ℤ → ℕ
factor_discount (pos r) = r
factor_discount (negsuc r) = 0

-- a quotient, down; 0, which is out of range, where the divisor is 0 or less
unfoldable pub quotient : ℕ → ℤ → ℕ
unfolding round_down
quotient n (pos zero) = 0
quotient n (pos (suc d)) = round_down n (suc d)
quotient n (negsuc d) = 0

-- P of a yearly rate of r billionths for row t: one × one × f / (f × one + t × r), down
unfoldable pub rate_discount : ℕ → ℕ → ℤ → ℕ
unfolding quotient
rate_discount f t r = quotient (one * one * f) (pos (f * one) +ℤ pos t *ℤ r)

-- y of a yearly yield of r billionths for row t: r × t / f, down
unfoldable pub yield_amount : ℕ → ℕ → ℤ → ℤ
unfolding round_down_signed
yield_amount f t r = round_down_signed (pos t *ℤ r) f

-- P of a yearly yield: F of y; 0, which is out of range, where y is beyond its limit
unfoldable pub yield_discount : ℕ → ℕ → ℤ → ℕ
unfolding yield_amount continuous_answer
yield_discount f t r = (continuous_answer (yield_amount f t r)).value

-- P, or refusal 7 outside its range
unfoldable pub ranged_answer : ℕ → Answer
unfolding in_range
ranged_answer p = cond (in_range p) (answered p) (refused 7)

-- P of a figure by a rule for its billionths; refusal 7 for NaN, an infinity or a figure beyond ±10
unfoldable pub figure_answer : Float → (ℤ → ℕ) → Answer
unfolding ranged_answer
figure_answer x discount = cond (beyond x) (refused 7) (ranged_answer (discount (billionths_of x)))

-- a quote for row t, kind by kind
unfoldable pub quote_answer : ℕ → ℕ → Quote → Answer
unfolding figure_answer factor_discount rate_discount yield_discount
quote_answer f t (DiscountFactor x) = figure_answer x factor_discount
quote_answer f t (YearlyRate x) = figure_answer x (rate_discount f t)
quote_answer f t (YearlyYield x) = figure_answer x (yield_discount f t)

-- a point whose kind is told by its number; refusal 7 for an unknown kind
unfoldable pub kind_answer : ℕ → ℕ → Point → Answer
unfolding quote_answer
kind_answer f kind p =
    cond (eqb kind 5) (quote_answer f p.row (DiscountFactor p.figure))
    (cond (eqb kind 6) (quote_answer f p.row (YearlyRate p.figure))
    (cond (eqb kind 9) (quote_answer f p.row (YearlyYield p.figure))
    (refused 7)))

-- a lone point, the lowest refusal first
unfoldable pub lone_answer : ℕ → ℕ → Point → Answer
unfolding is_frequency row_known kind_answer
lone_answer f kind p =
    cond (not (is_frequency f)) (refused 2)
    (cond (not (row_known p.row)) (refused 6)
    (kind_answer f kind p))
