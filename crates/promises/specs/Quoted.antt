-- What a figure and a quote give (document 01, Quotes), in its equations. A float is `fin s m e`: its significand m times 2 ^ e, negative where s is true;
-- 2 ^ e is the fraction up e / down e.
-- Assumes nothing.
use Rattle.std.specs.Prelude.{◌≡◌, Bool, cond, List, ℕ, ◌+◌, ◌*◌, ◌/◌, ◌≤◌, ◌<◌, Float, ℤ, pos, neg_ℤ, nat_abs, ◌+ℤ◌, ◌*ℤ◌, get_or}
use Rattle.std.specs.Float.{nan, fin}
use Rattle.std.specs.Float.Ieee.{up, down}
use Rattle.arithmetic.specs.Rounding.{one}
use Rattle.arithmetic.specs.Row.{values}
use Rattle.figure.specs.Figure.{billionths_of, figure_of}
use Rattle.quotes.specs.declared.Point.{Point}
use Rattle.quotes.specs.Quotes.{lone_answer}
use Rattle.curve.specs.Curve.{discount_at, curve_number}
use Rattle.fitted_laws.specs.Entry.{fitted_number}

-- a figure's exact binary value, at most 10 either way before rounding, times one, to the nearest whole number, halves away from zero, sign kept
pub record Taken (x : Float) (z : ℤ) : Type 0 where
  pub negative : Bool
  pub significand : ℕ
  pub exponent : ℤ
  pub float : x ≡ fin negative significand exponent
  pub within-ten : significand * up exponent ≤ 10 * down exponent
  pub half-above : 2 * (nat_abs z * down exponent) ≤ 2 * (significand * up exponent * one) + down exponent
  pub half-below : 2 * (significand * up exponent * one) < 2 * (nat_abs z * down exponent) + down exponent
  pub signed : z ≡ cond negative (neg_ℤ (pos (nat_abs z))) (pos (nat_abs z))

-- P of a rate giving r, for row t: one × one × f / (f × one + t × r), down
pub record OfRate (f t : ℕ) (r : ℤ) (p : ℕ) : Type 0 where
  pub divisor : ℕ
  pub divisor-is : pos divisor ≡ pos (f * one) +ℤ pos t *ℤ r
  pub divisor-positive : 0 < divisor
  pub discount : p ≡ one * one * f / divisor

-- P lies from 100,000,000 to 2,000,000,000
pub record Ranged (p : ℕ) : Type 0 where
  pub least : 100000000 ≤ p
  pub most : p ≤ 2000000000

-- a quote that is accepted: its figure, and its discount in range
pub record Quoted (f kind : ℕ) (p : Point) : Type 0 where
  pub figure : Taken p.figure (billionths_of p.figure)
  pub range : Ranged (lone_answer f kind p).value

-- the quotes of a curve, that of row i + 1 at place i: lone quotes, each accepted
pub record CurveQuoted (f n : ℕ) (kinds : List ℕ) (figures : List Float) : Type 0 where
  pub accepted : (i : ℕ) → i < n → (lone_answer f (values kinds i) (record { row = i + 1; figure = get_or figures i nan })).number ≡ 0
  pub discount : (i : ℕ) → discount_at f kinds figures i ≡ (lone_answer f (values kinds i) (record { row = i + 1; figure = get_or figures i nan })).value

pub record QuotePromises : Type 0 where
  pub figures-taken : (x : Float) → (figure_of x).number ≡ 0 → Taken x (figure_of x).value
  pub quotes-accepted : (f kind : ℕ) (p : Point) → (lone_answer f kind p).number ≡ 0 → Quoted f kind p
  -- a discount factor gives its billionths as P
  pub discount-factors : (f : ℕ) (p : Point) → (lone_answer f 5 p).number ≡ 0 → pos (lone_answer f 5 p).value ≡ billionths_of p.figure
  pub yearly-rates : (f : ℕ) (p : Point) → (lone_answer f 6 p).number ≡ 0 → OfRate f p.row (billionths_of p.figure) (lone_answer f 6 p).value
  -- the quotes that a curve is converted from, and that a fit is fitted to, of whatever working reversion w and spacing h
  pub curves-quoted : (f n : ℕ) (rows kinds : List ℕ) (figures : List Float) (room : ℕ) →
      curve_number f n rows kinds figures room ≡ 0 → CurveQuoted f n kinds figures
  pub fits-quoted : (f n w spaced h : ℕ) (rows kinds : List ℕ) (figures : List Float) (room-discounts room-prices : ℕ) →
      fitted_number f n w spaced h rows kinds figures room-discounts room-prices ≡ 0 → CurveQuoted f n kinds figures
