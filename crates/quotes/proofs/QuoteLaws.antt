-- The cases of a quote's answer, and what a caller learns from one.
-- Assumes nothing.
use mathlib.Core.Path.{◌≡◌, refl, sym, ◌∙◌, ap}
use mathlib.Core.Bool.{Bool, true, false, not, cond, ◌&&◌}
use mathlib.Core.Logic.{◌⊎◌, inl, inr}
use Prim.Native.Nat.{ℕ, suc, ◌≤◌, ◌<◌}
use native.Mathlib.Omega.{arith}
use borrow.Author.Tests.{lt-leb, le-leb, leb-true, ltb-true}
use lib.Dec.{T, eqb, leb}
use lib.IntN.{ℤ, pos, negsuc, nat_abs}
use lib.Signed.{lt_z, non_neg}
use lib.Ieee.{Float}
use Rattle.arithmetic.proofs.Numbers.{by-test}
use Rattle.arithmetic.specs.declared.Answer.{Answer}
use Rattle.arithmetic.specs.Answers.{refused, answered}
use Rattle.std.proofs.Common.{Err}
use Rattle.arithmetic.specs.Refusals.{number_of}
use Rattle.arithmetic.specs.declared.Refusal.{Refusal}
use Rattle.arithmetic.proofs.RefusalLaws.{refusal-some}
use Rattle.figure.specs.Figure.{Figure, beyond, billionths_of, figure_given, figure_of}
use Rattle.figure.proofs.FigureLaws.{number-accepted, number-refused, value-accepted}
use Rattle.figure.proofs.FigureLaws.{figure-refused as figure-beyond}
use Rattle.quotes.specs.declared.Point.{Point}
use Rattle.quotes.specs.declared.Quote.{Quote}
use Rattle.quotes.specs.declared.Quote.TheVariants.{DiscountFactor, YearlyRate, YearlyYield}
use Rattle.arithmetic.specs.Frequency.{is_frequency}
use Rattle.quotes.specs.Quotes.{row_known, in_range, factor_discount, rate_discount, yield_discount}
use Rattle.quotes.specs.Quotes.{ranged_answer, figure_answer, quote_answer, kind_answer, lone_answer}

true≢false : true ≡ false → ⊥
true≢false q = let z : ◌≡◌ {A = ℕ} 0 1 = cc in omega arith

-- ---- rows and ranges: a number between two others

between-low : (l u t : ℕ) → t < l → (leb l t && leb t u) ≡ false
between-low l u t h = rw (lt-leb l t h)

between-high : (l u t : ℕ) → l ≤ t → u < t → (leb l t && leb t u) ≡ false
between-high l u t a h = rw (le-leb l t a, lt-leb t u h)

between_known : (l u t : ℕ) → l ≤ t → t ≤ u → (leb l t && leb t u) ≡ true
between_known l u t a h = rw (le-leb l t a, le-leb t u h)

between-bounds : (l u t : ℕ) → (leb l t && leb t u) ≡ true → (l ≤ t) × (t ≤ u)
between-bounds l u t h = by-low (leb l t) refl h
  where
    by-low : (b : Bool) → leb l t ≡ b → (b && leb t u) ≡ true → (l ≤ t) × (t ≤ u)
    by-low true e g = (leb-true l t e, leb-true t u g)
    by-low false e g = absurd (true≢false (sym g))

pub row_low : (t : ℕ) → t < 1 → row_known t ≡ false
unfolding row_known
row_low t h = between-low 1 60 t h

pub row-high : (t : ℕ) → 1 ≤ t → 60 < t → row_known t ≡ false
unfolding row_known
row-high t l h = between-high 1 60 t l h

pub row-known : (t : ℕ) → 1 ≤ t → t ≤ 60 → row_known t ≡ true
unfolding row_known
row-known t l h = between_known 1 60 t l h

pub range-bounds : (p : ℕ) → in_range p ≡ true → (100000000 ≤ p) × (p ≤ 2000000000)
unfolding in_range
range-bounds p h = between-bounds 100000000 2000000000 p h

-- ---- the answer to a discount

pub ranged-low : (p : ℕ) → p < 100000000 → ranged_answer p ≡ refused 7
unfolding ranged_answer in_range
ranged-low p h = rw (between-low 100000000 2000000000 p h)

pub ranged-high : (p : ℕ) → 100000000 ≤ p → 2000000000 < p → ranged_answer p ≡ refused 7
unfolding ranged_answer in_range
ranged-high p l h = rw (between-high 100000000 2000000000 p l h)

pub ranged-known : (p : ℕ) → 100000000 ≤ p → p ≤ 2000000000 → ranged_answer p ≡ answered p
unfolding ranged_answer in_range
ranged-known p l h = rw (between_known 100000000 2000000000 p l h)

-- 0, which stands for no discount, is refused
pub ranged-none : (p : ℕ) → p ≡ 0 → ranged_answer p ≡ refused 7
ranged-none p e = ranged-low p (omega arith)

-- ---- the answer to a figure, by the answer of the float intake

module _ (x : Float) (discount : ℤ → ℕ) (r : Figure) (e : r ≡ figure_of x) where
  pub figure-refused : (r.number ≡ 0 → ⊥) → figure_answer x discount ≡ refused 7
  unfolding figure_answer
  figure-refused n = rw (number-refused x r e n)

  pub figure-accepted : r.number ≡ 0 → figure_answer x discount ≡ ranged_answer (discount r.value)
  unfolding figure_answer
  figure-accepted n =
      ap (λ (b : Bool). cond b (refused 7) (ranged_answer (discount (billionths_of x)))) (number-accepted x r e n)
      ∙ ap (λ (z : ℤ). ranged_answer (discount z)) (sym (value-accepted x r e n))

-- a figure that is refused gives its own refusal
pub figure-kept :
    (x : Float) (discount : ℤ → ℕ) (r : Refusal) → figure_given (Err r) ≡ figure_of x → refused (number_of r) ≡ figure_answer x discount
figure-kept x discount r e =
    let b = number-refused x (figure_given (Err r)) e (refusal-some r) in
    let n : number_of r ≡ 7 = ap (λ (f : Figure). f.number) (e ∙ figure-beyond x b) in
    rw n (sym (figure-refused x discount (figure_given (Err r)) e (refusal-some r)))

-- a discount factor below 0 has the discount 0
pub factor-negative : (r : ℤ) → lt_z r (pos 0) ≡ true → factor_discount r ≡ 0
unfolding factor_discount
factor-negative (pos r) h = let l : r < 0 = ltb-true r 0 h in let none : ⊥ = omega arith in absurd none
factor-negative (negsuc r) h = refl

pub factor-whole : (r : ℤ) → lt_z r (pos 0) ≡ false → T (non_neg r) × (factor_discount r ≡ nat_abs r)
unfolding factor_discount
factor-whole (pos r) h = (tt, refl)
factor-whole (negsuc r) h = absurd (true≢false h)

-- ---- the answer to a lone point, by its causes

module _ (f kind : ℕ) (p : Point) where
  pub lone-frequency : is_frequency f ≡ false → lone_answer f kind p ≡ refused 2
  unfolding lone_answer
  lone-frequency h = rw h

  module _ (h : is_frequency f ≡ true) where
    pub lone_row : row_known p.row ≡ false → lone_answer f kind p ≡ refused 6
    unfolding lone_answer
    lone_row r = rw (h, r)

    pub lone-kind : row_known p.row ≡ true → lone_answer f kind p ≡ kind_answer f kind p
    unfolding lone_answer
    lone-kind r = rw (h, r)

-- ---- what a caller may use of an answer

-- An answer with number 0 is a discount in its range, any other has a zero.
pub record Told (a : Answer) : Type 0 where
  pub range : a.number ≡ 0 → (100000000 ≤ a.value) × (a.value ≤ 2000000000)
  pub nought : (a.number ≡ 0 → ⊥) → a.value ≡ 0

told-refused : (n : ℕ) → Told (refused (suc n))
told-refused n = record { range = λ e. let none : ⊥ = omega arith in absurd none; nought = λ e. refl }

told-ranged : (p : ℕ) → Told (ranged_answer p)
unfolding ranged_answer
told-ranged p =
    by-test (in_range p) Told (answered p) (refused 7)
    (λ h. record { range = λ e. range-bounds p h; nought = λ e. absurd (e refl) })
    (λ h. told-refused 6)

-- among quotes of a listed f and a known row, 7 is the only refusal
pub Seventh : Answer → Type 0
Seventh a = (a.number ≡ 0) ⊎ (a.number ≡ 7)

-- both hold of the answer to a figure, and so to a point
module _ (P : Answer → Type 0) (of-ranged : (p : ℕ) → P (ranged_answer p)) (of-refused : P (refused 7)) where
  by-figure : (x : Float) (discount : ℤ → ℕ) → P (figure_answer x discount)
  unfolding figure_answer
  by-figure x discount =
      by-test (beyond x) P (refused 7) (ranged_answer (discount (billionths_of x))) (λ h. of-refused) (λ h. of-ranged (discount (billionths_of x)))

  by-quote : (f t : ℕ) (q : Quote) → P (quote_answer f t q)
  unfolding quote_answer
  by-quote f t (DiscountFactor x) = by-figure x factor_discount
  by-quote f t (YearlyRate x) = by-figure x (rate_discount f t)
  by-quote f t (YearlyYield x) = by-figure x (yield_discount f t)

  by_kind : (f kind : ℕ) (p : Point) → P (kind_answer f kind p)
  unfolding kind_answer
  by_kind f kind p =
      by-test (eqb kind 5) P _ _ (λ h. by-quote f p.row (DiscountFactor p.figure))
      (λ h. by-test (eqb kind 6) P _ _ (λ h. by-quote f p.row (YearlyRate p.figure))
      (λ h. by-test (eqb kind 9) P _ _ (λ h. by-quote f p.row (YearlyYield p.figure)) (λ h. of-refused)))

pub lone-told : (f kind : ℕ) (p : Point) → Told (lone_answer f kind p)
unfolding lone_answer
lone-told f kind p =
    by-test (not (is_frequency f)) Told _ _ (λ h. told-refused 1)
    (λ h. by-test (not (row_known p.row)) Told _ _ (λ h. told-refused 5) (λ h. by_kind Told told-ranged (told-refused 6) f kind p))

ranged-seventh : (p : ℕ) → Seventh (ranged_answer p)
unfolding ranged_answer Seventh
ranged-seventh p = by-test (in_range p) Seventh (answered p) (refused 7) (λ h. inl refl) (λ h. inr refl)
