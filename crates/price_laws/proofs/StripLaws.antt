-- A strip by what was found: a cause about the strip itself, one about all its strikes, or an answer for each.
-- Assumes nothing.
use mathlib.Core.Path.{◌≡◌, refl, sym, ap, ap₂, subst, fun_ext, ◌∙◌}
use mathlib.Core.Bool.{Bool, true, false, cond, ◌&&◌}
use mathlib.Core.List.{List}
use Prim.Native.Nat.{ℕ, ◌≤◌, ◌<◌}
use native.Mathlib.Omega.{arith}
use borrow.Author.Tests.{le-leb, lt-leb, eq-eqb, ne_eqb}
use lib.Dec.{leb, ltb}
use lib.ListN.{length, replicate, length-replicate, take}
use Rattle.arithmetic.specs.Row.{values, padded}
use Rattle.arithmetic.proofs.Numbers.{by_order, by_equal}
use Rattle.arithmetic.proofs.RowLaws.{zeros}
use Rattle.arithmetic.proofs.PaddedLaws.{padded-of, padded-length, padded-at, padded-after}
use Rattle.limits.specs.Limits.{most_steps, shape_cause}
use Rattle.limits.proofs.LimitLaws.{shape-accepted}
use Rattle.pricing_laws.specs.Schedule.{side_of, schedule_of, kind_dates, kind_side}
use Rattle.exercise_dates.specs.declared.Dates.{Dates}
use Rattle.exercise_dates.specs.Dates.{dates_of_kind}
use Rattle.exercise_dates.proofs.DateLaws.{kind-list}
use Rattle.price_bound.specs.PriceBound.{tree_error_bound}
use Rattle.price_causes.specs.Causes.{most_strike, option_cause}
use Rattle.price_causes.proofs.CheckLaws.{option-accepted, kind-known}
use Rattle.price_laws.specs.declared.Price.{Price}
use Rattle.price_laws.specs.declared.Strip.{Strip}
use Rattle.arithmetic.specs.Answers.{first_cause}
use Rattle.arithmetic.proofs.Implied.{implied}
use Rattle.price_laws.specs.Prices.{tree_cause, refused_price, value_alone, with_bound, option_price, dated_price}
use Rattle.price_laws.specs.Strips.{most_strikes, strip_cause, refused_strip, strip_of, strip_answer, strike_price}
use Rattle.price_laws.specs.Strips.{kind_price, option_strip, kind_strip, each_with, Placed, Shown}
use Rattle.price_laws.proofs.OptionLaws.{kind-is-list}
use Rattle.price_laws.proofs.ValueLaws.{option-refused, option-cause, option-whole, dated-whole}

-- ---- the strip's own causes

module _ (n b count : ℕ) where
  pub strip-shape : (c : ℕ) → c ≡ shape_cause n b → (c ≡ 0 → ⊥) → c ≡ strip_cause n b count
  unfolding strip_cause first_cause
  strip-shape c e z = rw (← e, ne_eqb c 0 z)

  module _ (z : shape_cause n b ≡ 0) where
    -- by the number of strikes alone
    strip-judged : strip_cause n b count ≡ cond (leb 1 count && leb count 16) 0 6
    unfolding strip_cause first_cause
    strip-judged = rw (eq-eqb (shape_cause n b) 0 z)

    pub strip-none : count < 1 → 6 ≡ strip_cause n b count
    strip-none few = rw (strip-judged, lt-leb 1 count few)

    module _ (some : 1 ≤ count) where
      pub strip-many : most_strikes < count → 6 ≡ strip_cause n b count
      strip-many many = rw (strip-judged, le-leb 1 count some, lt-leb count 16 many)

      pub strip-taken : count ≤ most_strikes → 0 ≡ strip_cause n b count
      strip-taken few = rw (strip-judged, le-leb 1 count some, le-leb count 16 few)

  -- a strip that is not refused has at most 16 strikes
  many-refused : most_strikes < count → strip_cause n b count ≡ 0 → ⊥
  many-refused many e =
      by_equal (shape_cause n b) 0 (λ z. omega (arith, strip-many z (omega arith) many))
      (λ nz. nz (strip-shape (shape_cause n b) refl nz ∙ e))

  pub strip-few : strip_cause n b count ≡ 0 → count ≤ most_strikes
  strip-few e = by_order count most_strikes (λ h. h) (λ many. absurd (many-refused many e))

  -- and of a tree within its limits
  pub strip-steps : strip_cause n b count ≡ 0 → n ≤ most_steps
  strip-steps e =
      by_equal (shape_cause n b) 0 (λ z. (shape-accepted n b z).1) (λ nz. absurd (nz (strip-shape (shape_cause n b) refl nz ∙ e)))

-- ---- columns

pub no-column : (l : List ℕ) (count : ℕ) → l ≡ replicate most_strikes 0 → l ≡ padded most_strikes count (λ k. 0)
no-column l count e =
    e
    ∙ padded-of most_strikes (replicate most_strikes 0) count (λ k. 0) (length-replicate {A = ℕ} most_strikes 0) (λ k h. zeros most_strikes k)
    (λ k h. zeros most_strikes k)

pub strip-is :
    (count : ℕ) (price : ℕ → Price) (numbers values bounds : List ℕ) → numbers ≡ padded most_strikes count (λ k. (price k).number) →
    values ≡ padded most_strikes count (λ k. (price k).value) → bounds ≡ padded most_strikes count (λ k. (price k).bound) →
    ◌≡◌ {A = Strip} (record { number = 0; numbers = numbers; values = values; bounds = bounds }) (strip_of count price)
strip-is count price numbers values bounds p q r = rw (p, q, r)

pub refused-is :
    (cause : ℕ) (l : List ℕ) → l ≡ replicate most_strikes 0 →
    ◌≡◌ {A = Strip} (record { number = cause; numbers = l; values = l; bounds = l }) (refused_strip cause)
refused-is cause l e = rw e

-- ---- the answer

module _ (n b count : ℕ) (price : ℕ → Price) where
  pub strip-refused : {cause : ℕ} → cause ≡ strip_cause n b count → (cause ≡ 0 → ⊥) → refused_strip cause ≡ strip_answer n b count price
  unfolding strip_answer
  strip-refused {cause} e z = rw (← e, ne_eqb cause 0 z)

  pub strip-given : {r : Strip} → strip_cause n b count ≡ 0 → r ≡ strip_of count price → r ≡ strip_answer n b count price
  unfolding strip_answer
  strip-given z e = e ∙ rw (eq-eqb (strip_cause n b count) 0 z)

  -- where the strip itself is refused the answers do not matter
  pub strip-any : (other : ℕ → Price) → (strip_cause n b count ≡ 0 → ⊥) → strip_answer n b count price ≡ strip_answer n b count other
  unfolding strip_answer
  strip-any other z = rw (ne_eqb (strip_cause n b count) 0 z)

  -- answers that are alike place by place
  pub strip-alike : (other : ℕ → Price) → ((k : ℕ) → price k ≡ other k) → strip_answer n b count price ≡ strip_answer n b count other
  strip-alike other same = ap (strip_answer n b count) (fun_ext same)

-- one refusal for every strike
pub refused-alike : (count number : ℕ) (price : ℕ → Price) → ((k : ℕ) → refused_price number ≡ price k) →
    strip_of count (λ k. refused_price number) ≡ strip_of count price
refused-alike count number price same = ap (strip_of count) (fun_ext same)

module _ (n b : ℕ) (discounts flows strikes : List ℕ) (e : ℕ) where
  -- ---- on listed rows, with an error bound e

  module _ (side : ℕ) (dates : List ℕ) where
    -- a cause about the tree stands in every answer
    pub tree-refuses : (c : ℕ) → c ≡ tree_cause n b discounts flows → (c ≡ 0 → ⊥) →
        strip_of (length strikes) (λ k. refused_price c) ≡ strip_of (length strikes) (each_with e (strike_price n b discounts flows side dates strikes))
    unfolding dated_price
    tree-refuses c h z = refused-alike (length strikes) c _ (λ k. option-refused implied h z)

    -- with the tree's own bound each is the price
    pub strip-whole : (tree_cause n b discounts flows ≡ 0 → e ≡ tree_error_bound n b discounts) →
        strip_answer n b (length strikes) (each_with e (strike_price n b discounts flows side dates strikes))
        ≡ option_strip n b discounts flows side dates strikes
    strip-whole he = strip-alike n b (length strikes) _ _ (λ k. dated-whole implied he side dates (values strikes k))

  -- ---- of a kind

  module _ (kind expiry : ℕ) where
    abbrev priced : ℕ → Price
    priced = each_with e (kind_price n b discounts flows kind expiry strikes)

    -- kind and expiry, judged without a strike
    abbrev judged : ℕ
    judged = option_cause n kind expiry 0

    -- where they are refused, so is every strike
    any-strike : (strike : ℕ) → (judged ≡ 0 → ⊥) → option_cause n kind expiry strike ≡ judged
    unfolding option_cause
    any-strike strike = by_tests (leb 1 kind && leb kind 4 && ltb expiry n) (leb strike most_strike)
      where
        by_tests : (t u : Bool) → (◌≡◌ {A = ℕ} (cond (t && true) 0 11) 0 → ⊥) → ◌≡◌ {A = ℕ} (cond (t && u) 0 11) (cond (t && true) 0 11)
        by_tests true u nz = absurd (nz refl)
        by_tests false u nz = refl

    -- and a cause about the tree comes first
    each-refused : (found c : ℕ) → found ≡ tree_cause n b discounts flows → c ≡ judged → (c ≡ 0 → ⊥) → (k : ℕ) → refused_price (first_cause found c) ≡ priced k
    unfolding option_price first_cause
    each-refused found c ef ec nz k =
        by_equal found 0
        (λ z.
        let same = any-strike (values strikes k) (λ none. nz (ec ∙ none)) in
        rw (eq-eqb found 0 z)
        (ap refused_price (ec ∙ sym same) ∙ option-cause implied (sym ef ∙ z) (λ none. nz (ec ∙ sym same ∙ none))))
        (λ z.
        rw (ne_eqb found 0 z)
        (option-refused {e = e} {side = side_of kind} {strike = values strikes k} {rows = schedule_of kind expiry}
        {cause = option_cause n kind expiry (values strikes k)} implied ef z))

    pub kind-refuses : (found c : ℕ) → found ≡ tree_cause n b discounts flows → c ≡ judged → (c ≡ 0 → ⊥) →
        strip_answer n b (length strikes) (λ k. refused_price (first_cause found c)) ≡ strip_answer n b (length strikes) priced
    kind-refuses found c ef ec nz = strip-alike n b (length strikes) _ _ (each-refused found c ef ec nz)

    -- where they are not, the strip is that of the kind's list
    kind-listed : judged ≡ 0 →
        strip_answer n b (length strikes) (each_with e (strike_price n b discounts flows (kind_side kind) (kind_dates kind expiry) strikes))
        ≡ strip_answer n b (length strikes) priced
    kind-listed z =
        let known = kind-known n kind expiry 0 z in
        let inside = (option-accepted n kind expiry 0 z).0 in
        strip-alike n b (length strikes) _ _
        (λ k. ap (λ (p : Price). with_bound (value_alone p) e)
        (sym (kind-is-list n b discounts flows kind expiry (values strikes k) known.0 known.1 inside)))

    -- as the code hands it on
    pub list-handed : judged ≡ 0 → (side : ℕ) → side ≡ kind_side kind → (dates : Dates) → dates ≡ dates_of_kind kind expiry →
        strip_answer n b (length strikes) (each_with e (strike_price n b discounts flows side (take dates.count dates.rows) strikes))
        ≡ strip_answer n b (length strikes) priced
    list-handed z side es dates ed =
        by_order expiry most_steps
        (λ few.
        ap₂ (λ (s : ℕ) (l : List ℕ). strip_answer n b (length strikes) (each_with e (strike_price n b discounts flows s l strikes))) es
        (kind-list kind expiry few dates ed)
        ∙ kind-listed z)
        (λ many.
        strip-any n b (length strikes) _ _
        (λ none. omega (arith, many, (option-accepted n kind expiry 0 z).0, strip-steps n b (length strikes) none)))

    pub kind-whole : (tree_cause n b discounts flows ≡ 0 → e ≡ tree_error_bound n b discounts) →
        strip_answer n b (length strikes) priced ≡ kind_strip n b discounts flows kind expiry strikes
    kind-whole he = strip-alike n b (length strikes) _ _ (λ k. option-whole implied he kind expiry (values strikes k))

-- ---- what is read off a strip

-- of zeros
zeros-placed : (cause k : ℕ) → Placed (refused_strip cause) k (refused_price 0)
zeros-placed cause k = record { number = zeros most_strikes k; value = zeros most_strikes k; bound = zeros most_strikes k }

pub refused-shown : (cause count : ℕ) (price : ℕ → Price) → (cause ≡ 0 → ⊥) → Shown (refused_strip cause) count price
refused-shown cause count price nz =
    let long = length-replicate {A = ℕ} most_strikes 0 in
    record {
      places = (long, long, long);
      answered = λ z. absurd (nz z);
      past = λ k h. zeros-placed cause k;
      refused = λ h k. zeros-placed cause k;
    }

given-shown : (count : ℕ) (price : ℕ → Price) → count ≤ most_strikes → Shown (strip_of count price) count price
given-shown count price few =
    record {
      places = (padded-length most_strikes count _, padded-length most_strikes count _, padded-length most_strikes count _);
      answered = λ z k h. record {
        number = padded-at most_strikes count _ k few h;
        value = padded-at most_strikes count _ k few h;
        bound = padded-at most_strikes count _ k few h;
      };
      past = λ k h. record {
        number = padded-after most_strikes count _ k h;
        value = padded-after most_strikes count _ k h;
        bound = padded-after most_strikes count _ k h;
      };
      refused = λ nz. absurd (nz refl);
    }

pub answer-shown : (n b count : ℕ) (price : ℕ → Price) → Shown (strip_answer n b count price) count price
answer-shown n b count price =
    by_equal (strip_cause n b count) 0
    (λ z. subst (λ (s : Strip). Shown s count price) (strip-given n b count price z refl) (given-shown count price (strip-few n b count z)))
    (λ nz. subst (λ (s : Strip). Shown s count price) (strip-refused n b count price refl nz) (refused-shown _ count price nz))

-- of listed rows, and of a kind
pub listed-shown : (n b : ℕ) (discounts flows : List ℕ) (side : ℕ) (dates strikes : List ℕ) →
    Shown (option_strip n b discounts flows side dates strikes) (length strikes) (λ k. dated_price n b discounts flows side dates (values strikes k))
listed-shown n b discounts flows side dates strikes = answer-shown n b (length strikes) _

pub kind-shown : (n b : ℕ) (discounts flows : List ℕ) (kind expiry : ℕ) (strikes : List ℕ) →
    Shown (kind_strip n b discounts flows kind expiry strikes) (length strikes) (λ k. option_price n b discounts flows kind expiry (values strikes k))
kind-shown n b discounts flows kind expiry strikes = answer-shown n b (length strikes) _

-- its number
pub strip-number : (n b count : ℕ) (price : ℕ → Price) → (strip_answer n b count price).number ≡ strip_cause n b count
unfolding strip_answer
strip-number n b count price =
    by_equal (strip_cause n b count) 0
    (λ z. rw (eq-eqb (strip_cause n b count) 0 z) (sym z))
    (λ nz. rw (ne_eqb (strip_cause n b count) 0 nz))
