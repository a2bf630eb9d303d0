-- The cases of a curve's number, and what an accepted and a refused curve leave in memory.
-- Assumes nothing.
use mathlib.Core.Path.{◌≡◌, refl, sym, ◌∙◌, ap}
use mathlib.Core.Bool.{Bool, true, false, not, cond, ◌&&◌}
use mathlib.Core.List.{List}
use Prim.Native.Nat.{ℕ, ◌+◌, ◌≤◌, ◌<◌}
use native.Mathlib.Omega.{arith}
use borrow.Author.Tests.{lt-leb, le-leb, leb-true, eq-eqb, ne_eqb, eqb-true}
use lib.Dec.{leb, eqb}
use lib.ListN.{length, get_or}
use lib.Ieee.{Float, nan}
use Rattle.arithmetic.proofs.CauseLaws.{unless-accepted, unless-refused}
use Rattle.arithmetic.specs.declared.Answer.{Answer}
use Rattle.arithmetic.specs.Row.{row, values, place, each}
use Rattle.arithmetic.proofs.RowLaws.{length-row, each_holds}
use Rattle.arithmetic.specs.Frequency.{is_frequency}
use Rattle.arithmetic.proofs.Implied.{Implied, lastly, ◌▸◌}
use Rattle.quotes.proofs.QuoteLaws.{lone-told}
use Rattle.limits.specs.Limits.{most_steps, is_steps}
use Rattle.limits.proofs.LimitLaws.{from_one}
use Rattle.curve.specs.Curve.{place_at, in_place, answer_at, converts_at, discount_at, curve_number, curve_memory}

true≢false : true ≡ false → ⊥
true≢false q = let z : ◌≡◌ {A = ℕ} 0 1 = cc in omega arith

-- the parts of a test of two, and of five
both : (a b : Bool) → (a && b) ≡ true → (a ≡ true) × (b ≡ true)
both true b h = (refl, h)
both false b h = absurd (true≢false (sym h))

five : (a b c d e : Bool) → (a && b && c && d && e) ≡ true → (a ≡ true) × (b ≡ true) × (c ≡ true) × (d ≡ true) × (e ≡ true)
five true true true true e h = (refl, refl, refl, refl, h)
five true true true false e h = absurd (true≢false (sym h))
five true true false d e h = absurd (true≢false (sym h))
five true false c d e h = absurd (true≢false (sym h))
five false b c d e h = absurd (true≢false (sym h))

-- ---- the points' places, by their tests

module _ {n : ℕ} (rows kinds : List ℕ) (figures : List Float) (room : ℕ) where
  pub place-rows : (length rows ≡ n → ⊥) → in_place n rows kinds figures room ≡ false
  unfolding in_place
  place-rows h = rw (ne_eqb (length rows) n h)

  module _ (r : length rows ≡ n) where
    pub place-kinds : (length kinds ≡ n → ⊥) → in_place n rows kinds figures room ≡ false
    unfolding in_place
    place-kinds h = rw (eq-eqb (length rows) n r, ne_eqb (length kinds) n h)

    module _ (k : length kinds ≡ n) where
      pub place-figures : (length figures ≡ n → ⊥) → in_place n rows kinds figures room ≡ false
      unfolding in_place
      place-figures h = rw (eq-eqb (length rows) n r, eq-eqb (length kinds) n k, ne_eqb (length figures) n h)

      module _ (f : length figures ≡ n) where
        pub place_short : room < n → in_place n rows kinds figures room ≡ false
        unfolding in_place
        place_short h = rw (eq-eqb (length rows) n r, eq-eqb (length kinds) n k, eq-eqb (length figures) n f, lt-leb n room h)

        pub place-each : n ≤ room → in_place n rows kinds figures room ≡ each (length rows) (place_at rows)
        unfolding in_place
        place-each h =
            rw (eq-eqb (length rows) n r, eq-eqb (length kinds) n k, eq-eqb (length figures) n f, le-leb n room h)
            (ap (λ (m : ℕ). each m (place_at rows)) (sym r))

  -- points in their places are as many as the steps
  pub placed-kinds : in_place n rows kinds figures room ≡ true → length kinds ≡ n
  unfolding in_place
  placed-kinds p =
      eqb-true (length kinds) n
      (five (eqb (length rows) n) (eqb (length kinds) n) (eqb (length figures) n) (leb n room) (each n (place_at rows)) p).1

  pub placed-figures : in_place n rows kinds figures room ≡ true → length figures ≡ n
  unfolding in_place
  placed-figures p =
      eqb-true (length figures) n
      (five (eqb (length rows) n) (eqb (length kinds) n) (eqb (length figures) n) (leb n room) (each n (place_at rows)) p).2

-- ---- one point, by its answer's number

module _ (f : ℕ) (kinds : List ℕ) (figures : List Float) (k : ℕ) (r : Answer) (e : r ≡ answer_at f kinds figures k) where
  pub converts : r.number ≡ 0 → converts_at f kinds figures k ≡ true
  converts n = eq-eqb (answer_at f kinds figures k).number 0 (ap (λ (q : Answer). q.number) (sym e) ∙ n)

  pub refuses : (r.number ≡ 0 → ⊥) → converts_at f kinds figures k ≡ false
  refuses n = ne_eqb (answer_at f kinds figures k).number 0 (λ q. n (ap (λ (q : Answer). q.number) e ∙ q))

-- ---- the number, by its causes: a the steps a year, b the steps, p the places, g the quotes

abbrev number : Bool → Bool → Bool → Bool → ℕ
number a b p g = cond (not a) 2 (cond (not b) 3 (cond (not p) 6 (cond (not g) 7 0)))

number-none : (a b p g : Bool) → number a b p g ≡ 0 → (a ≡ true) × (b ≡ true) × (p ≡ true) × (g ≡ true)
number-none false b p g h = let none : ⊥ = omega arith in absurd none
number-none true false p g h = let none : ⊥ = omega arith in absurd none
number-none true true false g h = let none : ⊥ = omega arith in absurd none
number-none true true true false h = let none : ⊥ = omega arith in absurd none
number-none true true true true h = (refl, refl, refl, refl)

-- What an accepted curve is.
pub record AcceptedCurve (f n : ℕ) (rows kinds : List ℕ) (figures : List Float) (room : ℕ) : Type 0 where
  pub frequency : is_frequency f ≡ true
  pub least : 1 ≤ n
  pub most : n ≤ most_steps
  pub rows_long : length rows ≡ n
  pub kinds-long : length kinds ≡ n
  pub figures-long : length figures ≡ n
  pub room-enough : n ≤ room
  pub placed : (k : ℕ) → k < n → values rows k ≡ k + 1
  pub converted : (k : ℕ) → k < n → (answer_at f kinds figures k).number ≡ 0

module _ {f n : ℕ} {rows kinds : List ℕ} {figures : List Float} {room : ℕ}
    (_ : Implied (f ▸ n ▸ rows ▸ kinds ▸ figures ▸ lastly room)) where
  pub number-frequency : is_frequency f ≡ false → curve_number f n rows kinds figures room ≡ 2
  unfolding curve_number
  number-frequency h = rw h

  module _ (a : is_frequency f ≡ true) where
    pub number-steps : is_steps n ≡ false → curve_number f n rows kinds figures room ≡ 3
    unfolding curve_number
    number-steps h = rw (a, h)

    module _ (h : is_steps n ≡ true) where
      pub number-place : in_place n rows kinds figures room ≡ false → curve_number f n rows kinds figures room ≡ 6
      unfolding curve_number
      number-place p = rw (a, h, p)

      module _ (p : in_place n rows kinds figures room ≡ true) where
        all : each n (converts_at f kinds figures) ≡ each (length kinds) (converts_at f kinds figures)
        all = ap (λ (m : ℕ). each m (converts_at f kinds figures)) (sym (placed-kinds rows kinds figures room p))

        pub number-quotes : each (length kinds) (converts_at f kinds figures) ≡ false → curve_number f n rows kinds figures room ≡ 7
        unfolding curve_number
        number-quotes g = rw (a, h, p, all, g)

        pub number-accepted : each (length kinds) (converts_at f kinds figures) ≡ true → curve_number f n rows kinds figures room ≡ 0
        unfolding curve_number
        number-accepted g = rw (a, h, p, all, g)

-- number 0 says all of it
module _ (f n : ℕ) (rows kinds : List ℕ) (figures : List Float) (room : ℕ) where
  pub accepted : curve_number f n rows kinds figures room ≡ 0 → AcceptedCurve f n rows kinds figures room
  unfolding curve_number in_place
  accepted h =
      let parts = number-none (is_frequency f) (is_steps n) (in_place n rows kinds figures room) (each n (converts_at f kinds figures)) h in
      let steps = from_one most_steps n parts.1 in
      let places = five (eqb (length rows) n) (eqb (length kinds) n) (eqb (length figures) n) (leb n room) (each n (place_at rows)) parts.2 in
      record {
        frequency = parts.0;
        least = steps.0;
        most = steps.1;
        rows_long = eqb-true (length rows) n places.0;
        kinds-long = eqb-true (length kinds) n places.1;
        figures-long = eqb-true (length figures) n places.2;
        room-enough = leb-true n room places.3;
        placed = λ k i. eqb-true (values rows k) (k + 1) (each_holds n k (place_at rows) places.4 i);
        converted = λ k i. eqb-true (answer_at f kinds figures k).number 0 (each_holds n k (converts_at f kinds figures) parts.3 i);
      }

  -- every discount of an accepted curve is in P's range
  pub curve-range :
      curve_number f n rows kinds figures room ≡ 0 → (k : ℕ) → k < n →
      (100000000 ≤ discount_at f kinds figures k) × (discount_at f kinds figures k ≤ 2000000000)
  unfolding answer_at
  curve-range h k i = (lone-told f (values kinds k) (record { row = k + 1; figure = get_or figures k nan })).range ((accepted h).converted k i)

-- ---- the memory

module _ (f n : ℕ) (rows kinds : List ℕ) (figures : List Float) (memory : List ℕ) where
  -- a refusal leaves the memory as it was
  pub curve-kept : (curve_number f n rows kinds figures (length memory) ≡ 0 → ⊥) → curve_memory f n rows kinds figures memory ≡ memory
  unfolding curve_memory
  curve-kept h = unless-refused (curve_number f n rows kinds figures (length memory)) _ memory h

  module _ (h : curve_number f n rows kinds figures (length memory) ≡ 0) where
    -- an accepted curve stands at the memory's start
    pub curve-stored : curve_memory f n rows kinds figures memory ≡ place memory 0 (row n (discount_at f kinds figures))
    unfolding curve_memory
    curve-stored = unless-accepted (curve_number f n rows kinds figures (length memory)) _ memory h

    fits : 0 + length (row n (discount_at f kinds figures)) ≤ length memory
    fits = omega (arith, length-row n (discount_at f kinds figures), (accepted f n rows kinds figures (length memory) h).room-enough)

-- ---- what the entry needs, from the number that it worked out

module _ {f n : ℕ} {rows kinds : List ℕ} {figures : List Float} {memory : List ℕ} {r : ℕ}
    (_ : Implied (f ▸ n ▸ rows ▸ kinds ▸ figures ▸ lastly memory)) (e : r ≡ curve_number f n rows kinds figures (length memory)) where
  pub entry-refused : (r ≡ 0 → ⊥) → (r ≡ curve_number f n rows kinds figures (length memory)) × (memory ≡ curve_memory f n rows kinds figures memory)
  entry-refused h = (e, sym (curve-kept f n rows kinds figures memory (λ z. h (e ∙ z))))

  module _ (h : r ≡ 0) where
    none : curve_number f n rows kinds figures (length memory) ≡ 0
    none = sym e ∙ h

    pub entry-room : (length figures ≡ length kinds) × (length kinds ≤ length memory)
    entry-room =
        let whole = accepted f n rows kinds figures (length memory) none in
        (omega arith, omega arith)

    pub entry-stored :
        {after : List ℕ} → after ≡ place memory 0 (row (length kinds) (discount_at f kinds figures)) →
        (0 ≡ curve_number f n rows kinds figures (length memory)) × (after ≡ curve_memory f n rows kinds figures memory)
    entry-stored s =
        let same = (accepted f n rows kinds figures (length memory) none).kinds-long in (
          sym none,
          s
              ∙ ap (λ (m : ℕ). place memory 0 (row m (discount_at f kinds figures))) same
              ∙ sym (curve-stored f n rows kinds figures memory none),
        )
