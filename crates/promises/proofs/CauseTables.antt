-- The laws of a table of causes: laws of truth tables, and the combinations of causes that the entries' definitions make.
-- Assumes nothing.
use mathlib.Core.Path.{◌≡◌, refl, sym}
use mathlib.Core.Bool.{Bool, true, false, not, cond, ◌&&◌, false≢true}
use mathlib.Core.List.{List, [], ◌∷◌, ◌++◌}
use Prim.Native.Nat.{ℕ, zero, suc, ◌+◌, ◌-◌, ◌≤◌, ◌<◌, max}
use native.Mathlib.Nat.{le_trans, zero-add}
use native.Mathlib.Omega.{arith}
use borrow.Author.Tests.{eq-eqb, ne_eqb, eqb-true, ltb-true, ltb-false, leb-true, le-leb, lt-leb, lt-ltb, le-ltb}
use lib.Dec.{eqb, leb, ltb}
use Rattle.arithmetic.specs.Answers.{refused, answered, first_cause}
use Rattle.arithmetic.proofs.Numbers.{by_order, by_equal}
use Rattle.arithmetic.proofs.BetweenLaws.{and_left, and_right}
use Rattle.arithmetic.proofs.RowLaws.{each_all, each_holds}
use Rattle.arithmetic.proofs.SumLaws.{greatest-ge, greatest-le}
use Rattle.arithmetic.specs.Sum.{greatest}
use Rattle.arithmetic.specs.Row.{each}
use Rattle.pricing_laws.specs.Peak.{peak_from, peak}
use Rattle.pricing_laws.proofs.Peaks.{peak-grows, row-in-peak}
use Rattle.price_laws.specs.Prices.{priced}
use Rattle.promises.specs.Causes.{Cause, cause, first_of}

-- ---- tests

pub not-leb : (a b : ℕ) → not (leb a b) ≡ ltb b a
not-leb a b = by_order a b (λ h. rw (le-leb a b h, le-ltb b a h)) (λ h. rw (lt-leb a b h, lt-ltb b a h))

pub ltb-not : (a b : ℕ) → ltb a b ≡ not (leb b a)
ltb-not a b = sym (not-leb b a)

-- a test that holds both ways holds always: a truth table is one computation
abbrev pub both : (Bool → Bool) → Bool
both test = test true && test false

pub always : (test : Bool → Bool) → both test ≡ true → (t : Bool) → test t ≡ true
always test h true = and_left (test true) (test false) h
always test h false = and_right (test true) (test false) h

-- two combinations of seven tests, by their truth table
module _ (left right : Bool → Bool → Bool → Bool → Bool → Bool → Bool → ℕ) where
  abbrev t7 : Bool → Bool → Bool → Bool → Bool → Bool → Bool → Bool
  t7 a b c d e f g = eqb (left a b c d e f g) (right a b c d e f g)

  abbrev t6 : Bool → Bool → Bool → Bool → Bool → Bool → Bool
  t6 a b c d e f = both (t7 a b c d e f)

  abbrev t5 : Bool → Bool → Bool → Bool → Bool → Bool
  t5 a b c d e = both (t6 a b c d e)

  abbrev t4 : Bool → Bool → Bool → Bool → Bool
  t4 a b c d = both (t5 a b c d)

  abbrev t3 : Bool → Bool → Bool → Bool
  t3 a b c = both (t4 a b c)

  abbrev t2 : Bool → Bool → Bool
  t2 a b = both (t3 a b)

  abbrev t1 : Bool → Bool
  t1 a = both (t2 a)

  pub seven : both t1 ≡ true → (a b c d e f g : Bool) → left a b c d e f g ≡ right a b c d e f g
  seven table a b c d e f g =
      eqb-true (left a b c d e f g) (right a b c d e f g)
      (always (t7 a b c d e f) (always (t6 a b c d e) (always (t5 a b c d) (always (t4 a b c)
      (always (t3 a b) (always (t2 a) (always t1 table a) b) c) d) e) f) g)

-- ---- lists of causes

-- no cause has the number 0
abbrev pub numbered : List Cause → Bool
numbered [] = true
numbered (c ∷ later) = ltb 0 c.number && numbered later

pub first-append : (causes later : List Cause) → numbered causes ≡ true → first_cause (first_of causes) (first_of later) ≡ first_of (causes ++ later)
unfolding first_of first_cause
first-append [] later h = refl
first-append (c ∷ causes) later h =
    by-cause (ltb-true 0 c.number (and_left (ltb 0 c.number) (numbered causes) h))
    (first-append causes later (and_right (ltb 0 c.number) (numbered causes) h)) c.applies
  where
    by-cause : 0 < c.number → first_cause (first_of causes) (first_of later) ≡ first_of (causes ++ later) → (t : Bool) →
        cond (eqb (cond t c.number (first_of causes)) 0) (first_of later) (cond t c.number (first_of causes))
        ≡ cond t c.number (first_of (causes ++ later))
    by-cause l e true = rw (ne_eqb c.number 0 (λ z. omega arith))
    by-cause l e false = e

-- where no cause applies, neither the first does nor a later one
pub none_first : (number : ℕ) (applies : Bool) (later : List Cause) → 0 < number → first_of (cause number applies ∷ later) ≡ 0 →
    (applies ≡ false) × (first_of later ≡ 0)
unfolding first_of
none_first number true later h e = let none : ⊥ = omega arith in absurd none
none_first number false later h e = (refl, e)

-- ---- answers

pub number_of : (k value : ℕ) → (cond (eqb k 0) (answered value) (refused k)).number ≡ k
number_of k value = by_equal k 0 (λ e. rw (eq-eqb k 0 e) (sym e)) (λ e. rw (ne_eqb k 0 e))

pub number-priced : (k value bound : ℕ) → (priced k value bound).number ≡ k
unfolding priced
number-priced k value bound = by_equal k 0 (λ e. rw (eq-eqb k 0 e) (sym e)) (λ e. rw (ne_eqb k 0 e))

-- ---- limits

-- a number is above a limit where a test of what it is the greatest of fails
pub above-limit : (x limit : ℕ) (t : Bool) → (x ≤ limit → t ≡ true) → (t ≡ true → x ≤ limit) → ltb limit x ≡ not t
above-limit x limit true up down = le-ltb limit x (down refl)
above-limit x limit false up down = by_order x limit (λ h. absurd (false≢true (up h))) (λ h. lt-ltb limit x h)

-- the larger of two
pub larger-above : (a c limit : ℕ) (t u : Bool) → ltb limit a ≡ not t → ltb limit c ≡ not u → ltb limit (max a c) ≡ not (t && u)
larger-above a c limit true true ea ec =
    let la : a ≤ limit = ltb-false limit a ea in let lc : c ≤ limit = ltb-false limit c ec in le-ltb limit (max a c) (omega arith)
larger-above a c limit true false ea ec = let lc : limit < c = ltb-true limit c ec in lt-ltb limit (max a c) (omega arith)
larger-above a c limit false u ea ec = let la : limit < a = ltb-true limit a ea in lt-ltb limit (max a c) (omega arith)

pub greatest-above : (n : ℕ) (f : ℕ → ℕ) (limit : ℕ) → ltb limit (greatest n f) ≡ not (each n (λ k. leb (f k) limit))
greatest-above n f limit =
    above-limit (greatest n f) limit (each n (λ k. leb (f k) limit))
    (λ h. each_all n _ (λ k l. le-leb (f k) limit (le_trans (greatest-ge n f k l) h)))
    (λ e. greatest-le n f limit (λ k l. leb-true (f k) limit (each_holds n k _ e l)))

peak-within : (top : ℕ → ℕ) (limit s i : ℕ) → ((r : ℕ) → i ≤ r → r ≤ i + s → top r ≤ limit) → peak_from top s i ≤ limit
unfolding peak_from
peak-within top limit zero i h = h i (omega arith) (omega arith)
peak-within top limit (suc s) i h =
    omega (arith, h i (omega arith) (omega arith), peak-within top limit s (suc i) (λ r l u. h r (omega arith) (omega arith)))

peak-below : (top : ℕ → ℕ) (limit n : ℕ) → ((i : ℕ) → i < suc n → top i ≤ limit) → peak top n 0 ≤ limit
unfolding peak
peak-below top limit n h = peak-within top limit (n - 0) 0 (λ r l u. h r (omega arith))

pub peak-above : (nodes : ℕ → ℕ) (value : ℕ → ℕ → ℕ) (n limit : ℕ) →
    ltb limit (peak (λ i. greatest (nodes i) (value i)) n 0) ≡ not (each (suc n) (λ i. each (nodes i) (λ k. leb (value i k) limit)))
peak-above nodes value n limit =
    above-limit (peak top n 0) limit (each (suc n) (λ i. each (nodes i) (λ k. leb (value i k) limit)))
    (λ h. each_all (suc n) _ (λ i l. each_all (nodes i) _ (λ k m. le-leb (value i k) limit (at-node h i k l m))))
    (λ e. peak-below top limit n (λ i l. greatest-le (nodes i) (value i) limit (λ k m. leb-true (value i k) limit
    (each_holds (nodes i) k _ (each_holds (suc n) i _ e l) m))))
  where
    top : ℕ → ℕ
    top i = greatest (nodes i) (value i)

    at-node : peak top n 0 ≤ limit → (i k : ℕ) → i < suc n → k < nodes i → value i k ≤ limit
    at-node h i k l m =
        le_trans (greatest-ge (nodes i) (value i) k m)
        (le_trans (row-in-peak top n i (omega arith)) (rw zero-add at (le_trans (peak-grows top n 0 i (omega arith)) h)))
