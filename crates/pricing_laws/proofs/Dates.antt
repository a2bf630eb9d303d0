-- Laws of lists of exercise dates, and of the lists of the four kinds.
-- Assumes nothing.
use mathlib.Core.Path.{◌≡◌, refl, sym, ap, ◌∙◌}
use mathlib.Core.Bool.{Bool, true, false, cond, ◌&&◌, ◌||◌}
use mathlib.Core.List.{List, [], ◌∷◌}
use mathlib.Core.Logic.{⊎_elim}
use Prim.Native.Nat.{ℕ, zero, suc, ◌+◌, ◌-◌, ◌≤◌, ◌<◌}
use native.Mathlib.Nat.{eq-or-lt_of_le, le_of_suc-le-suc, le_refl, add-zero}
use native.Mathlib.Numerals.{add-one}
use native.Mathlib.Omega.{arith}
use lib.Dec.{eqb, leb, ltb}
use lib.ListN.{length}
use borrow.Author.Tests.{eq-eqb, ne_eqb, lt-ltb, le-ltb, ltb-true}
use Rattle.arithmetic.specs.Row.{values}
use Rattle.arithmetic.proofs.Numbers.{by_equal, by-test}
use Rattle.arithmetic.proofs.RowLaws.{length-row, values-row, each_none, each_all, each_holds}
use Rattle.pricing_laws.specs.Pricer.{call, put}
use Rattle.pricing_laws.specs.Schedule.{among, in_dates, last_date, dated_schedule, rising, dates_cause, numbered_side}
use Rattle.pricing_laws.specs.Schedule.{every_row, european, american, side_of, kind_dates, kind_side, schedule_of}

-- ---- membership

or-true : (a b : Bool) → b ≡ true → (a || b) ≡ true
or-true true b h = refl
or-true false b h = h

-- an entry is among the entries past it
pub among-entry : (dates : List ℕ) (c k : ℕ) → k < c → among dates c (values dates k) ≡ true
unfolding among
among-entry dates zero k h = absurd (omega arith)
among-entry dates (suc c) k h =
    ⊎_elim
    (λ e. rw (eq-eqb (values dates k) (values dates c) (ap (values dates) e)) refl)
    (λ l. or-true (eqb (values dates k) (values dates c)) _ (among-entry dates c k l))
    (eq-or-lt_of_le (le_of_suc-le-suc h))

-- and a row among the entries is one of them
pub among-some : (dates : List ℕ) (c i : ℕ) → among dates c i ≡ true → (k : ℕ) × (k < c) × (i ≡ values dates k)
unfolding among
among-some dates zero i h = let z : ◌≡◌ {A = ℕ} 0 1 = cc in absurd (omega arith)
among-some dates (suc c) i h =
    by_equal i (values dates c) (λ e. (c, omega arith, e))
    (λ other.
    let found = among-some dates c i (rw (ne_eqb i (values dates c) other) at h) in
    (found.0, omega arith, found.2))

-- one entry more: where it is the row, and where it is not
pub among-hit : (dates : List ℕ) (c i : ℕ) → i ≡ values dates c → among dates (c + 1) i ≡ true
unfolding among
among-hit dates c i e = rw (add-one c, eq-eqb i (values dates c) e)

pub among-miss : (dates : List ℕ) (c i : ℕ) → (i ≡ values dates c → ⊥) → among dates (c + 1) i ≡ among dates c i
unfolding among
among-miss dates c i n = rw (add-one c, ne_eqb i (values dates c) n)

pub among_none : (dates : List ℕ) (i : ℕ) → among dates 0 i ≡ false
unfolding among
among_none dates i = refl

-- ---- a list that was accepted

pub record AcceptedDates (n : ℕ) (dates : List ℕ) : Type 0 where
  pub some : 0 < length dates
  pub rises : rising dates ≡ true
  pub before-end : last_date dates < n

and_parts : (a b c : Bool) → cond {A = ℕ} (a && (b && c)) 0 13 ≡ 0 → (a ≡ true) × (b ≡ true) × (c ≡ true)
and_parts true true true h = (refl, refl, refl)
and_parts true true false h = absurd (omega arith)
and_parts true false c h = absurd (omega arith)
and_parts false b c h = absurd (omega arith)

pub dates-accepted : (n : ℕ) (dates : List ℕ) → dates_cause n dates ≡ 0 → AcceptedDates n dates
unfolding dates_cause
dates-accepted n dates h =
    let parts = and_parts (ltb 0 (length dates)) (rising dates) (ltb (last_date dates) n) h in
    record { some = ltb-true 0 (length dates) parts.0; rises = parts.1; before-end = ltb-true (last_date dates) n parts.2 }

-- of a rising list no entry is above a later one
rising_le : (dates : List ℕ) → rising dates ≡ true → (d k : ℕ) → k + d < length dates → values dates k ≤ values dates (k + d)
unfolding rising
rising_le dates h zero k l = rw (add-zero k) (le_refl (values dates k))
rising_le dates h (suc d) k l =
    let e : k + suc d ≡ (k + d) + 1 = omega arith in
    let next =
    ltb-true (values dates (k + d)) (values dates ((k + d) + 1))
    (each_holds (length dates - 1) (k + d) (λ j. ltb (values dates j) (values dates (j + 1))) h (omega arith)) in
    rw e (omega (arith, next, rising_le dates h d k (omega arith)))

pub rising-last : (dates : List ℕ) → rising dates ≡ true → (k : ℕ) → k < length dates → values dates k ≤ last_date dates
rising-last dates h k l =
    let e : k + (length dates - 1 - k) ≡ length dates - 1 = omega arith in
    rw e at (rising_le dates h (length dates - 1 - k) k (omega arith))

-- the cause by the tests that the code makes
module _ (n : ℕ) (dates : List ℕ) where
  pub cause-empty : length dates ≡ 0 → 13 ≡ dates_cause n dates
  unfolding dates_cause
  cause-empty e = rw (le-ltb 0 (length dates) (omega arith))

  module _ (some : length dates ≡ 0 → ⊥) where
    pub cause-order : rising dates ≡ false → 13 ≡ dates_cause n dates
    unfolding dates_cause
    cause-order e = rw (lt-ltb 0 (length dates) (omega arith), e)

    module _ (order : rising dates ≡ true) where
      pub cause-end : n ≤ last_date dates → 13 ≡ dates_cause n dates
      unfolding dates_cause
      cause-end h = rw (lt-ltb 0 (length dates) (omega arith), order, le-ltb (last_date dates) n h)

      pub cause-none : last_date dates < n → 0 ≡ dates_cause n dates
      unfolding dates_cause
      cause-none h = rw (lt-ltb 0 (length dates) (omega arith), order, lt-ltb (last_date dates) n h)

-- ---- the lists of the kinds

pub every-last : (expiry : ℕ) → last_date (every_row expiry) ≡ expiry
every-last expiry =
    ap (λ (c : ℕ). values (every_row expiry) (c - 1)) (length-row (suc expiry) (λ i. i))
    ∙ (let e : suc expiry - 1 ≡ expiry = omega arith in rw e (values-row (suc expiry) expiry (λ i. i) (omega arith)))

pub every-listed : (expiry i : ℕ) → i ≤ expiry → in_dates (every_row expiry) i ≡ true
every-listed expiry i h =
    let e : values (every_row expiry) i ≡ i = values-row (suc expiry) i (λ k. k) (omega arith) in
    rw (length-row (suc expiry) (λ k. k)) (rw e at (among-entry (every_row expiry) (suc expiry) i (omega arith)))

pub expiry-alone : (expiry i : ℕ) → i < expiry → in_dates (expiry ∷ []) i ≡ false
unfolding among
expiry-alone expiry i h = rw (ne_eqb i expiry (λ e. omega arith))

pub european-last : (expiry : ℕ) → (european expiry).last ≡ expiry
unfolding european dated_schedule
european-last expiry = refl

pub european-listed : (expiry i : ℕ) → i < expiry → (european expiry).listed i ≡ false
unfolding european dated_schedule
european-listed expiry i h = expiry-alone expiry i h

pub american-last : (expiry : ℕ) → (american expiry).last ≡ expiry
unfolding american dated_schedule
american-last expiry = every-last expiry

pub american-listed : (expiry i : ℕ) → i ≤ expiry → (american expiry).listed i ≡ true
unfolding american dated_schedule
american-listed expiry i h = every-listed expiry i h

-- a kind's list ends at expiry
pub kind-last : (kind expiry : ℕ) → last_date (kind_dates kind expiry) ≡ expiry
unfolding kind_dates
kind-last kind expiry =
    by-test (leb 3 kind) (λ (dates : List ℕ). last_date dates ≡ expiry) (every_row expiry) (expiry ∷ []) (λ t. every-last expiry) (λ t. refl)

pub schedule-last : (kind expiry : ℕ) → (schedule_of kind expiry).last ≡ expiry
unfolding schedule_of dated_schedule
schedule-last kind expiry = kind-last kind expiry

-- and it is accepted wherever expiry is below n
every-rises : (expiry : ℕ) → rising (every_row expiry) ≡ true
unfolding rising
every-rises expiry =
    let size = length-row (suc expiry) (λ i. i) in
    each_all (length (every_row expiry) - 1) (λ k. ltb (values (every_row expiry) k) (values (every_row expiry) (k + 1)))
    (λ k h.
    lt-ltb (values (every_row expiry) k) (values (every_row expiry) (k + 1))
    (omega (
      arith,
      values-row (suc expiry) k (λ i. i) (omega (arith, size)),
      values-row (suc expiry) (k + 1) (λ i. i) (omega (arith, size)),
    )))

every-accepted : (n expiry : ℕ) → expiry < n → dates_cause n (every_row expiry) ≡ 0
every-accepted n expiry h =
    sym
    (cause-none n (every_row expiry) (λ e. absurd (omega (arith, length-row (suc expiry) (λ i. i)))) (every-rises expiry) (rw (every-last expiry) h))

alone-accepted : (n expiry : ℕ) → expiry < n → dates_cause n (expiry ∷ []) ≡ 0
unfolding rising
alone-accepted n expiry h = sym (cause-none n (expiry ∷ []) (λ e. absurd (omega arith)) (each_none _) h)

pub kind-accepted : (n kind expiry : ℕ) → expiry < n → dates_cause n (kind_dates kind expiry) ≡ 0
unfolding kind_dates
kind-accepted n kind expiry h =
    by-test (leb 3 kind) (λ (dates : List ℕ). dates_cause n dates ≡ 0) (every_row expiry) (expiry ∷ [])
    (λ t. every-accepted n expiry h) (λ t. alone-accepted n expiry h)

-- the side of a kind is that of its number
pub kind-side : (kind : ℕ) → numbered_side (kind_side kind) ≡ side_of kind
unfolding numbered_side kind_side side_of
kind-side kind = go (eqb kind 1 || eqb kind 3)
  where
    go : (t : Bool) → cond (eqb (cond t 1 2) 1) call put ≡ cond t call put
    go true = refl
    go false = refl

pub kind-side-number : (kind : ℕ) → (1 ≤ kind_side kind) × (kind_side kind ≤ 2)
unfolding kind_side
kind-side-number kind = go (eqb kind 1 || eqb kind 3)
  where
    go : (t : Bool) → (1 ≤ cond t 1 2) × (cond t 1 2 ≤ 2)
    go true = (omega arith, omega arith)
    go false = (omega arith, omega arith)
