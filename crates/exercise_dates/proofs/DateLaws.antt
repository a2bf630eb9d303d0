-- Laws of exercise dates as the code holds them.
-- Assumes nothing.
use mathlib.Core.Path.{◌≡◌, refl, sym, ap, ap₂, ◌∙◌}
use mathlib.Core.Bool.{Bool, true, false, cond}
use mathlib.Core.List.{List, [], ◌∷◌}
use Prim.Native.Nat.{ℕ, suc, ◌+◌, ◌-◌, ◌≤◌, ◌<◌}
use native.Mathlib.Numerals.{add-one}
use native.Mathlib.Omega.{arith}
use lib.Dec.{eqb, leb, ltb}
use lib.ListN.{length, take, set, replicate, length-set, length-replicate, get_or-eq_default}
use lib.Seq.{get_or-set_same, get_or-set_other}
use borrow.Author.Tests.{lt-ltb, le-ltb, lt-leb, le-leb, leb-true}
use Rattle.std.specs.List.{IsAllAdjacentAnswer}
use Rattle.arithmetic.specs.Row.{row, values, each, overlay, padded}
use Rattle.arithmetic.proofs.Numbers.{by_order, by_equal, by-test}
use Rattle.arithmetic.proofs.RowLaws.{length-row, values-row, row_of, each_none, each_more, each-fails, each_holds, each_all, zeros}
use Rattle.arithmetic.proofs.PaddedLaws.{padded-of, padded-length, padded-take}
use Rattle.limits.specs.Limits.{most_steps}
use Rattle.pricing_laws.specs.Pricer.{call, put}
use Rattle.pricing_laws.specs.Schedule.{among, in_dates, last_date, dated_schedule, rising, numbered_side, every_row, kind_dates}
use Rattle.pricing_laws.specs.inside.Marks.{marked}
use Rattle.pricing_laws.proofs.Dates.{among-hit, among-miss, among_none}
use Rattle.pricing_laws.proofs.Schedules.{Alike}
use Rattle.exercise.specs.declared.Terms.{Terms}
use Rattle.exercise.specs.Terms.{side}
use Rattle.exercise_dates.specs.declared.Dates.{Dates}
use Rattle.exercise_dates.specs.Dates.{rows_of_aTree, marks_of, dated_terms, dates_held, dates_of_kind}
use Rattle.exercise_dates.specs.inside.Dates.{dates_to}

-- ---- a list is tested from its start: the first k rows rise

abbrev pub rises : List ℕ → ℕ → Bool
rises dates k = ltb (values dates k) (values dates (k + 1))

pub rising-start : (dates : List ℕ) → each 0 (rises dates) ≡ true
rising-start dates = each_none (rises dates)

module _ (dates : List ℕ) (k : ℕ) (some : 0 < k) where
  pub rising-more : each (k - 1) (rises dates) ≡ true → values dates (k - 1) < values dates k → each (k + 1 - 1) (rises dates) ≡ true
  rising-more before l =
      let e : k + 1 - 1 ≡ (k - 1) + 1 = omega arith in
      let g : (k - 1) + 1 ≡ k = omega arith in
      rw e (each_more (k - 1) (rises dates) before (lt-ltb (values dates (k - 1)) (values dates ((k - 1) + 1)) (rw g l)))

  pub rising-fails : k < length dates → values dates k ≤ values dates (k - 1) → false ≡ rising dates
  unfolding rising
  rising-fails h l =
      let g : (k - 1) + 1 ≡ k = omega arith in
      sym
      (each-fails (length dates - 1) (k - 1) (rises dates) (omega arith)
      (le-ltb (values dates (k - 1)) (values dates ((k - 1) + 1)) (rw g l)))

  pub rising-all : each (k - 1) (rises dates) ≡ true → length dates ≤ k → true ≡ rising dates
  unfolding rising
  rising-all before h =
      sym (each_all (length dates - 1) (rises dates) (λ j l. each_holds (k - 1) j (rises dates) before (omega arith)))

-- and as a test of neighbours answers it
pub rising-answered : (dates : List ℕ) (r : Bool) → IsAllAdjacentAnswer (λ x y b. b ≡ ltb x y) dates r → r ≡ rising dates
unfolding rising
rising-answered dates true h = sym (each_all (length dates - 1) _ (λ k l. sym (h k 0 (omega arith))))
rising-answered dates false h = sym (each-fails (length dates - 1) h.0 _ (omega (arith, h.1)) (sym (h.2 0)))

pub none_last : (dates : List ℕ) → length dates ≡ 0 → 0 ≡ last_date dates
none_last dates e = sym (get_or-eq_default dates 0 (omega arith))

-- ---- marks are made from the list's start: after its first k rows

pub record Marking (dates marks : List ℕ) (k : ℕ) : Type 0 where
  pub size : length marks ≡ rows_of_aTree
  pub marks-are : (i : ℕ) → i < rows_of_aTree → values marks i ≡ cond (among dates k i) 1 0

pub marking-start : (dates : List ℕ) → Marking dates (replicate rows_of_aTree 0) 0
marking-start dates =
    record {
      size = length-replicate {A = ℕ} rows_of_aTree 0;
      marks-are = λ i h. zeros rows_of_aTree i ∙ sym (ap (λ (t : Bool). cond t 1 0) (among_none dates i));
    }

module _ (dates marks : List ℕ) (k : ℕ) (m : Marking dates marks k) where
  pub marking-hit : (d : ℕ) → d ≡ values dates k → d < rows_of_aTree → Marking dates (set marks d 1) (k + 1)
  marking-hit d e inside =
      record {
        size = length-set marks d 1 ∙ m.size;
        marks-are = λ i h.
            by_equal i d
            (λ same.
            rw same (get_or-set_same marks d 1 0 (omega (arith, m.size)))
            ∙ sym (ap (λ (t : Bool). cond t 1 0) (among-hit dates k i (same ∙ e))))
            (λ other.
            get_or-set_other marks d i 1 0 other ∙ m.marks-are i h
            ∙ sym (ap (λ (t : Bool). cond t 1 0) (among-miss dates k i (λ q. other (q ∙ sym e)))));
      }

  pub marking-past : (d : ℕ) → d ≡ values dates k → rows_of_aTree ≤ d → Marking dates marks (k + 1)
  marking-past d e past =
      record {
        size = m.size;
        marks-are = λ i h. m.marks-are i h ∙ sym (ap (λ (t : Bool). cond t 1 0) (among-miss dates k i (λ q. omega arith)));
      }

  pub marking-all : k ≡ length dates → marks ≡ marks_of dates
  unfolding marks_of
  marking-all e =
      row_of marks rows_of_aTree (λ i. cond (in_dates dates i) 1 0) m.size
      (λ i h. m.marks-are i h ∙ ap (λ (c : ℕ). cond (among dates c i) 1 0) e)

-- the marks of a list name the rows of its schedule
pub dates-alike : (dates : List ℕ) → last_date dates ≤ most_steps → Alike (marked (last_date dates) (marks_of dates)) (dated_schedule dates)
unfolding marked dated_schedule marks_of
dates-alike dates few =
    record {
      last = refl;
      listed = λ i h.
          ap (λ (x : ℕ). eqb x 1) (values-row rows_of_aTree i (λ j. cond (in_dates dates j) 1 0) (omega arith)) ∙ told (in_dates dates i);
    }
  where
    told : (t : Bool) → eqb (cond t 1 0) 1 ≡ t
    told true = refl
    told false = refl

-- there is a mark for each row before the last
pub marks-room : (dates marks : List ℕ) → marks ≡ marks_of dates → last_date dates ≤ most_steps → last_date dates ≤ length marks
unfolding marks_of
marks-room dates marks e few = omega (arith, ap length e ∙ length-row rows_of_aTree (λ i. cond (in_dates dates i) 1 0))

-- ---- the terms of a dated option

module _ (number : ℕ) (dates : List ℕ) (strike : ℕ) (terms : Terms) (e : terms ≡ dated_terms number dates strike) where
  pub dated-side : side terms.call ≡ numbered_side number
  unfolding dated_terms numbered_side
  dated-side = ap (λ (t : Terms). side t.call) e ∙ go (eqb number 1)
    where
      go : (t : Bool) → side t ≡ cond t call put
      go true = refl
      go false = refl

  pub dated-strike : terms.strike ≡ strike
  unfolding dated_terms
  dated-strike = ap (λ (t : Terms). t.strike) e

  pub dated-last : terms.last ≡ last_date dates
  unfolding dated_terms
  dated-last = ap (λ (t : Terms). t.last) e

-- ---- the list of a kind

-- what stands in the first places is the list
held-front : (l : List ℕ) → length l ≤ rows_of_aTree → take (length l) (dates_held l).rows ≡ l
held-front l few = padded-take rows_of_aTree (length l) (values l) few ∙ sym (row_of l (length l) (values l) refl (λ k h. refl))

kind-size : (kind expiry : ℕ) → expiry ≤ most_steps → length (kind_dates kind expiry) ≤ rows_of_aTree
unfolding kind_dates
kind-size kind expiry few =
    by-test (leb 3 kind) (λ (dates : List ℕ). length dates ≤ rows_of_aTree) (every_row expiry) (expiry ∷ [])
    (λ t. omega (arith, length-row (suc expiry) (λ i. i))) (λ t. omega arith)

-- the kind's list, as it is handed on
module _ (kind expiry : ℕ) (few : expiry ≤ most_steps) (dates : Dates) (e : dates ≡ dates_of_kind kind expiry) where
  list-is : dates ≡ dates_held (kind_dates kind expiry)
  unfolding dates_of_kind
  list-is = e ∙ rw (le-leb expiry most_steps few)

  pub kind-list : take dates.count dates.rows ≡ kind_dates kind expiry
  kind-list = ap (λ (d : Dates). take d.count d.rows) list-is ∙ held-front (kind_dates kind expiry) (kind-size kind expiry few)

-- its places, whatever the expiry
pub list-room : (kind expiry : ℕ) (dates : Dates) → dates ≡ dates_of_kind kind expiry → dates.count ≤ length dates.rows
unfolding dates_of_kind
list-room kind expiry dates e =
    rw e
    (by-test (leb expiry most_steps) (λ (l : List ℕ). (dates_held l).count ≤ length (dates_held l).rows) (kind_dates kind expiry) []
    (λ t. room (kind_dates kind expiry) (kind-size kind expiry (leb-true expiry most_steps t))) (λ t. room [] (omega arith)))
  where
    room : (l : List ℕ) → length l ≤ rows_of_aTree → (dates_held l).count ≤ length (dates_held l).rows
    room l h = omega (arith, padded-length rows_of_aTree (length l) (values l))

-- what the code gives for it: no list, expiry alone, or every row
module _ (kind expiry : ℕ) where
  pub no-list : most_steps < expiry → ◌≡◌ {A = Dates} (record { count = 0; rows = replicate rows_of_aTree 0 }) (dates_of_kind kind expiry)
  unfolding dates_of_kind padded row overlay
  no-list many = rw (lt-leb expiry most_steps many)

  module _ (few : expiry ≤ most_steps) where
    pub alone-list :
        kind < 3 → ◌≡◌ {A = Dates} (record { count = 1; rows = expiry ∷ replicate most_steps 0 }) (dates_of_kind kind expiry)
    unfolding dates_of_kind kind_dates padded row overlay
    alone-list european = rw (le-leb expiry most_steps few, lt-leb 3 kind european)

    every-padded : dates_to expiry ≡ (dates_held (every_row expiry)).rows
    unfolding dates_to
    every-padded =
        let size = length-row (suc expiry) (λ i. i) in
        let to : ℕ → ℕ = λ i. cond (leb i expiry) i 0 in
        padded-of rows_of_aTree (row rows_of_aTree to) (length (every_row expiry)) (values (every_row expiry)) (length-row rows_of_aTree to)
        (λ k h.
        values-row rows_of_aTree k to (omega (arith, size)) ∙ rw (le-leb k expiry (omega (arith, size)))
        (sym (values-row (suc expiry) k (λ i. i) (omega (arith, size)))))
        (λ k past.
        by_order rows_of_aTree k
        (λ outside. get_or-eq_default (row rows_of_aTree to) 0 (rw (length-row rows_of_aTree to) outside))
        (λ inside. values-row rows_of_aTree k to inside ∙ rw (lt-leb k expiry (omega (arith, size)))))

    pub every-list :
        (rows : List ℕ) → 3 ≤ kind → rows ≡ dates_to expiry → ◌≡◌ {A = Dates} (record { count = expiry + 1; rows = rows }) (dates_of_kind kind expiry)
    unfolding dates_of_kind kind_dates
    every-list rows american e =
        rw (le-leb expiry most_steps few, le-leb 3 kind american)
        (ap₂ {C = Dates} (λ (c : ℕ) (r : List ℕ). record { count = c; rows = r }) (add-one expiry ∙ sym (length-row (suc expiry) (λ i. i)))
        (e ∙ every-padded))
