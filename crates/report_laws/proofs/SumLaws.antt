-- Sums of reports: associative, with the empty report as unit.
-- Assumes nothing.
use mathlib.Core.Path.{◌≡◌, refl, sym}
use mathlib.Core.Bool.{Bool, true, false, not, cond, ◌&&◌, ◌||◌}
use mathlib.Core.List.{List}
use Prim.Native.Nat.{ℕ, ◌+◌}
use native.Mathlib.Omega.{arith}
use borrow.Author.Tests.{eqb-true, lt-ltb, le-ltb, ltb-true, ltb-false}
use lib.Dec.{eqb, ltb}
use lib.ListN.{length}
use Rattle.arithmetic.specs.Row.{values}
use Rattle.arithmetic.proofs.RowLaws.{row-cong, values-row, row_of, zeros}
use Rattle.book_laws.specs.Bounds.{most_number}
use Rattle.report_laws.specs.declared.Report.{Report}
use Rattle.report_laws.specs.Reports.{empty_report, is_later, sum_report}

-- a report is its figures
made : ℕ → ℕ → ℕ → List ℕ → ℕ → ℕ → ℕ → ℕ → ℕ → ℕ → Report
made books fields priced refused bonds options error-bounds dearest book place =
    record {
      books = books;
      fields = fields;
      priced = priced;
      refused = refused;
      bonds = bonds;
      options = options;
      error_bounds = error-bounds;
      dearest = dearest;
      book = book;
      place = place;
    }

made_of : (r : Report) →
    made r.books r.fields r.priced r.refused r.bonds r.options r.error_bounds r.dearest r.book r.place ≡ r
unfolding made
made_of r = refl

-- two reports are equal by their figures
pub same-report : (r s : Report) → r.books ≡ s.books → r.fields ≡ s.fields → r.priced ≡ s.priced → r.refused ≡ s.refused → r.bonds ≡ s.bonds →
    r.options ≡ s.options → r.error_bounds ≡ s.error_bounds → r.dearest ≡ s.dearest → r.book ≡ s.book → r.place ≡ s.place → r ≡ s
same-report r s e₁ e₂ e₃ e₄ e₅ e₆ e₇ e₈ e₉ e₁₀ = cc (made_of r, made_of s)

-- ---- the dearest bond

-- a second report's bond by three tests: the first has none, the second has none, the second's is higher
abbrev later : Bool → Bool → Bool → Bool
later None-first none-second higher = not none-second && (None-first || higher)

-- of three the same is chosen, whichever two are compared first
chosen-thrice : (na nb nc ab bc ac : Bool) → (ab ≡ true → bc ≡ true → ac ≡ true) → (ab ≡ false → bc ≡ false → ac ≡ false) → (x y z : ℕ) →
    cond (later (cond (later na nb ab) nb na) nc (cond (later na nb ab) bc ac)) z (cond (later na nb ab) y x)
    ≡ cond (later na (cond (later nb nc bc) nc nb) (cond (later nb nc bc) ac ab)) (cond (later nb nc bc) z y) x
chosen-thrice na nb true ab bc ac f g x y z = refl
chosen-thrice na true false ab bc ac f g x y z = refl
chosen-thrice true false false ab true ac f g x y z = refl
chosen-thrice true false false ab false ac f g x y z = refl
chosen-thrice false false false true true true f g x y z = refl
chosen-thrice false false false true true false f g x y z = let e = f refl refl in let n : ◌≡◌ {A = ℕ} 0 1 = cc in absurd (omega arith)
chosen-thrice false false false true false true f g x y z = refl
chosen-thrice false false false true false false f g x y z = refl
chosen-thrice false false false false true true f g x y z = refl
chosen-thrice false false false false true false f g x y z = refl
chosen-thrice false false false false false true f g x y z = let e = g refl refl in let n : ◌≡◌ {A = ℕ} 0 1 = cc in absurd (omega arith)
chosen-thrice false false false false false false f g x y z = refl

abbrev none : Report → Bool
none r = eqb r.place 0

abbrev higher : Report → Report → Bool
higher a b = ltb a.dearest b.dearest

-- what is added to each of two numbers is added to the one chosen
added-chosen : (t : Bool) (n x y : ℕ) → n + cond t x y ≡ cond t (n + x) (n + y)
added-chosen true n x y = refl
added-chosen false n x y = refl

module _ (a b c : Report) where
  is_later_lem : is_later a b ≡ later (none a) (none b) (higher a b)
  unfolding is_later
  is_later_lem = refl

  later-of-sum : is_later (sum_report a b) c ≡ later (cond (is_later a b) (none b) (none a)) (none c) (cond (is_later a b) (higher b c) (higher a c))
  unfolding is_later sum_report
  later-of-sum = go (is_later a b)
    where
      go : (t : Bool) →
          (not (eqb c.place 0) && (eqb (cond t b.place a.place) 0 || ltb (cond t b.dearest a.dearest) c.dearest))
          ≡ later (cond t (none b) (none a)) (none c) (cond t (higher b c) (higher a c))
      go true = refl
      go false = refl

  later-than-sum : is_later a (sum_report b c) ≡ later (none a) (cond (is_later b c) (none c) (none b)) (cond (is_later b c) (higher a c) (higher a b))
  unfolding is_later sum_report
  later-than-sum = go (is_later b c)
    where
      go : (t : Bool) →
          (not (eqb (cond t c.place b.place) 0) && (eqb a.place 0 || ltb a.dearest (cond t c.dearest b.dearest)))
          ≡ later (none a) (cond t (none c) (none b)) (cond t (higher a c) (higher a b))
      go true = refl
      go false = refl

module _ (a b c : Report) where
  chosen-same : (x y z : ℕ) →
      cond (is_later (sum_report a b) c) z (cond (is_later a b) y x) ≡ cond (is_later a (sum_report b c)) (cond (is_later b c) z y) x
  chosen-same x y z =
      rw (later-of-sum a b c, later-than-sum a b c, is_later_lem a b c, is_later_lem b c a)
      (chosen-thrice (none a) (none b) (none c) (higher a b) (higher b c) (higher a c)
      (λ p q. lt-ltb a.dearest c.dearest (omega (arith, ltb-true a.dearest b.dearest p, ltb-true b.dearest c.dearest q)))
      (λ p q. le-ltb a.dearest c.dearest (omega (arith, ltb-false a.dearest b.dearest p, ltb-false b.dearest c.dearest q))) x y z)

  dearest-same : (sum_report (sum_report a b) c).dearest ≡ (sum_report a (sum_report b c)).dearest
  unfolding sum_report
  dearest-same = chosen-same a.dearest b.dearest c.dearest

  place_same : (sum_report (sum_report a b) c).place ≡ (sum_report a (sum_report b c)).place
  unfolding sum_report
  place_same = chosen-same a.place b.place c.place

  book-same : (sum_report (sum_report a b) c).book ≡ (sum_report a (sum_report b c)).book
  unfolding sum_report
  book-same =
      let e : a.books + b.books + c.book ≡ a.books + (b.books + c.book) = omega arith in
      rw (e, added-chosen (is_later b c) a.books (b.books + c.book) b.book)
      (chosen-same a.book (a.books + b.book) (a.books + (b.books + c.book)))

  refused-same : (sum_report (sum_report a b) c).refused ≡ (sum_report a (sum_report b c)).refused
  unfolding sum_report
  refused-same =
      row-cong most_number _ _
      (λ k l.
      omega (
        arith,
        values-row most_number k (λ j. values a.refused j + values b.refused j) l,
        values-row most_number k (λ j. values b.refused j + values c.refused j) l,
      ))

  books-same : (sum_report (sum_report a b) c).books ≡ (sum_report a (sum_report b c)).books
  unfolding sum_report
  books-same = omega arith

  fields-same : (sum_report (sum_report a b) c).fields ≡ (sum_report a (sum_report b c)).fields
  unfolding sum_report
  fields-same = omega arith

  priced-same : (sum_report (sum_report a b) c).priced ≡ (sum_report a (sum_report b c)).priced
  unfolding sum_report
  priced-same = omega arith

  bonds-same : (sum_report (sum_report a b) c).bonds ≡ (sum_report a (sum_report b c)).bonds
  unfolding sum_report
  bonds-same = omega arith

  options-same : (sum_report (sum_report a b) c).options ≡ (sum_report a (sum_report b c)).options
  unfolding sum_report
  options-same = omega arith

  error-bounds-same : (sum_report (sum_report a b) c).error_bounds ≡ (sum_report a (sum_report b c)).error_bounds
  unfolding sum_report
  error-bounds-same = omega arith

  -- THE SUM IS ASSOCIATIVE
  pub sum-assoc : sum_report (sum_report a b) c ≡ sum_report a (sum_report b c)
  sum-assoc =
      same-report _ _ books-same fields-same priced-same refused-same bonds-same options-same error-bounds-same dearest-same book-same place_same

-- ---- the empty report

-- a report of which nothing is kept where no bond is priced, and which has thirteen counts
pub record Plain (r : Report) : Type 0 where
  pub size : length r.refused ≡ most_number
  pub dearest : r.place ≡ 0 → r.dearest ≡ 0
  pub book : r.place ≡ 0 → r.book ≡ 0

pub empty-plain : Plain empty_report
unfolding empty_report
empty-plain = record { size = refl; dearest = λ z. refl; book = λ z. refl }

module _ (r : Report) (p : Plain r) where
  left-counts : (sum_report empty_report r).refused ≡ r.refused
  unfolding sum_report empty_report
  left-counts = sym (row_of r.refused most_number _ p.size (λ k l. omega (arith, zeros most_number k)))

  right-counts : (sum_report r empty_report).refused ≡ r.refused
  unfolding sum_report empty_report
  right-counts = sym (row_of r.refused most_number _ p.size (λ k l. omega (arith, zeros most_number k)))

  -- the empty report has no bond: a report's own is taken where it has one
  later-empty : is_later empty_report r ≡ not (none r)
  unfolding is_later empty_report
  later-empty = go (eqb r.place 0)
    where
      go : (t : Bool) → (not t && true) ≡ not t
      go true = refl
      go false = refl

  taken : (x : ℕ) → (r.place ≡ 0 → x ≡ 0) → cond (is_later empty_report r) x 0 ≡ x
  taken x z = rw later-empty (go (none r) refl)
    where
      go : (t : Bool) → none r ≡ t → cond (not t) x 0 ≡ x
      go true e = sym (z (eqb-true r.place 0 e))
      go false e = refl

  dearest-taken : (sum_report empty_report r).dearest ≡ r.dearest
  unfolding sum_report empty_report
  dearest-taken = taken r.dearest p.dearest

  book-taken : (sum_report empty_report r).book ≡ r.book
  unfolding sum_report empty_report
  book-taken = let e : 0 + r.book ≡ r.book = omega arith in rw e (taken r.book p.book)

  place-taken : (sum_report empty_report r).place ≡ r.place
  unfolding sum_report empty_report
  place-taken = taken r.place (λ z. z)

  left_books : (sum_report empty_report r).books ≡ r.books
  unfolding sum_report empty_report
  left_books = omega arith

  right-books : (sum_report r empty_report).books ≡ r.books
  unfolding sum_report empty_report
  right-books = omega arith

  left-fields : (sum_report empty_report r).fields ≡ r.fields
  unfolding sum_report empty_report
  left-fields = omega arith

  right-fields : (sum_report r empty_report).fields ≡ r.fields
  unfolding sum_report empty_report
  right-fields = omega arith

  left-priced : (sum_report empty_report r).priced ≡ r.priced
  unfolding sum_report empty_report
  left-priced = omega arith

  right-priced : (sum_report r empty_report).priced ≡ r.priced
  unfolding sum_report empty_report
  right-priced = omega arith

  left-bonds : (sum_report empty_report r).bonds ≡ r.bonds
  unfolding sum_report empty_report
  left-bonds = omega arith

  right-bonds : (sum_report r empty_report).bonds ≡ r.bonds
  unfolding sum_report empty_report
  right-bonds = omega arith

  left-options : (sum_report empty_report r).options ≡ r.options
  unfolding sum_report empty_report
  left-options = omega arith

  right-options : (sum_report r empty_report).options ≡ r.options
  unfolding sum_report empty_report
  right-options = omega arith

  left-error-bounds : (sum_report empty_report r).error_bounds ≡ r.error_bounds
  unfolding sum_report empty_report
  left-error-bounds = omega arith

  right-error-bounds : (sum_report r empty_report).error_bounds ≡ r.error_bounds
  unfolding sum_report empty_report
  right-error-bounds = omega arith

  earlier-empty : is_later r empty_report ≡ false
  unfolding is_later empty_report
  earlier-empty = refl

  right-dearest : (sum_report r empty_report).dearest ≡ r.dearest
  unfolding sum_report
  right-dearest = rw earlier-empty

  right-book : (sum_report r empty_report).book ≡ r.book
  unfolding sum_report
  right-book = rw earlier-empty

  right-place : (sum_report r empty_report).place ≡ r.place
  unfolding sum_report
  right-place = rw earlier-empty

  -- THE EMPTY REPORT IS ITS UNIT
  pub sum-empty-left : sum_report empty_report r ≡ r
  sum-empty-left =
      same-report _ _ left_books left-fields left-priced left-counts left-bonds left-options left-error-bounds dearest-taken book-taken place-taken

  pub sum-empty-right : sum_report r empty_report ≡ r
  sum-empty-right =
      same-report _ _ right-books right-fields right-priced right-counts right-bonds right-options right-error-bounds right-dearest right-book right-place
