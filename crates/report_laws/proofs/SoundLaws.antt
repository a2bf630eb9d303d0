-- Reports whose figures so many books can give: what the test says, and that sums of them are such reports.
-- Assumes nothing.
use mathlib.Core.Path.{◌≡◌, refl, sym, ◌∙◌}
use mathlib.Core.Bool.{Bool, true, false, cond, ◌&&◌}
use mathlib.Core.List.{List}
use Prim.Native.Nat.{ℕ, ◌+◌, ◌*◌, ◌≤◌, ◌<◌}
use native.Mathlib.Omega.{arith}
use borrow.Author.Tests.{eq-eqb, ne_eqb, eqb-true, le-leb, lt-leb, leb-true}
use lib.Dec.{eqb, leb, ltb}
use lib.ListN.{replicate}
use Rattle.arithmetic.specs.Row.{row, values}
use Rattle.arithmetic.proofs.Numbers.{by_equal}
use Rattle.arithmetic.proofs.RowLaws.{values-row, zeros}
use Rattle.arithmetic.proofs.SumLaws.{sum-cong, sum-add, sum-most}
use Rattle.limits.specs.Limits.{value_limit}
use Rattle.book_laws.specs.Bounds.{most_number, most_error_bound}
use Rattle.book_laws.specs.Books.{most_fields, counts_within}
use Rattle.book_laws.proofs.OpenLaws.{both, counts-within, within-counts}
use Rattle.report_laws.specs.declared.Report.{Report}
use Rattle.report_laws.specs.Reports.{empty_report, is_later, sum_report}
use Rattle.report_laws.specs.Joins.{size_of, most_size, is_named, counts_total, is_counted, is_report}

-- ---- the tests as facts

pub record Named (r : Report) : Type 0 where
  pub none : r.priced ≡ 0 → (r.place ≡ 0) × (r.book ≡ 0)
  pub some : (r.priced ≡ 0 → ⊥) → (1 ≤ r.place) × (r.place ≤ most_fields) × (1 ≤ r.book) × (r.book ≤ r.books)

pub record Sound (r : Report) : Type 0 where
  pub size : size_of r ≤ most_size
  pub fields : r.fields ≤ r.books * most_fields
  pub priced : r.priced ≤ r.fields
  pub bonds : r.bonds ≤ r.priced * value_limit
  pub options : r.options ≤ r.priced * value_limit
  pub error-bounds : r.error_bounds ≤ r.priced * most_error_bound
  pub dearest : r.dearest ≤ r.bonds
  pub named : Named r
  pub counts : counts_within r.refused (r.fields + r.books) ≡ true
  pub least : r.fields ≤ r.priced + counts_total r.refused
  pub most : r.priced + counts_total r.refused ≤ r.fields + r.books

module _ (r : Report) where
  -- the name of a dearest bond, where there is none and where there is one
  pub unnamed : r.priced ≡ 0 → is_named r ≡ (eqb r.place 0 && eqb r.book 0)
  unfolding is_named
  unnamed z = rw (eq-eqb r.priced 0 z)

  pub placed : (r.priced ≡ 0 → ⊥) →
      is_named r ≡ (leb 1 r.place && (leb r.place most_fields && (leb 1 r.book && leb r.book r.books)))
  unfolding is_named
  placed nz = rw (ne_eqb r.priced 0 nz)

  pub name-told : is_named r ≡ true → Named r
  name-told h =
      record {
        none =
            λ z. let (p, b) = both (eqb r.place 0) (eqb r.book 0) (sym (unnamed z) ∙ h) in
            (eqb-true r.place 0 p, eqb-true r.book 0 b);
        some =
            λ nz. let (p, h1) = both (leb 1 r.place) _ (sym (placed nz) ∙ h) in
            let (q, h2) = both (leb r.place most_fields) _ h1 in
            let (b, c) = both (leb 1 r.book) (leb r.book r.books) h2 in
            (leb-true _ _ p, leb-true _ _ q, leb-true _ _ b, leb-true _ _ c);
      }

  pub named-tested : Named r → is_named r ≡ true
  named-tested n =
      by_equal r.priced 0
      (λ z. let t = n.none z in unnamed z ∙ rw (eq-eqb r.place 0 t.0, eq-eqb r.book 0 t.1))
      (λ nz. let t = n.some nz in placed nz ∙ rw (le-leb _ _ t.0, le-leb _ _ t.1, le-leb _ _ t.2, le-leb _ _ t.3))

  pub report-sound : is_report r ≡ true → Sound r
  unfolding is_report is_counted
  report-sound h =
      let (b, h1) = both (leb (size_of r) most_size) _ h in
      let (f, h2) = both (leb r.fields (r.books * most_fields)) _ h1 in
      let (p, h3) = both (leb r.priced r.fields) _ h2 in
      let (s, h4) = both (leb r.bonds (r.priced * value_limit)) _ h3 in
      let (o, h5) = both (leb r.options (r.priced * value_limit)) _ h4 in
      let (a, h6) = both (leb r.error_bounds (r.priced * most_error_bound)) _ h5 in
      let (d, h7) = both (leb r.dearest r.bonds) _ h6 in
      let (n, h8) = both (is_named r) _ h7 in
      let (c, h9) = both (counts_within r.refused (r.fields + r.books)) _ h8 in
      let (l, m) = both (leb r.fields (r.priced + counts_total r.refused)) _ h9 in
      record {
        size = leb-true _ _ b;
        fields = leb-true _ _ f;
        priced = leb-true _ _ p;
        bonds = leb-true _ _ s;
        options = leb-true _ _ o;
        error-bounds = leb-true _ _ a;
        dearest = leb-true _ _ d;
        named = name-told n;
        counts = c;
        least = leb-true _ _ l;
        most = leb-true _ _ m;
      }

  pub sound-report : Sound r → is_report r ≡ true
  unfolding is_report is_counted
  sound-report s =
      rw (
        le-leb _ _ s.size,
        le-leb _ _ s.fields,
        le-leb _ _ s.priced,
        le-leb _ _ s.bonds,
        le-leb _ _ s.options,
        le-leb _ _ s.error-bounds,
        le-leb _ _ s.dearest,
        named-tested s.named,
        s.counts,
        le-leb _ _ s.least,
        le-leb _ _ s.most,
      )

  -- a report that fails a test is none
  pub unsound : (Sound r → ⊥) → false ≡ is_report r
  unsound h = go (is_report r) refl
    where
      go : (t : Bool) → is_report r ≡ t → false ≡ t
      go true e = absurd (h (report-sound e))
      go false e = refl

  pub unnamed-report : is_named r ≡ false → false ≡ is_report r
  unnamed-report e = unsound (λ s. let n : ◌≡◌ {A = ℕ} 0 1 = cc (named-tested s.named) in omega arith)

  -- the counts are tested last
  pub counts-last : size_of r ≤ most_size → r.fields ≤ r.books * most_fields → r.priced ≤ r.fields → r.bonds ≤ r.priced * value_limit →
      r.options ≤ r.priced * value_limit → r.error_bounds ≤ r.priced * most_error_bound → r.dearest ≤ r.bonds → is_named r ≡ true →
      is_counted r ≡ is_report r
  unfolding is_report
  counts-last b f p s o a d n =
      rw (le-leb _ _ b, le-leb _ _ f, le-leb _ _ p, le-leb _ _ s, le-leb _ _ o, le-leb _ _ a, le-leb _ _ d, n)

  -- the name as the code tests it
  pub misnamed : (Named r → ⊥) → false ≡ is_named r
  misnamed h = go (is_named r) refl
    where
      go : (t : Bool) → is_named r ≡ t → false ≡ t
      go true e = absurd (h (name-told e))
      go false e = refl

  pub name-none : r.priced ≡ 0 → r.place ≡ 0 → eqb r.book 0 ≡ is_named r
  name-none z p = sym (unnamed z ∙ rw (eq-eqb r.place 0 p))

  pub name-last : (r.priced ≡ 0 → ⊥) → 1 ≤ r.place → r.place ≤ most_fields → 1 ≤ r.book → leb r.book r.books ≡ is_named r
  name-last nz p q b = sym (placed nz ∙ rw (le-leb _ _ p, le-leb _ _ q, le-leb _ _ b))

  -- the account as the code tests it
  pub uncounted : counts_within r.refused (r.fields + r.books) ≡ false → false ≡ is_counted r
  unfolding is_counted
  uncounted e = rw e

  module _ (c : counts_within r.refused (r.fields + r.books) ≡ true) where
    pub counted-less : (total : ℕ) → total ≡ r.priced + counts_total r.refused → total < r.fields → false ≡ is_counted r
    unfolding is_counted
    counted-less total e h = rw (c, lt-leb r.fields (r.priced + counts_total r.refused) (omega arith))

    pub counted-last : (total : ℕ) → total ≡ r.priced + counts_total r.refused → r.fields ≤ total → leb total (r.fields + r.books) ≡ is_counted r
    unfolding is_counted
    counted-last total e h = rw (c, le-leb r.fields (r.priced + counts_total r.refused) (omega arith), e)

  -- a count is small, and so is the number of the dearest bond's book
  pub counts-small : Sound r → counts_within r.refused most_size ≡ true
  counts-small s =
      within-counts r.refused most_size
      (λ k l. omega (arith, counts-within r.refused (r.fields + r.books) k s.counts l, s.size))

  pub book-most : Sound r → r.book ≤ r.books
  book-most s =
      by_equal r.priced 0 (λ z. omega (arith, (s.named.none z).1)) (λ nz. (s.named.some nz).3)

-- small counts have a small total
pub total-most : (counts : List ℕ) → counts_within counts most_size ≡ true → counts_total counts ≤ most_number * most_size
unfolding counts_total
total-most counts h = sum-most most_number most_size (values counts) (λ k l. counts-within counts most_size k h l)

-- ---- the empty report

none-counted : counts_total (replicate most_number 0) ≤ 0
unfolding counts_total
none-counted = sum-most most_number 0 (values (replicate most_number 0)) (λ k l. omega (arith, zeros most_number k))

pub empty-sound : Sound empty_report
unfolding empty_report
empty-sound =
    record {
      size = omega arith;
      fields = omega arith;
      priced = omega arith;
      bonds = omega arith;
      options = omega arith;
      error-bounds = omega arith;
      dearest = omega arith;
      named = record { none = λ z. (refl, refl); some = λ nz. absurd (nz refl) };
      counts = within-counts _ _ (λ k l. omega (arith, zeros most_number k));
      least = omega arith;
      most = omega (arith, none-counted);
    }

-- ---- the dearest bond of a sum

module _ (a b : Report) where
  pub later-told : is_later a b ≡ true → (b.place ≡ 0 → ⊥)
  unfolding is_later
  later-told h z = let n : ◌≡◌ {A = ℕ} 0 1 = cc (rw (eq-eqb b.place 0 z) at h) in omega arith

  pub later_first : (b.place ≡ 0 → ⊥) → a.place ≡ 0 → is_later a b ≡ true
  unfolding is_later
  later_first nz z = rw (ne_eqb b.place 0 nz, eq-eqb a.place 0 z)

  pub later-none : b.place ≡ 0 → is_later a b ≡ false
  unfolding is_later
  later-none z = rw (eq-eqb b.place 0 z)

  -- as the code tests it
  pub later_second : b.place ≡ 0 → false ≡ is_later a b
  later_second z = sym (later-none z)

  pub later-only : (b.place ≡ 0 → ⊥) → a.place ≡ 0 → true ≡ is_later a b
  later-only nz z = sym (later_first nz z)

  pub later-dearer : (b.place ≡ 0 → ⊥) → (a.place ≡ 0 → ⊥) → ltb a.dearest b.dearest ≡ is_later a b
  unfolding is_later
  later-dearer nz na = rw (ne_eqb b.place 0 nz, ne_eqb a.place 0 na)

  pub sum-size : size_of (sum_report a b) ≡ size_of a + size_of b
  unfolding sum_report
  sum-size = omega arith

module _ (a b : Report) (sa : Sound a) (sb : Sound b) where
  place-priced : (b.place ≡ 0 → ⊥) → (b.priced ≡ 0 → ⊥)
  place-priced nz z = nz (sb.named.none z).0

  -- where the first report has the dearest bond and something is priced, the first has a priced one
  first-priced : is_later a b ≡ false → (a.priced + b.priced ≡ 0 → ⊥) → (a.priced ≡ 0 → ⊥)
  first-priced e nz z =
      let some : b.priced ≡ 0 → ⊥ = λ q. nz (omega arith) in
      let at = sb.named.some some in
      let t = later_first a b (λ q. omega arith) (sa.named.none z).0 in
      let n : ◌≡◌ {A = ℕ} 0 1 = cc in
      omega arith

  sum-named : Named (sum_report a b)
  unfolding sum_report
  sum-named =
      record {
        none =
            λ z. let e : b.priced ≡ 0 = omega arith in
            let f : a.priced ≡ 0 = omega arith in
            rw (later-none a b (sb.named.none e).0) (sa.named.none f);
        some = λ nz. go (is_later a b) refl nz;
      }
    where
      go : (t : Bool) → is_later a b ≡ t → (a.priced + b.priced ≡ 0 → ⊥) →
          (1 ≤ cond t b.place a.place) × (cond t b.place a.place ≤ most_fields) × (1 ≤ cond t (a.books + b.book) a.book)
          × (cond t (a.books + b.book) a.book ≤ a.books + b.books)
      go true e nz =
          let s = sb.named.some (place-priced (later-told a b e)) in
          (s.0, s.1, omega arith, omega arith)
      go false e nz =
          let s = sa.named.some (first-priced e nz) in
          (s.0, s.1, s.2, omega arith)

  total-sum : counts_total (row most_number (λ k. values a.refused k + values b.refused k)) ≡ counts_total a.refused + counts_total b.refused
  unfolding counts_total
  total-sum =
      sum-cong most_number _ _ (λ k l. values-row most_number k (λ j. values a.refused j + values b.refused j) l)
      ∙ sum-add most_number (values a.refused) (values b.refused)

  sum-dearest : (sum_report a b).dearest ≤ (sum_report a b).bonds
  unfolding sum_report
  sum-dearest = go (is_later a b)
    where
      go : (t : Bool) → cond t b.dearest a.dearest ≤ a.bonds + b.bonds
      go true = omega (arith, sb.dearest)
      go false = omega (arith, sa.dearest)

  sum-counts : counts_within (sum_report a b).refused ((sum_report a b).fields + (sum_report a b).books) ≡ true
  unfolding sum_report
  sum-counts =
      within-counts _ _
      (λ k l.
      omega (
        arith,
        values-row most_number k (λ j. values a.refused j + values b.refused j) l,
        counts-within a.refused (a.fields + a.books) k sa.counts l,
        counts-within b.refused (b.fields + b.books) k sb.counts l,
      ))

  sum_fields : (sum_report a b).fields ≤ (sum_report a b).books * most_fields
  unfolding sum_report
  sum_fields = omega (arith, sa.fields, sb.fields)

  sum-priced : (sum_report a b).priced ≤ (sum_report a b).fields
  unfolding sum_report
  sum-priced = omega (arith, sa.priced, sb.priced)

  sum-bonds : (sum_report a b).bonds ≤ (sum_report a b).priced * value_limit
  unfolding sum_report
  sum-bonds = omega (arith, sa.bonds, sb.bonds)

  sum-options : (sum_report a b).options ≤ (sum_report a b).priced * value_limit
  unfolding sum_report
  sum-options = omega (arith, sa.options, sb.options)

  sum-error-bounds : (sum_report a b).error_bounds ≤ (sum_report a b).priced * most_error_bound
  unfolding sum_report
  sum-error-bounds = omega (arith, sa.error-bounds, sb.error-bounds)

  sum-least : (sum_report a b).fields ≤ (sum_report a b).priced + counts_total (sum_report a b).refused
  unfolding sum_report
  sum-least = omega (arith, sa.least, sb.least, total-sum)

  sum-most-counts : (sum_report a b).priced + counts_total (sum_report a b).refused ≤ (sum_report a b).fields + (sum_report a b).books
  unfolding sum_report
  sum-most-counts = omega (arith, sa.most, sb.most, total-sum)

  -- THE SUM OF REPORTS IS ONE, where both are small enough
  pub sum-sound : size_of a + size_of b ≤ most_size → Sound (sum_report a b)
  sum-sound h =
      record {
        size = omega (arith, sum-size a b);
        fields = sum_fields;
        priced = sum-priced;
        bonds = sum-bonds;
        options = sum-options;
        error-bounds = sum-error-bounds;
        dearest = sum-dearest;
        named = sum-named;
        counts = sum-counts;
        least = sum-least;
        most = sum-most-counts;
      }
