-- Reports of files: each is a report, and joining them gives the totals over all fields of all files, however the files are split.
-- Assumes nothing.
use mathlib.Core.Path.{◌≡◌, refl, sym, ap, ◌∙◌}
use mathlib.Core.Bool.{Bool, true, false, not, cond, ◌&&◌, ◌||◌}
use mathlib.Core.List.{List, [], ◌∷◌, ◌++◌}
use mathlib.Core.Logic.{inl, inr}
use Prim.Native.Nat.{ℕ, zero, suc, ◌+◌, ◌*◌, ◌≤◌, ◌<◌}
use native.Mathlib.Omega.{arith}
use borrow.Author.Tests.{eq-eqb, ne_eqb, ltb-true, ltb-false}
use lib.Dec.{eqb, ltb}
use lib.ListN.{length, get_or, length-append}
use Rattle.arithmetic.specs.Row.{values}
use Rattle.arithmetic.specs.Sum.{sum, only}
use Rattle.arithmetic.proofs.Numbers.{by_order, by_equal}
use Rattle.arithmetic.proofs.RowLaws.{values-row, length-row, zeros}
use Rattle.arithmetic.proofs.SumLaws.{sum-cong, sum-add, sum-const, sum-only, only_same, only-other}
use Rattle.limits.specs.Limits.{value_limit}
use Rattle.book_laws.specs.Bounds.{job_prices, most_number, most_error_bound}
use Rattle.book_laws.specs.Books.{most_fields}
use Rattle.book_laws.specs.Files.{rest_of, file_book}
use Rattle.book_laws.specs.Totals.{number_of, bond_of, bound_of, option_price_of, count_of, sum_of, Dearest, Tally, broken_of}
use Rattle.book_laws.proofs.BoundLaws.{bounded}
use Rattle.book_laws.proofs.OpenLaws.{within-counts, option-most}
use Rattle.book_laws.proofs.TotalLaws.{count_most}
use Rattle.book_laws.proofs.TallyLaws.{file-tally, jobs-few}
use Rattle.report_laws.specs.declared.Report.{Report}
use Rattle.report_laws.specs.Reports.{empty_report, book_report, is_later, sum_report}
use Rattle.report_laws.specs.Joins.{size_of, most_size, counts_total, refused_join, given_join, joined_report}
use Rattle.report_laws.specs.FileReports.{file_report, files_report, file_jobs, all_jobs, files_size, broken_files, job_at, Priced, DearestOf, FilesTally}
use Rattle.report_laws.proofs.SumLaws.{Plain, sum-assoc, sum-empty-left}
use Rattle.report_laws.proofs.SoundLaws.{Named, Sound, sound-report, empty-sound, sum-size, sum-sound, later-told, later_first}
use Rattle.report_laws.proofs.JoinLaws.{join-given, too_many}

-- ---- counts and sums over jobs

-- a sum over the priced jobs is at most so much for each of them
priced-most : (f : List ℕ → ℕ) (m : ℕ) → ((job : List ℕ) → f job ≤ m) → (jobs : List (List ℕ)) → sum_of f jobs ≤ count_of 0 jobs * m
unfolding sum_of count_of
priced-most f m h [] = omega arith
priced-most f m h (job ∷ jobs) = go (eqb (number_of job) 0) (priced-most f m h jobs)
  where
    go : (t : Bool) → sum_of f jobs ≤ count_of 0 jobs * m → cond t (f job) 0 + sum_of f jobs ≤ (cond t 1 0 + count_of 0 jobs) * m
    go true p = let q = h job in omega arith
    go false p = let e : 0 + count_of 0 jobs ≡ count_of 0 jobs = omega arith in rw e (omega arith)

-- a priced job is in the sums, and counts
sum-has : (f : List ℕ → ℕ) (jobs : List (List ℕ)) (k : ℕ) → k < length jobs → number_of (get_or jobs k []) ≡ 0 → f (get_or jobs k []) ≤ sum_of f jobs
unfolding sum_of
sum-has f [] k h z = let no : ⊥ = omega arith in absurd no
sum-has f (job ∷ jobs) zero h z = rw (eq-eqb (number_of job) 0 z) (omega arith)
sum-has f (job ∷ jobs) (suc k) h z = omega (arith, sum-has f jobs k (omega arith) z)

count-has : (jobs : List (List ℕ)) (k : ℕ) → k < length jobs → number_of (get_or jobs k []) ≡ 0 → 1 ≤ count_of 0 jobs
unfolding count_of
count-has [] k h z = let no : ⊥ = omega arith in absurd no
count-has (job ∷ jobs) zero h z = rw (eq-eqb (number_of job) 0 z) (omega arith)
count-has (job ∷ jobs) (suc k) h z = omega (arith, count-has jobs k (omega arith) z)

count_none : (jobs : List (List ℕ)) → ((k : ℕ) → k < length jobs → number_of (get_or jobs k []) ≡ 0 → ⊥) → count_of 0 jobs ≡ 0
unfolding count_of
count_none [] h = refl
count_none (job ∷ jobs) h =
    rw (ne_eqb (number_of job) 0 (λ z. h 0 (omega arith) z)) (omega (arith, count_none jobs (λ k l z. h (suc k) (omega arith) z)))

count-append : (k : ℕ) (xs ys : List (List ℕ)) → count_of k (xs ++ ys) ≡ count_of k xs + count_of k ys
unfolding count_of
count-append k [] ys = omega arith
count-append k (job ∷ xs) ys = omega (arith, count-append k xs ys)

sum-append : (f : List ℕ → ℕ) (xs ys : List (List ℕ)) → sum_of f (xs ++ ys) ≡ sum_of f xs + sum_of f ys
unfolding sum_of
sum-append f [] ys = omega arith
sum-append f (job ∷ xs) ys = omega (arith, sum-append f xs ys)

-- ---- every job has one number

only_none : (m k : ℕ) → (m ≡ k → ⊥) → only m k 1 ≡ 0
only_none m k n = by_order m k (λ h. only-other m k 1 (inl (omega arith))) (λ h. only-other m k 1 (inr h))

number_same : (m k : ℕ) → cond (eqb (suc m) (suc k)) 1 0 ≡ only m k 1 * 1
number_same m k =
    by_equal m k
    (λ e. rw (eq-eqb (suc m) (suc k) (ap suc e), e) (omega (arith, only_same k 1)))
    (λ n. rw (ne_eqb (suc m) (suc k) (λ e. n (omega arith))) (omega (arith, only_none m k n)))

one_number : (n : ℕ) → n ≤ most_number → cond (eqb n 0) 1 0 + sum most_number (λ k. cond (eqb n (suc k)) 1 0) ≡ 1
one_number zero h =
    omega (arith, sum-cong most_number (λ k. cond (eqb 0 (suc k)) 1 0) (λ k. 0) (λ k l. rw (ne_eqb 0 (suc k) (λ e. omega arith))), sum-const most_number 0)
one_number (suc m) h =
    rw (ne_eqb (suc m) 0 (λ e. omega arith))
    (omega (
      arith,
      sum-cong most_number (λ k. cond (eqb (suc m) (suc k)) 1 0) (λ k. only m k 1 * 1) (λ k l. number_same m k),
      sum-only most_number m 1 (λ k. 1) (omega arith),
    ))

-- so the jobs are the priced ones and those of each number
jobs-counted : (jobs : List (List ℕ)) → count_of 0 jobs + sum most_number (λ k. count_of (suc k) jobs) ≡ length jobs
unfolding count_of
jobs-counted [] = omega (arith, sum-const most_number 0)
jobs-counted (job ∷ jobs) =
    omega (
      arith,
      one_number (number_of job) (bounded job).number,
      sum-add most_number (λ k. cond (eqb (number_of job) (suc k)) 1 0) (λ k. count_of (suc k) jobs),
      jobs-counted jobs,
    )

-- ---- the report of one file

module _ (file : List ℕ) where
  abbrev tally : Tally (file_jobs file) (broken_of file) (file_book file)
  tally = file-tally file

  abbrev known : Dearest (file_jobs file) (file_book file).dearest (file_book file).place
  known = tally.dearest

  broken-one : broken_of file ≤ 1
  unfolding broken_of
  broken-one = go (eqb (length (rest_of most_fields file)) 0)
    where
      go : (t : Bool) → cond t 0 1 ≤ 1
      go true = omega arith
      go false = omega arith

  count-within : (k : ℕ) → k < most_number → values (file_book file).refused k ≤ (file_book file).fields + 1
  count-within zero h = omega (arith, tally.malformed, count_most 1 (file_jobs file), tally.fields, broken-one)
  count-within (suc k) h = omega (arith, tally.refused (suc k) (omega arith) h, count_most (suc (suc k)) (file_jobs file), tally.fields)

  -- the refusals of its book are those of its fields, and one more where it is broken
  number-count : (k : ℕ) → k < most_number → values (file_book file).refused k ≡ count_of (suc k) (file_jobs file) + only 0 k (broken_of file) * 1
  number-count zero h = omega (arith, tally.malformed, only_same 0 (broken_of file))
  number-count (suc k) h = omega (arith, tally.refused (suc k) (omega arith) h, only-other 0 (suc k) (broken_of file) (inl (omega arith)))

  file-account : (file_book file).priced + counts_total (file_book file).refused ≡ (file_book file).fields + broken_of file
  unfolding counts_total
  file-account =
      omega (
        arith,
        sum-cong most_number (values (file_book file).refused) (λ k. count_of (suc k) (file_jobs file) + only 0 k (broken_of file) * 1) number-count,
        sum-add most_number (λ k. count_of (suc k) (file_jobs file)) (λ k. only 0 k (broken_of file) * 1),
        sum-only most_number 0 (broken_of file) (λ k. 1) (omega arith),
        jobs-counted (file_jobs file),
        tally.fields,
        tally.priced,
      )

  -- the dearest bond is one of them
  dearest-in : (file_book file).dearest ≤ (file_book file).bonds
  dearest-in = go (file_book file).place refl
    where
      go : (p : ℕ) → (file_book file).place ≡ p → (file_book file).dearest ≤ (file_book file).bonds
      go zero e = omega (arith, known.nothing e)
      go (suc j) e =
          let f = known.found j e in
          omega (arith, f.1, tally.bonds, sum-has bond_of (file_jobs file) j (omega (arith, known.within)) f.0)

  -- it has a place exactly where one is priced
  place_none : (file_book file).priced ≡ 0 → (file_book file).place ≡ 0
  place_none z = go (file_book file).place refl
    where
      go : (p : ℕ) → (file_book file).place ≡ p → p ≡ 0
      go zero e = refl
      go (suc j) e =
          let f = known.found j e in
          let no : ⊥ = omega (arith, tally.priced, count-has (file_jobs file) j (omega (arith, known.within)) f.0) in
          absurd no

  place-some : ((file_book file).priced ≡ 0 → ⊥) → ((file_book file).place ≡ 0 → ⊥)
  place-some nz z = nz (tally.priced ∙ count_none (file_jobs file) (known.none z))

  file-named : Named (file_report file)
  unfolding book_report
  file-named =
      record {
        none = λ z. let e = place_none z in (e, rw (eq-eqb (file_book file).place 0 e));
        some =
            λ nz. let p = place-some nz in
            rw (ne_eqb (file_book file).place 0 p)
            (omega arith, omega (arith, known.within, jobs-few most_fields file), omega arith, omega arith);
      }

  -- THE REPORT OF A FILE IS A REPORT
  pub file-sound : Sound (file_report file)
  unfolding book_report
  file-sound =
      record {
        size = omega (arith, tally.fields, jobs-few most_fields file);
        fields = omega (arith, tally.fields, jobs-few most_fields file);
        priced = omega (arith, tally.fields, tally.priced, count_most 0 (file_jobs file));
        bonds = omega (arith, tally.bonds, tally.priced, priced-most bond_of value_limit (λ job. (bounded job).bond) (file_jobs file));
        options =
            omega (
              arith,
              tally.options,
              tally.priced,
              priced-most option_price_of value_limit (λ job. option-most (job_prices job) (bounded job)) (file_jobs file),
            );
        error-bounds = omega (arith, tally.error-bounds, tally.priced, priced-most bound_of most_error_bound (λ job. (bounded job).bound) (file_jobs file));
        dearest = dearest-in;
        named = file-named;
        counts = within-counts _ _ count-within;
        least = omega (arith, file-account);
        most = omega (arith, file-account, broken-one);
      }

-- ---- the report of files

file-size : (file : List ℕ) → size_of (file_report file) ≡ 1 + length (file_jobs file)
unfolding book_report
file-size file = omega (arith, (tally file).fields)

pub files-size : (files : List (List ℕ)) → size_of (files_report files) ≡ files_size files
unfolding files_report empty_report all_jobs
files-size [] = refl
files-size (file ∷ files) =
    omega (
      arith,
      sum-size (file_report file) (files_report files),
      file-size file,
      files-size files,
      length-append (file_jobs file) (all_jobs files),
    )

-- a file adds its own size
files-more : (file : List ℕ) (files : List (List ℕ)) → files_size (file ∷ files) ≡ 1 + length (file_jobs file) + files_size files
unfolding all_jobs
files-more file files = omega (arith, length-append (file_jobs file) (all_jobs files))

pub files-sound : (files : List (List ℕ)) → files_size files ≤ most_size → Sound (files_report files)
unfolding files_report
files-sound [] h = empty-sound
files-sound (file ∷ files) h =
    let few : files_size files ≤ most_size = omega (arith, files-more file files) in
    sum-sound (file_report file) (files_report files) (file-sound file) (files-sound files few)
    (omega (arith, file-size file, files-size files, files-more file files))

-- ---- the dearest bond of a file and of those after it

-- what the test for a later bond tells
module _ (a b : Report) where
  later-higher : is_later a b ≡ true → (a.place ≡ 0 → ⊥) → a.dearest < b.dearest
  unfolding is_later
  later-higher h nz = go (eqb b.place 0) (ltb a.dearest b.dearest) refl (rw (ne_eqb a.place 0 nz) at h)
    where
      go : (s t : Bool) → ltb a.dearest b.dearest ≡ t → (not s && t) ≡ true → a.dearest < b.dearest
      go false true e g = ltb-true a.dearest b.dearest e
      go false false e g = let n : ◌≡◌ {A = ℕ} 0 1 = cc in absurd (omega arith)
      go true t e g = let n : ◌≡◌ {A = ℕ} 0 1 = cc in absurd (omega arith)

  earlier-higher : is_later a b ≡ false → (b.place ≡ 0 → ⊥) → b.dearest ≤ a.dearest
  unfolding is_later
  earlier-higher h nz = go (eqb a.place 0) (ltb a.dearest b.dearest) refl (rw (ne_eqb b.place 0 nz) at h)
    where
      go : (s t : Bool) → ltb a.dearest b.dearest ≡ t → (s || t) ≡ false → b.dearest ≤ a.dearest
      go false false e g = ltb-false a.dearest b.dearest e
      go false true e g = let n : ◌≡◌ {A = ℕ} 0 1 = cc in absurd (omega arith)
      go true t e g = let n : ◌≡◌ {A = ℕ} 0 1 = cc in absurd (omega arith)

  earlier-none : is_later a b ≡ false → a.place ≡ 0 → b.place ≡ 0
  earlier-none h z =
      by_equal b.place 0 (λ e. e) (λ nz. let t = later_first a b nz z in let n : ◌≡◌ {A = ℕ} 0 1 = cc in absurd (omega arith))

module _ (file : List ℕ) (files : List (List ℕ)) where
  first-priced : (i : ℕ) → Priced (file ∷ files) 0 i → (i < length (file_jobs file)) × (number_of (get_or (file_jobs file) i []) ≡ 0)
  first-priced i p = (p.field, p.number)

  later-priced : (j i : ℕ) → Priced (file ∷ files) (suc j) i → Priced files j i
  later-priced j i p = record { file = omega (arith, p.file); field = p.field; number = p.number }

  priced-later : (j i : ℕ) → Priced files j i → Priced (file ∷ files) (suc j) i
  priced-later j i p = record { file = omega (arith, p.file); field = p.field; number = p.number }

-- field i of file j, by whether it is of the first file
by-file : (P : ℕ → ℕ → Type 0) → ((i : ℕ) → P 0 i) → ((j i : ℕ) → P (suc j) i) → (j i : ℕ) → P j i
by-file P first rest zero i = first i
by-file P first rest (suc j) i = rest j i

module _ (file : List ℕ) (files : List (List ℕ)) (b : Report) (d : DearestOf files b.dearest b.book b.place) where
  abbrev all : List (List ℕ)
  all = file ∷ files

  -- where a later bond is dearer, it is dearer than every one of the first file
  first_below : is_later (file_report file) b ≡ true → (i : ℕ) → Priced all 0 i → bond_of (job_at all 0 i) < b.dearest
  unfolding book_report
  first_below e i p =
      let some : (file_book file).place ≡ 0 → ⊥ = λ z. (known file).none z i p.field p.number in
      omega (arith, (known file).greatest i p.field p.number, later-higher (file_report file) b e some)

  -- and else no later one is dearer
  rest_below : is_later (file_report file) b ≡ false → (j i : ℕ) → Priced all (suc j) i → bond_of (job_at files j i) ≤ (file_report file).dearest
  rest_below e j i p =
      let q = later-priced file files j i p in
      omega (arith, d.greatest j i q, earlier-higher (file_report file) b e (λ z. d.none z j i q))

  dearest-later : is_later (file_report file) b ≡ true → DearestOf all b.dearest (1 + b.book) b.place
  dearest-later e =
      record {
        nothing = λ z. absurd (later-told (file_report file) b e z);
        none = λ z j i p. later-told (file_report file) b e z;
        found =
            λ i q. let (j, eb, p, same) = d.found i q in
            (suc j, omega arith, priced-later file files j i p, same);
        greatest =
            by-file (λ j i. Priced all j i → bond_of (job_at all j i) ≤ b.dearest) (λ i p. let l = first_below e i p in omega arith)
            (λ j i p. d.greatest j i (later-priced file files j i p));
        first-book =
            by-file (λ j i. Priced all j i → suc j < 1 + b.book → bond_of (job_at all j i) < b.dearest) (λ i p l. first_below e i p)
            (λ j i p l. d.first-book j i (later-priced file files j i p) (omega arith));
        first_field =
            by-file (λ j i. Priced all j i → suc j ≡ 1 + b.book → suc i < b.place → bond_of (job_at all j i) < b.dearest)
            (λ i p q l. first_below e i p) (λ j i p q l. d.first_field j i (later-priced file files j i p) (omega arith) l);
      }

  -- the first file has the number 1
  book-none : (file_book file).place ≡ 0 → (file_report file).book ≡ 0
  unfolding book_report
  book-none z = rw (eq-eqb (file_book file).place 0 z)

  book-one : ((file_book file).place ≡ 0 → ⊥) → (file_report file).book ≡ 1
  unfolding book_report
  book-one nz = rw (ne_eqb (file_book file).place 0 nz)

  first-book-most : (file_report file).book ≤ 1
  first-book-most = by_equal (file_book file).place 0 (λ z. omega (arith, book-none z)) (λ nz. omega (arith, book-one nz))

  dearest-earlier : is_later (file_report file) b ≡ false → DearestOf all (file_report file).dearest (file_report file).book (file_report file).place
  unfolding book_report
  dearest-earlier e =
      record {
        nothing = λ z. ((known file).nothing z, book-none z);
        none =
            λ z.
            by-file (λ j i. Priced all j i → ⊥) (λ i p. (known file).none z i p.field p.number)
            (λ j i p. d.none (earlier-none (file_report file) b e z) j i (later-priced file files j i p));
        found =
            λ i q. let f = (known file).found i q in
            let inside : i < length (file_jobs file) = omega (arith, (known file).within) in
            (0, book-one (λ z. omega arith), record { file = omega arith; field = inside; number = f.0 }, f.1);
        greatest =
            by-file (λ j i. Priced all j i → bond_of (job_at all j i) ≤ (file_book file).dearest) (λ i p. (known file).greatest i p.field p.number)
            (rest_below e);
        first-book = λ j i p l. let no : ⊥ = omega (arith, first-book-most) in absurd no;
        first_field =
            by-file (λ j i. Priced all j i → suc j ≡ (file_report file).book → suc i < (file_book file).place → bond_of (job_at all j i) < (file_book file).dearest)
            (λ i p q l. (known file).first i l p.number) (λ j i p q l. let no : ⊥ = omega (arith, first-book-most) in absurd no);
      }

  sum-dearest-of :
      DearestOf all (sum_report (file_report file) b).dearest (sum_report (file_report file) b).book (sum_report (file_report file) b).place
  unfolding sum_report book_report
  sum-dearest-of = go (is_later (file_report file) b) refl
    where
      go : (t : Bool) → is_later (file_report file) b ≡ t →
          DearestOf all (cond t b.dearest (file_report file).dearest) (cond t (1 + b.book) (file_report file).book)
          (cond t b.place (file_report file).place)
      go true e = dearest-later e
      go false e = dearest-earlier e

-- ---- the totals

none-tallied : FilesTally [] empty_report
unfolding empty_report all_jobs broken_files count_of sum_of
none-tallied =
    record {
      books = refl;
      fields = refl;
      priced = refl;
      size = refl;
      malformed = refl;
      refused = λ k l u. zeros most_number k;
      bonds = refl;
      options = refl;
      error-bounds = refl;
      dearest =
          record {
            nothing = λ z. (refl, refl);
            none = λ z j i p. let l = p.file in omega arith;
            found = λ i e. let no : ⊥ = omega arith in absurd no;
            greatest = λ j i p. let l = p.file in let no : ⊥ = omega arith in absurd no;
            first-book = λ j i p. let l = p.file in let no : ⊥ = omega arith in absurd no;
            first_field = λ j i p. let l = p.file in let no : ⊥ = omega arith in absurd no;
          };
    }

module _ (file : List ℕ) (files : List (List ℕ)) (b : Report) (t : FilesTally files b) where
  abbrev both : Report
  both = sum_report (file_report file) b

  counts-sum : (k : ℕ) → k < most_number → values both.refused k ≡ values (file_book file).refused k + values b.refused k
  unfolding sum_report book_report
  counts-sum k l = values-row most_number k (λ j. values (file_book file).refused j + values b.refused j) l

  counts-size : length both.refused ≡ most_number
  unfolding sum_report
  counts-size = length-row most_number _

  one_more : FilesTally (file ∷ files) both
  unfolding sum_report book_report all_jobs broken_files
  one_more =
      record {
        books = omega (arith, t.books);
        fields = omega (arith, length-append (file_jobs file) (all_jobs files), (tally file).fields, t.fields);
        priced = omega (arith, count-append 0 (file_jobs file) (all_jobs files), (tally file).priced, t.priced);
        size = counts-size;
        malformed =
            omega (arith, counts-sum 0 (omega arith), count-append 1 (file_jobs file) (all_jobs files), (tally file).malformed, t.malformed);
        refused =
            λ k l u.
            omega (arith, counts-sum k u, count-append (suc k) (file_jobs file) (all_jobs files), (tally file).refused k l u, t.refused k l u);
        bonds = omega (arith, sum-append bond_of (file_jobs file) (all_jobs files), (tally file).bonds, t.bonds);
        options = omega (arith, sum-append option_price_of (file_jobs file) (all_jobs files), (tally file).options, t.options);
        error-bounds = omega (arith, sum-append bound_of (file_jobs file) (all_jobs files), (tally file).error-bounds, t.error-bounds);
        dearest = sum-dearest-of file files b t.dearest;
      }

-- THE REPORT OF FILES HOLDS THE TOTALS OVER ALL THEIR FIELDS, and the first of the dearest bonds
pub files-tally : (files : List (List ℕ)) → FilesTally files (files_report files)
unfolding files_report
files-tally [] = none-tallied
files-tally (file ∷ files) = one_more file files (files_report files) (files-tally files)

-- ---- files split anyhow

files-plain : (files : List (List ℕ)) → Plain (files_report files)
files-plain files =
    let t = files-tally files in
    record { size = t.size; dearest = λ z. (t.dearest.nothing z).0; book = λ z. (t.dearest.nothing z).1 }

-- one file alone
pub file-plain : (file : List ℕ) → Plain (file_report file)
unfolding book_report
file-plain file =
    record { size = (tally file).size; dearest = (known file).nothing; book = λ z. rw (eq-eqb (file_book file).place 0 z) }

pub files-split : (front rest : List (List ℕ)) → files_report (front ++ rest) ≡ sum_report (files_report front) (files_report rest)
unfolding files_report
files-split [] rest = sym (sum-empty-left (files_report rest) (files-plain rest))
files-split (file ∷ front) rest =
    ap (sum_report (file_report file)) (files-split front rest) ∙ sym (sum-assoc (file_report file) (files_report front) (files_report rest))

module _ (front rest : List (List ℕ)) (first-few : files_size front ≤ most_size) (rest-few : files_size rest ≤ most_size) where
  -- JOINING THE REPORTS OF FILES GIVES THE REPORT OF ALL OF THEM, where they are few enough
  pub files-joined : files_size front + files_size rest ≤ most_size →
      joined_report (files_report front) (files_report rest) ≡ given_join (files_report (front ++ rest))
  files-joined h =
      sym (join-given (files_report front) (files_report rest) (sound-report _ (files-sound front first-few)) (sound-report _ (files-sound rest rest-few))
      (omega (arith, files-size front, files-size rest)))
      ∙ ap given_join (sym (files-split front rest))

  -- and is refused only where they are too many
  pub files-refused : most_size < files_size front + files_size rest → joined_report (files_report front) (files_report rest) ≡ refused_join 12
  files-refused h =
      sym (too_many (files_report front) (files_report rest) (sound-report _ (files-sound front first-few)) (sound-report _ (files-sound rest rest-few))
      (omega (arith, files-size front, files-size rest)))
