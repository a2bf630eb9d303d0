-- A book to which the jobs were added one by one holds their counts and sums and the first of the dearest bonds; so does a file's.
-- Assumes nothing.
use mathlib.Core.Path.{◌≡◌, refl, sym, ap, ◌∙◌, subst}
use mathlib.Core.Bool.{Bool, true, false, cond, ◌&&◌, ◌||◌}
use mathlib.Core.List.{List, [], ◌∷◌, ◌++◌, append_assoc, append-nil}
use mathlib.Core.Logic.{⊎_elim}
use Prim.Native.Nat.{ℕ, zero, suc, ◌+◌, ◌-◌, ◌≤◌, ◌<◌}
use native.Mathlib.Nat.{eq-or-lt_of_le}
use native.Mathlib.Decide.{ℕ_discrete}
use native.Mathlib.Omega.{arith}
use borrow.Author.Tests.{eq-eqb, ne_eqb, eqb-false, ltb-true, ltb-false}
use lib.Dec.{eqb, ltb}
use lib.ListN.{length, get_or, length-append, length-set, get_or-append}
use lib.Seq.{get_or-set_same, get_or-set_other, get_or-append_seam}
use Rattle.arithmetic.specs.Row.{values}
use Rattle.arithmetic.proofs.RowLaws.{zeros}
use Rattle.limits.specs.Limits.{value_limit}
use Rattle.book_laws.specs.Bounds.{job_prices, most_number, most_error_bound}
use Rattle.book_laws.proofs.BoundLaws.{bounded}
use Rattle.book_laws.specs.declared.Book.{Book}
use Rattle.book_laws.specs.Books.{most_fields, empty_book, is_open, counted, is_dearer, with_priced}
use Rattle.book_laws.specs.Books.{with_refused, with_prices, with_field, with_fields, ended_book, broken_book, closed_book}
use Rattle.book_laws.specs.Files.{jobs_of, rest_of, starts_whole, first_job, after_first, file_book}
use Rattle.book_laws.specs.Totals.{number_of, bond_of, bound_of, option_price_of, count_of, sum_of, Dearest, Tally, broken_of}
use Rattle.book_laws.proofs.OpenLaws.{within-open, within-counts, option-most, field-added, prices-refused, prices-priced, broken-ends}
use Rattle.book_laws.proofs.TotalLaws.{sum-last, sum-most, count-last, count_most}

-- ---- a book that holds at most 500 jobs is open

module _ (jobs : List (List ℕ)) (b : Book) (t : Tally jobs 0 b) where
  count-within : (k : ℕ) → k < most_number → values b.refused k ≤ b.fields
  count-within zero h = omega (arith, t.malformed, count_most 1 jobs, t.fields)
  count-within (suc k) h = omega (arith, t.refused (suc k) (omega arith) h, count_most (suc (suc k)) jobs, t.fields)

  pub tally-open : b.ended ≡ false → length jobs ≤ most_fields → is_open b ≡ true
  tally-open e h =
      within-open b
      (record {
        ended = e;
        fields = omega (arith, t.fields);
        priced = omega (arith, t.fields, t.priced, count_most 0 jobs);
        bonds = omega (arith, t.fields, t.bonds, sum-most bond_of value_limit (λ job. (bounded job).bond) jobs);
        options = omega (arith, t.fields, t.options, sum-most option_price_of value_limit (λ job. option-most (job_prices job) (bounded job)) jobs);
        error-bounds = omega (arith, t.fields, t.error-bounds, sum-most bound_of most_error_bound (λ job. (bounded job).bound) jobs);
        place = omega (arith, t.fields, t.dearest.within);
        counts = within-counts b.refused b.fields count-within;
      })

-- ---- one more job

counted-there : (counts : List ℕ) (k : ℕ) → k < length counts → values (counted counts (suc k)) k ≡ values counts k + 1
unfolding counted
counted-there counts k h = let e : suc k - 1 ≡ k = omega arith in rw e (get_or-set_same counts k (values counts k + 1) 0 h)

counted-other : (counts : List ℕ) (number k : ℕ) → (k ≡ number - 1 → ⊥) → values (counted counts number) k ≡ values counts k
unfolding counted
counted-other counts number k h = get_or-set_other counts (number - 1) k (values counts (number - 1) + 1) 0 h

counted-size : (counts : List ℕ) (number : ℕ) → length (counted counts number) ≡ length counts
unfolding counted
counted-size counts number = length-set counts (number - 1) (values counts (number - 1) + 1)

module _ (jobs : List (List ℕ)) (job : List ℕ) where
  -- what stands at each place afterwards
  before : (k : ℕ) → k < length jobs → get_or (jobs ++ (job ∷ [])) k [] ≡ get_or jobs k []
  before k h = get_or-append jobs (job ∷ []) [] k h

  last : get_or (jobs ++ (job ∷ [])) (length jobs) [] ≡ job
  last = get_or-append_seam jobs job [] []

  length_last : length (jobs ++ (job ∷ [])) ≡ length jobs + 1
  length_last = simp length-append

  -- the figures of a job that has, or has not, the number
  counts-one : (k : ℕ) → number_of job ≡ k → count_of k (jobs ++ (job ∷ [])) ≡ count_of k jobs + 1
  counts-one k e = count-last k jobs job ∙ rw (eq-eqb (number_of job) k e)

  counts-none : (k : ℕ) → (number_of job ≡ k → ⊥) → count_of k (jobs ++ (job ∷ [])) ≡ count_of k jobs
  counts-none k e = count-last k jobs job ∙ rw (ne_eqb (number_of job) k e) (omega arith)

  sums-one : (f : List ℕ → ℕ) → number_of job ≡ 0 → sum_of f (jobs ++ (job ∷ [])) ≡ sum_of f jobs + f job
  sums-one f e = sum-last f jobs job ∙ rw (eq-eqb (number_of job) 0 e)

  sums_none : (f : List ℕ → ℕ) → (number_of job ≡ 0 → ⊥) → sum_of f (jobs ++ (job ∷ [])) ≡ sum_of f jobs
  sums_none f e = sum-last f jobs job ∙ rw (ne_eqb (number_of job) 0 e) (omega arith)

  -- a fact of each place, from those before and from the last
  by_place : (P : List ℕ → Type 0) (k : ℕ) → k < length (jobs ++ (job ∷ [])) → (k < length jobs → P (get_or jobs k [])) → (k ≡ length jobs → P job) →
      P (get_or (jobs ++ (job ∷ [])) k [])
  by_place P k h below end =
      ⊎_elim (λ (e : k ≡ length jobs). subst P (sym (ap (λ (i : ℕ). get_or (jobs ++ (job ∷ [])) i []) e ∙ last)) (end e))
      (λ (l : k < length jobs). subst P (sym (before k l)) (below l)) (eq-or-lt_of_le {n = k} {m = length jobs} (omega (arith, length_last)))

  -- a job that is refused or no dearer leaves the dearest
  dearest-kept : (price place : ℕ) → Dearest jobs price place → (number_of job ≡ 0 → (0 < place) × (bond_of job ≤ price)) →
      Dearest (jobs ++ (job ∷ [])) price place
  dearest-kept price place d h = record {
    within = omega (arith, length_last, d.within);
    nothing = d.nothing;
    none = λ z k l. by_place (λ x. number_of x ≡ 0 → ⊥) k l (λ b. d.none z k b) (λ e p. let q = (h p).0 in let no : ⊥ = omega arith in no);
    found = λ j e. let l : j < length jobs = omega (arith, d.within) in
        subst (λ (x : List ℕ). (number_of x ≡ 0) × (bond_of x ≡ price)) (sym (before j l)) (d.found j e);
    greatest = λ k l. by_place (λ x. number_of x ≡ 0 → bond_of x ≤ price) k l (λ b. d.greatest k b) (λ e p. (h p).1);
    first = λ k l. let b : k < length jobs = omega (arith, d.within) in
        subst (λ (x : List ℕ). number_of x ≡ 0 → bond_of x < price) (sym (before k b)) (d.first k l);
  }

  -- a job that is dearer than all before it
  dearest-new : number_of job ≡ 0 → ((k : ℕ) → k < length jobs → number_of (get_or jobs k []) ≡ 0 → bond_of (get_or jobs k []) < bond_of job) →
      Dearest (jobs ++ (job ∷ [])) (bond_of job) (length jobs + 1)
  dearest-new z beats = record {
    within = omega (arith, length_last);
    nothing = λ e. let no : ⊥ = omega arith in absurd no;
    none = λ e k l p. omega arith;
    found = λ j e. let q : j ≡ length jobs = omega arith in
        subst (λ (x : List ℕ). (number_of x ≡ 0) × (bond_of x ≡ bond_of job)) (sym (ap (λ (i : ℕ). get_or (jobs ++ (job ∷ [])) i []) q ∙ last)) (z, refl);
    greatest = λ k l. by_place (λ x. number_of x ≡ 0 → bond_of x ≤ bond_of job) k l (λ b p. let q = beats k b p in omega arith) (λ e p. omega arith);
    first = λ k l. let b : k < length jobs = omega arith in subst (λ (x : List ℕ). number_of x ≡ 0 → bond_of x < bond_of job) (sym (before k b)) (beats k b);
  }

-- what the test for a dearer bond tells
module _ (b : Book) (bond : ℕ) where
  pub dearer-told : is_dearer b bond ≡ true → (b.place ≡ 0 → ⊥) → b.dearest < bond
  unfolding is_dearer
  dearer-told h n = ltb-true b.dearest bond (rw (ne_eqb b.place 0 n) at h)

  pub cheaper-told : is_dearer b bond ≡ false → (0 < b.place) × (bond ≤ b.dearest)
  unfolding is_dearer
  cheaper-told h = go (eqb b.place 0) (ltb b.dearest bond) refl refl h
    where
      go : (s t : Bool) → eqb b.place 0 ≡ s → ltb b.dearest bond ≡ t → (s || t) ≡ false → (0 < b.place) × (bond ≤ b.dearest)
      go false false e l g = let n = eqb-false b.place 0 e in (omega arith, ltb-false b.dearest bond l)
      go false true e l g = let z : ◌≡◌ {A = ℕ} 0 1 = cc in let none : ⊥ = omega arith in absurd none
      go true t e l g = let z : ◌≡◌ {A = ℕ} 0 1 = cc in let none : ⊥ = omega arith in absurd none

module _ (jobs : List (List ℕ)) (job : List ℕ) (b : Book) (t : Tally jobs 0 b) where
  beats : is_dearer b (bond_of job) ≡ true → (k : ℕ) → k < length jobs → number_of (get_or jobs k []) ≡ 0 → bond_of (get_or jobs k []) < bond_of job
  beats d k l p =
      let some : b.place ≡ 0 → ⊥ = λ z. t.dearest.none z k l p in
      omega (arith, t.dearest.greatest k l p, dearer-told b (bond_of job) d some)

  dearest-priced : number_of job ≡ 0 → Dearest (jobs ++ (job ∷ [])) (with_priced b (job_prices job)).dearest (with_priced b (job_prices job)).place
  unfolding with_priced
  dearest-priced z = go (is_dearer b (bond_of job)) refl
    where
      go : (s : Bool) → is_dearer b (bond_of job) ≡ s → Dearest (jobs ++ (job ∷ [])) (cond s (bond_of job) b.dearest) (cond s (b.fields + 1) b.place)
      go true e = rw t.fields (dearest-new jobs job z (beats e))
      go false e = dearest-kept jobs job b.dearest b.place t.dearest (λ p. cheaper-told b (bond_of job) e)

  priced-more : number_of job ≡ 0 → Tally (jobs ++ (job ∷ [])) 0 (with_priced b (job_prices job))
  unfolding with_priced
  priced-more z = record {
    fields = omega (arith, t.fields, length_last jobs job);
    priced = omega (arith, t.priced, counts-one jobs job 0 z);
    size = t.size;
    malformed = omega (arith, t.malformed, counts-none jobs job 1 (λ e. omega arith));
    refused = λ k l u. omega (arith, t.refused k l u, counts-none jobs job (suc k) (λ e. omega arith));
    bonds = omega (arith, t.bonds, sums-one jobs job bond_of z);
    options = omega (arith, t.options, sums-one jobs job option_price_of z);
    error-bounds = omega (arith, t.error-bounds, sums-one jobs job bound_of z);
    dearest = dearest-priced z;
  }

  -- a count of a refused job's number, and every other
  count-more : (n k : ℕ) → number_of job ≡ suc n → k < most_number → values b.refused k ≡ count_of (suc k) jobs →
      values (counted b.refused (suc n)) k ≡ count_of (suc k) (jobs ++ (job ∷ []))
  count-more n k e l h = go (ℕ_discrete k n)
    where
      go : Dec (k ≡ n) → values (counted b.refused (suc n)) k ≡ count_of (suc k) (jobs ++ (job ∷ []))
      go (yes q) =
          ap (λ (i : ℕ). values (counted b.refused (suc i)) k) (sym q) ∙ counted-there b.refused k (omega (arith, t.size)) ∙ ap (λ (x : ℕ). x + 1) h
          ∙ sym (counts-one jobs job (suc k) (omega arith))
      go (no q) = counted-other b.refused (suc n) k (λ g. q (omega arith)) ∙ h ∙ sym (counts-none jobs job (suc k) (λ g. q (omega arith)))

  refused-more : (n : ℕ) → number_of job ≡ suc n → Tally (jobs ++ (job ∷ [])) 0 (with_refused b (number_of job))
  unfolding with_refused
  refused-more n e = record {
    fields = omega (arith, t.fields, length_last jobs job);
    priced = omega (arith, t.priced, counts-none jobs job 0 (λ z. omega arith));
    size = counted-size b.refused (number_of job) ∙ t.size;
    malformed = rw e (count-more n 0 e (omega arith) (omega (arith, t.malformed)) ∙ omega arith);
    refused = λ k l u. rw e (count-more n k e u (t.refused k l u));
    bonds = omega (arith, t.bonds, sums_none jobs job bond_of (λ z. omega arith));
    options = omega (arith, t.options, sums_none jobs job option_price_of (λ z. omega arith));
    error-bounds = omega (arith, t.error-bounds, sums_none jobs job bound_of (λ z. omega arith));
    dearest = dearest-kept jobs job b.dearest b.place t.dearest (λ z. let none : ⊥ = omega arith in absurd none);
  }

  prices-more : Tally (jobs ++ (job ∷ [])) 0 (with_prices b (job_prices job))
  prices-more = go (number_of job) refl
    where
      go : (n : ℕ) → number_of job ≡ n → Tally (jobs ++ (job ∷ [])) 0 (with_prices b (job_prices job))
      go zero e = subst (Tally (jobs ++ (job ∷ [])) 0) (prices-priced b (job_prices job) e) (priced-more e)
      go (suc n) e = subst (Tally (jobs ++ (job ∷ [])) 0) (prices-refused b (job_prices job) (λ z. omega arith)) (refused-more n e)

  pub tally-more : b.ended ≡ false → length jobs < most_fields → Tally (jobs ++ (job ∷ [])) 0 (with_field b job)
  tally-more e h = subst (Tally (jobs ++ (job ∷ [])) 0) (sym (field-added b job (tally-open jobs b t e (omega arith)) (omega (arith, t.fields)))) prices-more

-- ---- all jobs one by one

pub none_yet : Tally [] 0 empty_book
unfolding empty_book count_of sum_of
none_yet = record {
  fields = refl;
  priced = refl;
  size = refl;
  malformed = refl;
  refused = λ k l u. zeros most_number k;
  bonds = refl;
  options = refl;
  error-bounds = refl;
  dearest = record {
    within = omega arith;
    nothing = λ z. refl;
    none = λ z k l p. omega arith;
    found = λ j e. let no : ⊥ = omega arith in absurd no;
    greatest = λ k l p. let no : ⊥ = omega arith in absurd no;
    first = λ k l p. let no : ⊥ = omega arith in absurd no;
  };
}

pub field-ended : (b : Book) (job : List ℕ) → (with_field b job).ended ≡ b.ended
unfolding with_field with_prices with_priced with_refused
field-ended b job = go (is_open b && ltb b.fields most_fields) (eqb (number_of job) 0)
  where
    go : (s t : Bool) → (cond s (cond t (with_priced b (job_prices job)) (with_refused b (number_of job))) b).ended ≡ b.ended
    go true true = refl
    go true false = refl
    go false t = refl

module _ (P : List (List ℕ) → Book → Type 0) (step : (jobs : List (List ℕ)) (job : List ℕ) (b : Book) → P jobs b → length jobs < most_fields →
    P (jobs ++ (job ∷ [])) (with_field b job)) where
  -- what each field keeps holds of all
  one_by_one : (jobs done : List (List ℕ)) (b : Book) → P done b → length done + length jobs ≤ most_fields → P (done ++ jobs) (with_fields b jobs)
  unfolding with_fields
  one_by_one [] done b p h = subst (λ (l : List (List ℕ)). P l b) (sym (append-nil done)) p
  one_by_one (job ∷ jobs) done b p h =
      subst (λ (l : List (List ℕ)). P l (with_fields (with_field b job) jobs)) (append_assoc done (job ∷ []) jobs)
      (one_by_one jobs (done ++ (job ∷ [])) (with_field b job) (step done job b p (omega arith)) (simp length-append (omega arith)))

pub record Open (jobs : List (List ℕ)) (b : Book) : Type 0 where
  pub tally : Tally jobs 0 b
  pub ended : b.ended ≡ false

pub fields-tally : (jobs : List (List ℕ)) → length jobs ≤ most_fields → Open jobs (with_fields empty_book jobs)
unfolding empty_book
fields-tally jobs h =
    one_by_one Open (λ done job b p l. record { tally = tally-more done job b p.tally p.ended l; ended = field-ended b job ∙ p.ended })
    jobs [] empty_book (record { tally = none_yet; ended = refl }) (omega arith)

-- ---- a whole file

pub jobs-few : (most : ℕ) (file : List ℕ) → length (jobs_of most file) ≤ most
unfolding jobs_of
jobs-few zero file = omega arith
jobs-few (suc most) file = go (starts_whole file) (jobs-few most (after_first file))
  where
    go : (t : Bool) → length (jobs_of most (after_first file)) ≤ most → length (cond t (first_job file ∷ jobs_of most (after_first file)) []) ≤ suc most
    go true h = omega arith
    go false h = omega arith

ended-tally : (jobs : List (List ℕ)) (b : Book) → Tally jobs 0 b → Tally jobs 1 (ended_book b)
unfolding ended_book
ended-tally jobs b t = record {
  fields = t.fields;
  priced = t.priced;
  size = counted-size b.refused 1 ∙ t.size;
  malformed = counted-there b.refused 0 (omega (arith, t.size)) ∙ omega (arith, t.malformed);
  refused = λ k l u. counted-other b.refused 1 k (λ e. omega arith) ∙ t.refused k l u;
  bonds = t.bonds;
  options = t.options;
  error-bounds = t.error-bounds;
  dearest = t.dearest;
}

closed-tally : (jobs : List (List ℕ)) (b : Book) (left : ℕ) → Open jobs b → length jobs ≤ most_fields → Tally jobs (cond (eqb left 0) 0 1) (closed_book b left)
unfolding closed_book
closed-tally jobs b left p h = go (eqb left 0)
  where
    go : (t : Bool) → Tally jobs (cond t 0 1) (cond t b (broken_book b))
    go true = p.tally
    go false = subst (Tally jobs 1) (broken-ends b (tally-open jobs b p.tally p.ended h)) (ended-tally jobs b p.tally)

-- THE BOOK OF A FILE: counts and sums over its jobs, the first of the dearest bonds, and one more under 1 where it is broken
pub file-tally : (file : List ℕ) → Tally (jobs_of most_fields file) (broken_of file) (file_book file)
unfolding file_book broken_of
file-tally file =
    closed-tally (jobs_of most_fields file) (with_fields empty_book (jobs_of most_fields file)) (length (rest_of most_fields file))
    (fields-tally (jobs_of most_fields file) (jobs-few most_fields file)) (jobs-few most_fields file)
