-- Every book keeps its promises: its lines say what its file holds, and demand 3 of each priced job, summed.
-- Assumes nothing.
use mathlib.Core.Path.{◌≡◌, refl, sym, ap, subst, ◌∙◌}
use mathlib.Core.Bool.{Bool, true, false, cond}
use mathlib.Core.List.{List, [], ◌∷◌, ◌++◌, append_assoc, append-nil}
use Prim.Native.Nat.{ℕ, zero, suc, ◌+◌, ◌-◌, ◌^◌, ◌≤◌, ◌<◌}
use native.Mathlib.Omega.{arith}
use borrow.Author.Tests.{eq-eqb, ne_eqb, lt-ltb, le-ltb}
use lib.Dec.{eqb}
use lib.ListN.{length, get_or, take}
use lib.Seq.{drop-length}
use Rattle.arithmetic.specs.Answers.{lowest_cause}
use Rattle.arithmetic.specs.Row.{values}
use Rattle.arithmetic.specs.Within.{Within}
use Rattle.arithmetic.proofs.Numbers.{by_equal}
use Rattle.limits.specs.Limits.{most_steps, most_discounts, most_state_prices}
use Rattle.tree.specs.Tree.{unit}
use Rattle.price_laws.specs.declared.Price.{Price}
use Rattle.job_record.specs.Reader.{reading_of}
use Rattle.job_laws.specs.declared.JobPrices.{JobPrices}
use Rattle.job_laws.specs.JobPrices.{record_number, bytes_number, bytes_prices, job_bond}
use Rattle.job_laws.proofs.Accepted.{AcceptedRecord, bytes-accepted}
use Rattle.job_laws.proofs.PriceLaws.{prices-given, prices-number}
use Rattle.promises.proofs.Kept.{on-tree-kept}
use Rattle.text_laws.specs.Decimal.{decimal}
use Rattle.text_laws.specs.Lines.{refused_word}
use Rattle.text_laws.specs.Put.{put_before}
use Rattle.text_laws.specs.WordLines.{whole_line, pair_line, amount_line}
use Rattle.sheet_room.specs.Room.{sheet_room}
use Rattle.sheet_laws.specs.WholeJob.{room_cause, job_number, sheet_number}
use Rattle.book_laws.specs.declared.Book.{Book}
use Rattle.book_laws.specs.Bounds.{job_prices}
use Rattle.book_laws.specs.Books.{most_fields, is_open, with_field, broken_book}
use Rattle.book_laws.specs.Files.{starts_whole, jobs_of, rest_of, file_book, field_of, file_of}
use Rattle.book_laws.specs.Report.{lines_from, refusals_line, sum_lines, book_lines, book_room, lines_answer, lines_memory}
use Rattle.book_laws.specs.Totals.{number_of, bond_of, bound_of, count_of, sum_of, Dearest, Tally, broken_of}
use Rattle.book_laws.proofs.BoundLaws.{bond-tree, bounded}
use Rattle.book_laws.proofs.FileLaws.{as-a-program-goes}
use Rattle.book_laws.proofs.TotalLaws.{total-near}
use Rattle.book_laws.proofs.TallyLaws.{jobs-few, file-tally}
use Rattle.book_laws.proofs.WrittenLaws.{starts-written, file-taken, rest-stops}
use Rattle.book_promises.specs.BookPromises.{field_with, fields_with, Taken, broken_by, refused_with, FirstDearest, refused_line, refused_from, report_text}
use Rattle.book_promises.specs.BookPromises.{steps_of, exact_of, exact_bond_of, exact_total, PricedAs, Reported, BookPromises}

-- ---- the fields of a file

same-fields : (jobs : List (List ℕ)) → fields_with jobs ≡ file_of jobs
unfolding fields_with field_with file_of field_of
same-fields [] = refl
same-fields (job ∷ jobs) = ap (λ (l : List ℕ). field_with job ++ l) (same-fields jobs)

starts-field : (job more : List ℕ) → starts_whole (field_with job ++ more) ≡ true
unfolding field_with field_of
starts-field job more = starts-written job more

module _ (file : List ℕ) where
  stopped : length (jobs_of most_fields file) < 500 → (job more : List ℕ) → field_with job ++ more ≡ rest_of most_fields file → ⊥
  stopped h job more e =
      let z : true ≡ false = sym (starts-field job more) ∙ ap starts_whole e ∙ rest-stops most_fields file h in
      let n : ◌≡◌ {A = ℕ} 1 0 = ap (λ (t : Bool). cond {A = ℕ} t 1 0) z in
      omega arith

  taken-whole : ((i : ℕ) → get_or file i 0 < 256) → Taken file (jobs_of most_fields file) (rest_of most_fields file)
  taken-whole bytes = record {
    file-is = ap (λ (l : List ℕ). l ++ rest_of most_fields file) (same-fields (jobs_of most_fields file)) ∙ file-taken most_fields file bytes;
    at_most = jobs-few most_fields file;
    no_more = stopped;
  }

same-broken : (left : List ℕ) → cond {A = ℕ} (eqb (length left) 0) 0 1 ≡ broken_by left
unfolding broken_by
same-broken [] = refl
same-broken (byte ∷ more) = rw (ne_eqb (suc (length more)) 0 (λ e. omega arith))

-- ---- the figures

module _ (jobs : List (List ℕ)) (left : List ℕ) (b : Book) (t : Tally jobs (cond (eqb (length left) 0) 0 1) b) where
  counts-are : (k : ℕ) → k < 13 → values b.refused k ≡ refused_with jobs left (suc k)
  unfolding refused_with
  counts-are zero l = t.malformed ∙ ap (λ (x : ℕ). count_of 1 jobs + x) (same-broken left)
  counts-are (suc k) l = t.refused (suc k) (omega arith) l ∙ rw (ne_eqb (suc (suc k)) 1 (λ e. omega arith)) (omega arith)

  first-dearest : Dearest jobs b.dearest b.place → FirstDearest jobs b.place
  first-dearest d = record {
    among = d.within;
    nothing = d.none;
    is-priced = λ j e. (d.found j e).0;
    dearest = λ j k e l z. rw (d.found j e).1 (d.greatest k l z);
    first = λ j k e l z. rw (d.found j e).1 (d.first k (omega arith) z);
  }

  -- ---- the lines

  pair_same : (x y : List ℕ) → (x ++ (32 ∷ [])) ++ (y ++ (10 ∷ [])) ≡ (x ++ (32 ∷ y)) ++ (10 ∷ [])
  pair_same x y = append_assoc x (32 ∷ []) (y ++ (10 ∷ [])) ∙ sym (append_assoc x (32 ∷ y) (10 ∷ []))

  line_same : (k : ℕ) → k < 13 → refusals_line b.refused k ≡ refused_line jobs left (suc k)
  unfolding refusals_line pair_line
  line_same k l =
      rw (counts-are k l) (ap (λ (x : List ℕ). refused_word ++ x) (pair_same (decimal 0 (suc k)) (decimal 0 (refused_with jobs left (suc k)))))

  lines_same : (count k : ℕ) → k + count ≤ 13 → lines_from (refusals_line b.refused) k count ≡ refused_from jobs left (suc k) count
  unfolding lines_from refused_from
  lines_same zero k l = refl
  lines_same (suc count) k l =
      ap (λ (x : List ℕ). x ++ lines_from (refusals_line b.refused) (suc k) count) (line_same k (omega arith))
      ∙ ap (λ (x : List ℕ). refused_line jobs left (suc k) ++ x) (lines_same count (suc k) (omega arith))

  text_same : book_lines b ≡ report_text jobs left b.place
  unfolding book_lines sum_lines whole_line amount_line report_text
  text_same = rw (t.priced, t.bonds, t.options, t.error-bounds, lines_same 13 0 (omega arith))

-- ---- a priced job

module _ (job : List ℕ) (z : number_of job ≡ 0) where
  unrefused : bytes_number job most_discounts most_state_prices ≡ 0
  unfolding job_prices bytes_prices
  unrefused = sym (prices-number _ _ _ _) ∙ z

  given : (job_prices job).bond ≡ job_bond (reading_of job).job
  unfolding job_prices bytes_prices
  given = sym (ap (λ (p : JobPrices). p.bond) (prices-given _ _ _ _ unrefused))

  accepted : AcceptedRecord (reading_of job).job most_discounts most_state_prices
  accepted = (bytes-accepted job most_discounts most_state_prices unrefused).1

  steps-few : steps_of job ≤ most_steps
  steps-few = (bond-tree _ _ _ _ accepted.bond).limits.steps-within-limit

  -- DEMAND 3 OF ITS BOND
  pub bond-near : Within (bound_of job) (unit ^ steps_of job) (bond_of job) (exact_bond_of job)
  unfolding exact_bond_of
  bond-near =
      subst (λ (p : Price). Within p.bound (unit ^ steps_of job) p.value (exact_of (reading_of job).job)) (sym given)
      ((on-tree-kept _ _ _ _).bond-accurate accepted.bond)

-- THE EXACT TOTAL: of any jobs, it differs from the sum of their bonds by at most the sum of their error bounds
pub exact-total : (jobs : List (List ℕ)) → Within (sum_of bound_of jobs) (unit ^ most_steps) (sum_of bond_of jobs) (exact_total jobs)
unfolding exact_total
exact-total jobs = total-near unit exact_bond_of steps_of steps-few bond-near jobs

-- ---- the statement

job-priced : (job : List ℕ) → PricedAs job
unfolding job_prices
job-priced job = record { number_is = refl; bond-is = refl; bound-is = refl; option_is = refl }

lowest-none : (cause : ℕ) → lowest_cause cause 0 ≡ cause
unfolding lowest_cause
lowest-none cause = by_equal cause 0 (λ z. rw (eq-eqb cause 0 z) (sym z)) (λ nz. rw (ne_eqb cause 0 nz))

sheet-numbered : (job : List ℕ) (room : ℕ) → 468736 ≤ room → number_of job ≡ sheet_number job room
unfolding job_prices bytes_prices bytes_number sheet_number job_number room_cause
sheet-numbered job room h =
    prices-number _ _ _ _ ∙ rw (le-ltb room sheet_room h, lowest-none (record_number (reading_of job).job most_discounts most_state_prices))

-- ONE STATEMENT OF ALL FILES
file-reported : (file : List ℕ) → ((i : ℕ) → get_or file i 0 < 256) → Reported file (book_lines (file_book file))
unfolding broken_of
file-reported file bytes = record {
  jobs = jobs_of most_fields file;
  left = rest_of most_fields file;
  place = (file_book file).place;
  taken = taken-whole file bytes;
  dearest-bond = first-dearest (jobs_of most_fields file) (rest_of most_fields file) (file_book file) (file-tally file) (file-tally file).dearest;
  printed = text_same (jobs_of most_fields file) (rest_of most_fields file) (file_book file) (file-tally file);
  total-near = exact-total (jobs_of most_fields file);
}

ended_same : (b : Book) (job : List ℕ) → b.ended ≡ true → with_field b job ≡ b
unfolding with_field is_open
ended_same b job e = rw e

broken-same : (b : Book) → b.ended ≡ true → broken_book b ≡ b
unfolding broken_book is_open
broken-same b e = rw e

room-put : (text out : List ℕ) → 2304 ≤ length out → lines_memory text out ≡ take (length out - length text) out ++ text
unfolding lines_memory put_before
room-put text out h = rw (le-ltb (length out) book_room h, drop-length out, append-nil text)

pub book-kept : BookPromises
unfolding lines_answer lines_memory
book-kept = record {
  reported = file-reported;
  field-by-field = as-a-program-goes;
  as-priced = job-priced;
  as-its-sheet = sheet-numbered;
  thirteen = λ job. (bounded job).number;
  ended-takes-none = ended_same;
  ended-once = broken-same;
  room-answered = λ text room h. rw (le-ltb room book_room h);
  room-written = room-put;
  room-refused = λ text room h. rw (lt-ltb room book_room h);
  room-kept = λ text out h. rw (lt-ltb (length out) book_room h);
}
