-- Reports of books keep their promises.
-- Assumes nothing.
use mathlib.Core.Path.{◌≡◌, refl, sym}
use mathlib.Core.Bool.{Bool, true, false}
use mathlib.Core.List.{List, [], ◌∷◌}
use Prim.Native.Nat.{ℕ, ◌^◌}
use native.Mathlib.Omega.{arith}
use Rattle.arithmetic.specs.Within.{Within}
use Rattle.tree.specs.Tree.{unit}
use Rattle.book_promises.specs.BookPromises.{exact_total}
use Rattle.book_promises.proofs.BookKept.{exact-total}
use Rattle.report_laws.specs.declared.Report.{Report}
use Rattle.report_laws.specs.Reports.{empty_report}
use Rattle.report_laws.specs.Joins.{is_report, joined_report}
use Rattle.report_laws.specs.FileReports.{files_report, file_report, all_jobs}
use Rattle.report_laws.proofs.SoundLaws.{report-sound, sound-report}
use Rattle.report_laws.proofs.SumLaws.{sum-empty-right}
use Rattle.report_laws.proofs.JoinLaws.{first-refused, second-refused, join-assoc, join-empty-left, join-empty-right}
use Rattle.report_laws.proofs.FileReportLaws.{files-tally, files-sound, files-joined, files-refused, file-plain}
use Rattle.report_promises.specs.ReportPromises.{Refused, Fits, ReportPromises}

-- THE EXACT TOTAL OF ALL FILES: within the error bounds of their report
pub files-total : (files : List (List ℕ)) →
    Within (files_report files).error_bounds (unit ^ 60) (files_report files).bonds (exact_total (all_jobs files))
files-total files = let t = files-tally files in rw (t.bonds, t.error-bounds) (exact-total (all_jobs files))

one-file : (file : List ℕ) → files_report (file ∷ []) ≡ file_report file
unfolding files_report
one-file file = sum-empty-right (file_report file) (file-plain file)

no-files : files_report [] ≡ empty_report
unfolding files_report
no-files = refl

-- no report that passes the test has a figure above 64 bits
figures-fit : (r : Report) → is_report r ≡ true → Fits r
figures-fit r h =
    let s = report-sound r h in
    record {
      books-fit = omega (arith, s.size);
      fields_fit = omega (arith, s.size);
      priced-fit = omega (arith, s.size, s.priced);
      bonds-fit = omega (arith, s.size, s.priced, s.bonds);
      options-fit = omega (arith, s.size, s.priced, s.options);
      error-bounds-fit = omega (arith, s.size, s.priced, s.error-bounds);
    }

-- a second report that is none is refused whatever the first is
second_none : (a b : Report) → is_report b ≡ false → Refused (joined_report a b) 1
second_none a b e = go (is_report a) refl
  where
    go : (t : Bool) → is_report a ≡ t → Refused (joined_report a b) 1
    go true f = sym (second-refused a b f e)
    go false f = sym (first-refused a b f)

pub report-kept : ReportPromises
report-kept =
    record {
      reported = λ files. record { totals = files-tally files; total-near = files-total files };
      of_one = one-file;
      of_none = no-files;
      joined = λ front rest h. files-joined front rest (omega arith) (omega arith) h;
      too_many = λ front rest f r h. files-refused front rest f r h;
      files-give = λ files h. sound-report _ (files-sound files h);
      first-is-none = λ a b e. sym (first-refused a b e);
      second-is-none = second_none;
      fits = figures-fit;
      associative = λ a b c ra rb rc. join-assoc a b c ra rb rc;
      neutral-first = λ r h size. join-empty-left r h size;
      neutral-second = λ r h size. join-empty-right r h size;
    }
