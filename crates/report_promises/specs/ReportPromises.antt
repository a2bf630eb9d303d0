-- What reports of books promise (document 02, request (xiv), over any number of files): the figures of a report are the totals over all fields of all its
-- files, the exact total of the priced bonds is within its error bounds, and reports add up, however files are split over them. The numbers stand here anew:
-- 2,305,843,009 is the most books and fields together, 1 and 12 are the refusals. m is 600,000,000 × one.
-- Assumes nothing.
use Rattle.std.specs.Prelude.{ℕ, ◌+◌, ◌^◌, ◌≤◌, ◌<◌, ◌≡◌, true, false, List, [], ◌∷◌, ◌++◌, length}
use Rattle.arithmetic.specs.Within.{Within}
use Rattle.tree.specs.Tree.{unit}
use Rattle.book_laws.specs.Files.{file_book}
use Rattle.book_promises.specs.BookPromises.{exact_total}
use Rattle.report_laws.specs.declared.Report.{Report}
use Rattle.report_laws.specs.declared.Joined.{Joined}
use Rattle.report_laws.specs.Reports.{empty_report, book_report}
use Rattle.report_laws.specs.Joins.{is_report, joined_report, and_then}
use Rattle.report_laws.specs.FileReports.{files_report, all_jobs, FilesTally}

-- books and fields of files, each counted once
abbrev pub counted_in : List (List ℕ) → ℕ
counted_in files = length files + length (all_jobs files)

-- a join that gives a report, and one that is refused
abbrev pub Gives : Joined → Report → Type 0
Gives j r = j ≡ record { number = 0; report = r }

abbrev pub Refused : Joined → ℕ → Type 0
Refused j number = j ≡ record { number = number; report = empty_report }

-- what a report says of files
pub record Reported (files : List (List ℕ)) (r : Report) : Type 0 where
  pub totals : FilesTally files r
  -- within the sum of the bonds' bounds, as the total of a book
  pub total-near : Within r.error_bounds (unit ^ 60) r.bonds (exact_total (all_jobs files))

-- the figures of a report, none of which passes 64 bits
pub record Fits (r : Report) : Type 0 where
  pub books-fit : r.books < 2 ^ 64
  pub fields_fit : r.fields < 2 ^ 64
  pub priced-fit : r.priced < 2 ^ 64
  pub bonds-fit : r.bonds < 2 ^ 64
  pub options-fit : r.options < 2 ^ 64
  pub error-bounds-fit : r.error_bounds < 2 ^ 64

pub record ReportPromises : Type 0 where
  -- the report of any files; that of one is its book's, that of none is empty
  pub reported : (files : List (List ℕ)) → Reported files (files_report files)
  pub of_one : (file : List ℕ) → files_report (file ∷ []) ≡ book_report (file_book file)
  pub of_none : files_report [] ≡ empty_report
  -- files that are split anyhow over two reports: these join to the report of all of them, in the order of the files
  pub joined : (front rest : List (List ℕ)) → counted_in front + counted_in rest ≤ 2305843009 →
      Gives (joined_report (files_report front) (files_report rest)) (files_report (front ++ rest))
  -- and are refused where they are more
  pub too_many : (front rest : List (List ℕ)) → counted_in front ≤ 2305843009 → counted_in rest ≤ 2305843009 →
      2305843009 < counted_in front + counted_in rest → Refused (joined_report (files_report front) (files_report rest)) 12
  -- the reports of files are reports; what is none is refused
  pub files-give : (files : List (List ℕ)) → counted_in files ≤ 2305843009 → is_report (files_report files) ≡ true
  pub first-is-none : (a b : Report) → is_report a ≡ false → Refused (joined_report a b) 1
  pub second-is-none : (a b : Report) → is_report b ≡ false → Refused (joined_report a b) 1
  pub fits : (r : Report) → is_report r ≡ true → Fits r
  -- joining is associative, refusals for the size too, and the empty report is neutral
  pub associative : (a b c : Report) → is_report a ≡ true → is_report b ≡ true → is_report c ≡ true →
      and_then (joined_report a b) (λ ab. joined_report ab c) ≡ and_then (joined_report b c) (λ bc. joined_report a bc)
  pub neutral-first : (r : Report) → is_report r ≡ true → length r.refused ≡ 13 → Gives (joined_report empty_report r) r
  pub neutral-second : (r : Report) → is_report r ≡ true → length r.refused ≡ 13 → Gives (joined_report r empty_report) r
