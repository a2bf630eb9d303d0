-- What reports of files are: totals over all fields of all files, and the first of the dearest bonds.
-- Assumes nothing.
use Rattle.std.specs.Prelude.{ℕ, suc, ◌+◌, ◌≤◌, ◌<◌, ◌≡◌, List, [], ◌∷◌, ◌++◌, length, get_or}
use Rattle.arithmetic.specs.Row.{values}
use Rattle.book_laws.specs.Bounds.{most_number}
use Rattle.book_laws.specs.Books.{most_fields}
use Rattle.book_laws.specs.Files.{jobs_of, file_book}
use Rattle.book_laws.specs.Totals.{number_of, bond_of, bound_of, option_price_of, count_of, sum_of, broken_of}
use Rattle.report_laws.specs.declared.Report.{Report}
use Rattle.report_laws.specs.Reports.{empty_report, book_report, sum_report}

-- the report of a file, and of files one after the other
abbrev pub file_report : List ℕ → Report
file_report file = book_report (file_book file)

unfoldable pub files_report : List (List ℕ) → Report
files_report [] = empty_report
files_report (file ∷ files) = sum_report (file_report file) (files_report files)

-- the jobs of a file, and of all files one after the other
abbrev pub file_jobs : List ℕ → List (List ℕ)
file_jobs file = jobs_of most_fields file

unfoldable pub all_jobs : List (List ℕ) → List (List ℕ)
all_jobs [] = []
all_jobs (file ∷ files) = file_jobs file ++ all_jobs files

-- the size of their report
abbrev pub files_size : List (List ℕ) → ℕ
files_size files = length files + length (all_jobs files)

-- how many files are broken
unfoldable pub broken_files : List (List ℕ) → ℕ
broken_files [] = 0
broken_files (file ∷ files) = broken_of file + broken_files files

-- the job of field i of file j, both from 0
abbrev pub job_at : List (List ℕ) → ℕ → ℕ → List ℕ
job_at files j i = get_or (file_jobs (get_or files j [])) i []

-- field i of file j is there and priced
pub record Priced (files : List (List ℕ)) (j i : ℕ) : Type 0 where
  pub file : j < length files
  pub field : i < length (file_jobs (get_or files j []))
  pub number : number_of (job_at files j i) ≡ 0

-- the price of the first of the dearest bonds, with the number of its book and its place there
pub record DearestOf (files : List (List ℕ)) (price book place : ℕ) : Type 0 where
  pub nothing : place ≡ 0 → (price ≡ 0) × (book ≡ 0)
  pub none : place ≡ 0 → (j i : ℕ) → Priced files j i → ⊥
  pub found : (i : ℕ) → place ≡ suc i → (j : ℕ) × (book ≡ suc j) × Priced files j i × (bond_of (job_at files j i) ≡ price)
  pub greatest : (j i : ℕ) → Priced files j i → bond_of (job_at files j i) ≤ price
  pub first-book : (j i : ℕ) → Priced files j i → suc j < book → bond_of (job_at files j i) < price
  pub first_field : (j i : ℕ) → Priced files j i → suc j ≡ book → suc i < place → bond_of (job_at files j i) < price

pub record FilesTally (files : List (List ℕ)) (r : Report) : Type 0 where
  pub books : r.books ≡ length files
  pub fields : r.fields ≡ length (all_jobs files)
  pub priced : r.priced ≡ count_of 0 (all_jobs files)
  pub size : length r.refused ≡ most_number
  pub malformed : values r.refused 0 ≡ count_of 1 (all_jobs files) + broken_files files
  pub refused : (k : ℕ) → 0 < k → k < most_number → values r.refused k ≡ count_of (suc k) (all_jobs files)
  pub bonds : r.bonds ≡ sum_of bond_of (all_jobs files)
  pub options : r.options ≡ sum_of option_price_of (all_jobs files)
  pub error-bounds : r.error_bounds ≡ sum_of bound_of (all_jobs files)
  pub dearest : DearestOf files r.dearest r.book r.place
