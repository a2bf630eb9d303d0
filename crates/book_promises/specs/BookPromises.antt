-- What the report of a book promises (document 02, request (xiv)), from the bytes of a file to the bytes that are printed. The numbers of the document stand
-- here anew. m is 600,000,000 × one.
-- Assumes nothing.
use Rattle.std.specs.Prelude.{ℕ, zero, suc, ◌+◌, ◌-◌, ◌*◌, ◌/◌, ◌%◌, ◌^◌, ◌≤◌, ◌<◌, ◌≡◌, true, cond, List, [], ◌∷◌, ◌++◌, eqb, length, get_or, take}
use Rattle.arithmetic.specs.Within.{Within}
use Rattle.tree.specs.Tree.{unit}
use Rattle.price_laws.specs.Exact.{exact_bond}
use Rattle.job_record.specs.declared.Job.{Job}
use Rattle.job_record.specs.Reader.{reading_of}
use Rattle.job_laws.specs.RecordFit.{job_reversion, job_discounts, job_flows}
use Rattle.job_laws.specs.JobPrices.{bytes_prices}
use Rattle.text_laws.specs.Decimal.{decimal}
use Rattle.sheet_laws.specs.WholeJob.{sheet_number}
use Rattle.book_laws.specs.declared.Book.{Book}
use Rattle.book_laws.specs.Books.{empty_book, with_field, broken_book}
use Rattle.book_laws.specs.Files.{file_book, streamed}
use Rattle.book_laws.specs.Report.{book_lines, lines_answer, lines_memory}
use Rattle.book_laws.specs.Totals.{number_of, bond_of, bound_of, option_price_of, count_of, sum_of}

-- ---- the fields of a file

-- a field: tag 10 (hex), the length of its data in two bytes, high byte first, and the data, one job
unfoldable pub field_with : List ℕ → List ℕ
field_with job = 16 ∷ (length job / 256) ∷ (length job % 256) ∷ job

unfoldable pub fields_with : List (List ℕ) → List ℕ
fields_with [] = []
fields_with (job ∷ jobs) = field_with job ++ fields_with jobs

-- the jobs of a file and what is left of it: fields are taken up to 500, as long as a whole one comes
pub record Taken (file : List ℕ) (jobs : List (List ℕ)) (left : List ℕ) : Type 0 where
  pub file-is : fields_with jobs ++ left ≡ file
  pub at_most : length jobs ≤ 500
  pub no_more : length jobs < 500 → (job more : List ℕ) → field_with job ++ more ≡ left → ⊥

-- a broken field, or a 501st, ends the file and is counted once
unfoldable pub broken_by : List ℕ → ℕ
broken_by [] = 0
broken_by (byte ∷ more) = 1

-- ---- the figures

-- jobs refused with a number; what ends the file counts under 1
unfoldable pub refused_with : List (List ℕ) → List ℕ → ℕ → ℕ
refused_with jobs left number = count_of number jobs + cond (eqb number 1) (broken_by left) 0

-- the place among the fields, from 1, of the dearest bond, the first one if equal; 0 with nothing priced
pub record FirstDearest (jobs : List (List ℕ)) (place : ℕ) : Type 0 where
  pub among : place ≤ length jobs
  pub nothing : place ≡ 0 → (k : ℕ) → k < length jobs → number_of (get_or jobs k []) ≡ 0 → ⊥
  pub is-priced : (j : ℕ) → place ≡ suc j → number_of (get_or jobs j []) ≡ 0
  pub dearest : (j k : ℕ) → place ≡ suc j → k < length jobs → number_of (get_or jobs k []) ≡ 0 → bond_of (get_or jobs k []) ≤ bond_of (get_or jobs j [])
  pub first : (j k : ℕ) → place ≡ suc j → k < j → number_of (get_or jobs k []) ≡ 0 → bond_of (get_or jobs k []) < bond_of (get_or jobs j [])

-- ---- the lines

-- a word and its figures, each after a space (32), and a line's end (10)
abbrev pub line_of : List ℕ → List ℕ → List ℕ
line_of word figure = word ++ (32 ∷ (figure ++ (10 ∷ [])))

-- `refused`, a number and its count
abbrev pub refused_line : List (List ℕ) → List ℕ → ℕ → List ℕ
refused_line jobs left number =
    line_of (114 ∷ 101 ∷ 102 ∷ 117 ∷ 115 ∷ 101 ∷ 100 ∷ []) (decimal 0 number ++ (32 ∷ decimal 0 (refused_with jobs left number)))

-- one line for each of so many numbers, rising
unfoldable pub refused_from : List (List ℕ) → List ℕ → ℕ → ℕ → List ℕ
refused_from jobs left number zero = []
refused_from jobs left number (suc count) = refused_line jobs left number ++ refused_from jobs left (suc number) count

-- `priced`; `refused` of 1 to 13; `bonds`, `options`, amounts with nine decimals; `allowances`; `dearest`
unfoldable pub report_text : List (List ℕ) → List ℕ → ℕ → List ℕ
report_text jobs left place =
    line_of (112 ∷ 114 ∷ 105 ∷ 99 ∷ 101 ∷ 100 ∷ []) (decimal 0 (count_of 0 jobs))
    ++ (refused_from jobs left 1 13
    ++ (line_of (98 ∷ 111 ∷ 110 ∷ 100 ∷ 115 ∷ []) (decimal 9 (sum_of bond_of jobs))
    ++ (line_of (111 ∷ 112 ∷ 116 ∷ 105 ∷ 111 ∷ 110 ∷ 115 ∷ []) (decimal 9 (sum_of option_price_of jobs))
    ++ (line_of (97 ∷ 108 ∷ 108 ∷ 111 ∷ 119 ∷ 97 ∷ 110 ∷ 99 ∷ 101 ∷ 115 ∷ []) (decimal 0 (sum_of bound_of jobs))
    ++ line_of (100 ∷ 101 ∷ 97 ∷ 114 ∷ 101 ∷ 115 ∷ 116 ∷ []) (decimal 0 place)))))

-- ---- the exact total

-- a job's steps n, and its exact bond on its working reversion and its fit's discounts, held times m ^ n
abbrev pub steps_of : List ℕ → ℕ
steps_of bytes = (reading_of bytes).job.steps

abbrev pub exact_of : Job → ℕ
exact_of job = exact_bond job.steps (job_reversion job) (job_discounts job) (job_flows job)

unfoldable pub exact_bond_of : List ℕ → ℕ
exact_bond_of bytes = exact_of (reading_of bytes).job

-- the sum of the exact bonds of the priced jobs, held times m ^ 60
unfoldable pub exact_total : List (List ℕ) → ℕ
exact_total jobs = sum_of (λ job. exact_bond_of job * unit ^ (60 - steps_of job)) jobs

-- ---- the statement

-- the figures of a job are what the prices of its bytes say, in memories of 3,600 discounts and 3,721 state prices, which hold every tree
pub record PricedAs (job : List ℕ) : Type 0 where
  pub number_is : number_of job ≡ (bytes_prices job 3600 3721).number
  pub bond-is : bond_of job ≡ (bytes_prices job 3600 3721).bond.value
  pub bound-is : bound_of job ≡ (bytes_prices job 3600 3721).bond.bound
  pub option_is : option_price_of job ≡ cond (bytes_prices job 3600 3721).has_option (bytes_prices job 3600 3721).option.value 0

-- what a text says of a file
pub record Reported (file text : List ℕ) : Type 0 where
  pub jobs : List (List ℕ)
  pub left : List ℕ
  pub place : ℕ
  pub taken : Taken file jobs left
  pub dearest-bond : FirstDearest jobs place
  pub printed : text ≡ report_text jobs left place
  -- a total is no price with a bound of its own: it is within the sum of its bonds' bounds
  pub total-near : Within (sum_of bound_of jobs) (unit ^ 60) (sum_of bond_of jobs) (exact_total jobs)

pub record BookPromises : Type 0 where
  -- the lines of every file of bytes
  pub reported : (file : List ℕ) → ((i : ℕ) → get_or file i 0 < 256) → Reported file (book_lines (file_book file))
  -- the same book field by field, as a program goes that never holds the file
  pub field-by-field : (file : List ℕ) → file_book file ≡ streamed 500 empty_book file
  -- a job is priced, or counted, as its prices say and as its sheet is printed or refused, and no number above 13 comes from one
  pub as-priced : (job : List ℕ) → PricedAs job
  pub as-its-sheet : (job : List ℕ) (room : ℕ) → 468736 ≤ room → number_of job ≡ sheet_number job room
  pub thirteen : (job : List ℕ) → number_of job ≤ 13
  -- a book that has ended stays as it is
  pub ended-takes-none : (b : Book) (job : List ℕ) → b.ended ≡ true → with_field b job ≡ b
  pub ended-once : (b : Book) → b.ended ≡ true → broken_book b ≡ b
  -- the lines stand at the end of a lent room of 2,304 bytes or more; a shorter one is refused with 6 and stays as it was
  pub room-answered : (text : List ℕ) (room : ℕ) → 2304 ≤ room → lines_answer text room ≡ record { number = 0; size = length text }
  pub room-written : (text out : List ℕ) → 2304 ≤ length out → lines_memory text out ≡ take (length out - length text) out ++ text
  pub room-refused : (text : List ℕ) (room : ℕ) → room < 2304 → lines_answer text room ≡ record { number = 6; size = 0 }
  pub room-kept : (text out : List ℕ) → length out < 2304 → lines_memory text out ≡ out
