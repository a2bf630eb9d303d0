-- What the figures of a book are: counts and sums over its jobs, and the first of its dearest bonds.
-- Assumes nothing.
use Rattle.std.specs.Prelude.{ℕ, suc, ◌+◌, ◌≤◌, ◌<◌, ◌≡◌, cond, List, [], ◌∷◌, eqb, length, get_or}
use Rattle.arithmetic.specs.Row.{values}
use Rattle.book_laws.specs.declared.Book.{Book}
use Rattle.book_laws.specs.Bounds.{job_prices, most_number}
use Rattle.book_laws.specs.Books.{most_fields}
use Rattle.book_laws.specs.Files.{rest_of}

-- of a job's bytes: its number, its bond with its error bound, its option
abbrev pub number_of : List ℕ → ℕ
number_of job = (job_prices job).number

abbrev pub bond_of : List ℕ → ℕ
bond_of job = (job_prices job).bond.value

abbrev pub bound_of : List ℕ → ℕ
bound_of job = (job_prices job).bond.bound

-- 0 where a job has no option
abbrev pub option_price_of : List ℕ → ℕ
option_price_of job = cond (job_prices job).has_option (job_prices job).option.value 0

-- how many jobs have a number; 0 is priced
unfoldable pub count_of : ℕ → List (List ℕ) → ℕ
count_of k [] = 0
count_of k (job ∷ jobs) = cond (eqb (number_of job) k) 1 0 + count_of k jobs

-- the sum of a figure over the priced jobs
unfoldable pub sum_of : (List ℕ → ℕ) → List (List ℕ) → ℕ
sum_of f [] = 0
sum_of f (job ∷ jobs) = cond (eqb (number_of job) 0) (f job) 0 + sum_of f jobs

-- the price and the place, from 1, of the first of the dearest bonds among the priced jobs; place 0 where none is priced
pub record Dearest (jobs : List (List ℕ)) (price place : ℕ) : Type 0 where
  pub within : place ≤ length jobs
  pub nothing : place ≡ 0 → price ≡ 0
  pub none : place ≡ 0 → (k : ℕ) → k < length jobs → number_of (get_or jobs k []) ≡ 0 → ⊥
  pub found : (j : ℕ) → place ≡ suc j → (number_of (get_or jobs j []) ≡ 0) × (bond_of (get_or jobs j []) ≡ price)
  pub greatest : (k : ℕ) → k < length jobs → number_of (get_or jobs k []) ≡ 0 → bond_of (get_or jobs k []) ≤ price
  pub first : (k : ℕ) → suc k < place → number_of (get_or jobs k []) ≡ 0 → bond_of (get_or jobs k []) < price

-- a book that holds just these jobs, and under 1 so many more
pub record Tally (jobs : List (List ℕ)) (more : ℕ) (b : Book) : Type 0 where
  pub fields : b.fields ≡ length jobs
  pub priced : b.priced ≡ count_of 0 jobs
  pub size : length b.refused ≡ most_number
  pub malformed : values b.refused 0 ≡ count_of 1 jobs + more
  pub refused : (k : ℕ) → 0 < k → k < most_number → values b.refused k ≡ count_of (suc k) jobs
  pub bonds : b.bonds ≡ sum_of bond_of jobs
  pub options : b.options ≡ sum_of option_price_of jobs
  pub error-bounds : b.error_bounds ≡ sum_of bound_of jobs
  pub dearest : Dearest jobs b.dearest b.place

-- one where a file is broken
unfoldable pub broken_of : List ℕ → ℕ
broken_of file = cond (eqb (length (rest_of most_fields file)) 0) 0 1
