-- A book of jobs, field by field (document 02, request (xiv)). Numbers 1 to 13 have a count each, number k at place k - 1.
-- Assumes nothing.
use Rattle.std.specs.Prelude.{ℕ, ◌+◌, ◌-◌, ◌*◌, Bool, true, false, not, cond, ◌&&◌, ◌||◌, List, [], ◌∷◌, eqb, ltb, leb, set, replicate}
use Rattle.arithmetic.specs.Row.{values, each, between}
use Rattle.job_laws.specs.declared.JobPrices.{JobPrices}
use Rattle.job_laws.specs.JobPrices.{bytes_memory}
use Rattle.job_record.specs.declared.Job.{Job}
use Rattle.limits.specs.Limits.{value_limit, most_discounts, most_state_prices}
use Rattle.book_laws.specs.Bounds.{job_prices, most_number, most_error_bound}
use Rattle.book_laws.specs.declared.Book.{Book}

unfoldable pub empty_book : Book
empty_book = record {
  fields = 0;
  ended = false;
  priced = 0;
  refused = replicate most_number 0;
  bonds = 0;
  options = 0;
  error_bounds = 0;
  dearest = 0;
  place = 0;
}

-- every count is at most the fields seen
unfoldable pub counts_within : List ℕ → ℕ → Bool
counts_within counts most = each most_number (between 0 most (values counts))

-- a file has at most so many fields
abbrev pub most_fields : ℕ
most_fields = 500

-- a book that has not ended, and whose figures so many fields can give: no book that calls reach has others
unfoldable pub is_open : Book → Bool
is_open b =
    not b.ended
    && (leb b.fields most_fields
    && (leb b.priced b.fields
    && (leb b.bonds (b.fields * value_limit)
    && (leb b.options (b.fields * value_limit)
    && (leb b.error_bounds (b.fields * most_error_bound)
    && (leb b.place b.fields
    && counts_within b.refused b.fields))))))

-- one more under a number
unfoldable pub counted : List ℕ → ℕ → List ℕ
counted counts number = set counts (number - 1) (values counts (number - 1) + 1)

-- a refused job adds to its number's count and to nothing else
unfoldable pub with_refused : Book → ℕ → Book
with_refused b number = record {
  fields = b.fields + 1;
  ended = b.ended;
  priced = b.priced;
  refused = counted b.refused number;
  bonds = b.bonds;
  options = b.options;
  error_bounds = b.error_bounds;
  dearest = b.dearest;
  place = b.place;
}

-- an option's price counts where there is one
abbrev pub option_of : JobPrices → ℕ
option_of p = cond p.has_option p.option.value 0

-- the first priced bond is the dearest, whatever its price; a later one must be higher
unfoldable pub is_dearer : Book → ℕ → Bool
is_dearer b bond = eqb b.place 0 || ltb b.dearest bond

unfoldable pub with_priced : Book → JobPrices → Book
with_priced b p = record {
  fields = b.fields + 1;
  ended = b.ended;
  priced = b.priced + 1;
  refused = b.refused;
  bonds = b.bonds + p.bond.value;
  options = b.options + option_of p;
  error_bounds = b.error_bounds + p.bond.bound;
  dearest = cond (is_dearer b p.bond.value) p.bond.value b.dearest;
  place = cond (is_dearer b p.bond.value) (b.fields + 1) b.place;
}

unfoldable pub with_prices : Book → JobPrices → Book
with_prices b p = cond (eqb p.number 0) (with_priced b p) (with_refused b p.number)

-- one more field, with its job; a book of 500 fields takes no other
unfoldable pub with_field : Book → List ℕ → Book
with_field b job = cond (is_open b && ltb b.fields most_fields) (with_prices b (job_prices job)) b

-- a memory in which the job of a field is fitted and priced: as it was where the book takes no field
unfoldable pub field_memory : Book → List ℕ → (Job → List ℕ) → List ℕ → List ℕ
field_memory b job rows memory =
    cond (is_open b && ltb b.fields most_fields) (bytes_memory job most_discounts most_state_prices rows memory) memory

-- a book that ends broken: one more under 1
unfoldable pub ended_book : Book → Book
ended_book b = record {
  fields = b.fields;
  ended = true;
  priced = b.priced;
  refused = counted b.refused 1;
  bonds = b.bonds;
  options = b.options;
  error_bounds = b.error_bounds;
  dearest = b.dearest;
  place = b.place;
}

unfoldable pub broken_book : Book → Book
broken_book b = cond (is_open b) (ended_book b) b

-- the fields of a file one by one
unfoldable pub with_fields : Book → List (List ℕ) → Book
with_fields b [] = b
with_fields b (job ∷ jobs) = with_fields (with_field b job) jobs

-- the end of a file: bytes that are left break it
unfoldable pub closed_book : Book → ℕ → Book
closed_book b left = cond (eqb left 0) b (broken_book b)
