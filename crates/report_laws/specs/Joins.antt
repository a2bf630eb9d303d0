-- Reports that are joined, or refused: 1 for a report that no files give, 12 for so many books and fields that a total could pass 64 bits.
-- Assumes nothing.
use Rattle.std.specs.Prelude.{ℕ, ◌+◌, ◌*◌, Bool, cond, ◌&&◌, List, eqb, leb, Result, Ok, Err}
use Rattle.arithmetic.specs.Row.{values}
use Rattle.arithmetic.specs.Sum.{sum}
use Rattle.arithmetic.specs.Refusals.{number_of}
use Rattle.arithmetic.specs.declared.Refusal.{Refusal}
use Rattle.limits.specs.Limits.{value_limit}
use Rattle.book_laws.specs.Bounds.{most_number, most_error_bound}
use Rattle.book_laws.specs.Books.{most_fields, counts_within}
use Rattle.report_laws.specs.declared.Report.{Report}
use Rattle.report_laws.specs.declared.Joined.{Joined}
use Rattle.report_laws.specs.Reports.{empty_report, sum_report}

-- the size of a report: its books and their fields together. Each may add one to a count, and a field one price to a sum.
abbrev pub size_of : Report → ℕ
size_of r = r.books + r.fields

-- as many bonds at the highest price are worth less than 2 ^ 64, and one more is not
abbrev pub most_size : ℕ
most_size = 2305843009

-- the dearest bond has a place in a book exactly where there is a priced one
unfoldable pub is_named : Report → Bool
is_named r =
    cond (eqb r.priced 0) (eqb r.place 0 && eqb r.book 0)
    (leb 1 r.place && (leb r.place most_fields && (leb 1 r.book && leb r.book r.books)))

-- the refusals of all numbers
unfoldable pub counts_total : List ℕ → ℕ
counts_total counts = sum most_number (values counts)

-- every field is priced or refused, and each book may have one refusal more, for a broken end
unfoldable pub is_counted : Report → Bool
is_counted r =
    counts_within r.refused (r.fields + r.books)
    && (leb r.fields (r.priced + counts_total r.refused) && leb (r.priced + counts_total r.refused) (r.fields + r.books))

-- figures that so many books can give: no report of files has others
unfoldable pub is_report : Report → Bool
is_report r =
    leb (size_of r) most_size
    && (leb r.fields (r.books * most_fields)
    && (leb r.priced r.fields
    && (leb r.bonds (r.priced * value_limit)
    && (leb r.options (r.priced * value_limit)
    && (leb r.error_bounds (r.priced * most_error_bound)
    && (leb r.dearest r.bonds
    && (is_named r && is_counted r)))))))

abbrev pub refused_join : ℕ → Joined
refused_join number = record { number = number; report = empty_report }

abbrev pub given_join : Report → Joined
given_join r = record { number = 0; report = r }

-- a report that may be refused, as C sees it
abbrev pub joined_of : Result Report Refusal → Joined
joined_of (Ok report) = given_join report
joined_of (Err refusal) = refused_join (number_of refusal)

unfoldable pub joined_report : Report → Report → Joined
joined_report a b =
    cond (is_report a && is_report b)
    (cond (leb (size_of a + size_of b) most_size) (given_join (sum_report a b)) (refused_join 12))
    (refused_join 1)

-- one join after another: a refusal stays
unfoldable pub and_then : Joined → (Report → Joined) → Joined
and_then j next = cond (eqb j.number 0) (next j.report) j
