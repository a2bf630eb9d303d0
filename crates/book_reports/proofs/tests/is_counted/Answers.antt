use mathlib.Core.Path.{◌≡◌, sym, ap, ◌∙◌}
use mathlib.Core.Bool.{true}
use Prim.Native.Nat.{ℕ, ◌+◌}
use lib.ListN.{length}
use mathlib.Core.List.{List}
use Rattle.std.specs.List.{sum}
use Rattle.arithmetic.specs.Row.{sum_of, values}
use Rattle.arithmetic.specs.Sum as sums
use Rattle.arithmetic.proofs.ListSums.{sum-listed}
use native.Mathlib.Omega.{arith}
use borrow.Author.Rules.{rules}
use Rattle.book_laws.specs.Bounds.{most_number}
use Rattle.book_laws.specs.Books.{counts_within}
use Rattle.book_laws.proofs.OpenLaws.{counts-tested, counts-within, within-counts}
use Rattle.report_laws.specs.Joins.{most_size, counts_total}
use Rattle.report_laws.proofs.SoundLaws.{uncounted, counted-less, counted-last, total-most}
use Rattle.book_reports.proofs.tests.is_counted.Goals as goal
use Rattle.book_reports.proofs.tests.is_counted.Goals.{Else-not-all_between, Start}

-- a report has thirteen counts
sized : (s : Start) → length s.args.report.refused ≡ most_number
sized s = search rules

-- the sum of the counts, as the iterator has it
added : (counts : List ℕ) → length counts ≡ most_number → sum counts ≡ counts_total counts
unfolding sum_of counts_total
added counts long = sum-listed counts ∙ ap (λ (n : ℕ). sums.sum n (values counts)) long

pub slice_bounds-all_between-end : goal.slice_bounds-all_between-end
slice_bounds-all_between-end c = sym (sized (goal.at.slice_bounds-all_between-end c).Start)

pub returns-then-not-all_between : goal.returns-then-not-all_between
returns-then-not-all_between c =
    uncounted _ (sym (counts-tested _ _ (sized (goal.at.returns-then-not-all_between c).Start)) ∙ sym c.all_between.ensures ∙ c.if-not-all_between.true)

-- the counts are within, and so they are small
within : (c : Else-not-all_between) → counts_within c.args.report.refused
    (c.args.report.fields + c.args.report.books) ≡ true
within c =
    sym (counts-tested _ _ (sized (goal.at.Else-not-all_between c).Start)) ∙ sym c.all_between.ensures ∙ c.if-not-all_between.false

small : (c : Else-not-all_between) → counts_within c.args.report.refused most_size ≡ true
small c =
    within-counts _ most_size (λ k l. omega (arith, counts-within _ _ k (within c) l, c.requires.0))

pub counts_total-requires : goal.counts_total-requires
counts_total-requires c =
    omega (arith, total-most _ (small c), added c.args.report.refused (sized (goal.at.counts_total-requires c).Start))

pub overflow_add-total : goal.overflow_add-total
overflow_add-total c =
    omega (
      arith,
      total-most _ (small (goal.at.overflow_add-total c).Else-not-all_between),
      (c.counts_total.ensures ∙ added _ (sized (goal.at.overflow_add-total c).Start)),
      c.requires.0,
      c.requires.1,
    )

pub returns-then-total-report : goal.returns-then-total-report
returns-then-total-report c =
    let r = c.args.report in
    counted-less r (within (goal.at.returns-then-total-report c).Else-not-all_between) _
    (ap (λ (x : ℕ). r.priced + x) (c.counts_total.ensures ∙ added _ (sized (goal.at.returns-then-total-report c).Start))) c.if-total-report.true

pub returns : goal.returns
returns c =
    let r = c.args.report in
    counted-last r (within (goal.at.returns c).Else-not-all_between) _
    (ap (λ (x : ℕ). r.priced + x) (c.counts_total.ensures ∙ added _ (sized (goal.at.returns c).Start))) c.if-total-report.false
