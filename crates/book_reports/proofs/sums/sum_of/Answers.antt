use native.Mathlib.Omega.{arith}
use Rattle.report_laws.specs.Reports.{sum_report}
use Rattle.report_laws.proofs.SoundLaws.{Sound, report-sound, counts-small, book-most}
use Rattle.book_reports.proofs.sums.sum_of.Goals as goal
use Rattle.book_reports.proofs.sums.sum_of.Goals.{Start}

-- what is known of both reports
first : (s : Start) → Sound s.args.first
first s = report-sound s.args.first s.requires.0

second : (s : Start) → Sound s.args.second
second s = report-sound s.args.second s.requires.1

pub counts_of-counts-requires : goal.counts_of-counts-requires
counts_of-counts-requires c = (
  counts-small c.args.first (first (goal.at.counts_of-counts-requires c).Start),
  counts-small c.args.second (second (goal.at.counts_of-counts-requires c).Start),
)

pub overflow_add-result-2 : goal.overflow_add-result-2
overflow_add-result-2 c =
    let a = first (goal.at.overflow_add-result-2 c).Start in
    let b = second (goal.at.overflow_add-result-2 c).Start in
    omega (arith, c.requires.2)

pub overflow_add-result-3 : goal.overflow_add-result-3
overflow_add-result-3 c =
    let a = first (goal.at.overflow_add-result-3 c).Start in
    let b = second (goal.at.overflow_add-result-3 c).Start in
    omega (arith, a.priced, b.priced, c.requires.2)

pub overflow_add-result-4 : goal.overflow_add-result-4
overflow_add-result-4 c =
    let a = first (goal.at.overflow_add-result-4 c).Start in
    let b = second (goal.at.overflow_add-result-4 c).Start in
    omega (arith, a.priced, b.priced, a.bonds, b.bonds, c.requires.2)

pub overflow_add-result-5 : goal.overflow_add-result-5
overflow_add-result-5 c =
    let a = first (goal.at.overflow_add-result-5 c).Start in
    let b = second (goal.at.overflow_add-result-5 c).Start in
    omega (arith, a.priced, b.priced, a.options, b.options, c.requires.2)

pub overflow_add-result-6 : goal.overflow_add-result-6
overflow_add-result-6 c =
    let a = first (goal.at.overflow_add-result-6 c).Start in
    let b = second (goal.at.overflow_add-result-6 c).Start in
    omega (arith, a.priced, b.priced, a.error-bounds, b.error-bounds, c.requires.2)

pub overflow_add-first : goal.overflow_add-first
overflow_add-first c =
    omega (arith, book-most c.args.second (second (goal.at.overflow_add-first c).Start), c.requires.2)

pub returns : goal.returns
unfolding sum_report
returns c =
    rw (c.counts_of-counts.ensures, c.chosen.ensures, c.chosen-2.ensures, c.chosen-3.ensures, c.is_later-later.ensures)
