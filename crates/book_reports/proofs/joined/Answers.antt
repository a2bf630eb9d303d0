use mathlib.Core.Path.{◌≡◌, sym, ap, ◌∙◌}
use mathlib.Core.Bool.{true}
use Prim.Native.Nat.{◌≤◌}
use native.Mathlib.Omega.{arith}
use Rattle.report_laws.specs.Joins.{size_of, most_size, is_report, given_join}
use Rattle.report_laws.proofs.SoundLaws.{report-sound}
use Rattle.report_laws.proofs.JoinLaws.{first-refused, second-refused, too_many, join-given}
use Rattle.book_reports.proofs.joined.Goals as goal
use Rattle.book_reports.proofs.joined.Goals.{Else-not-is_report, Else-not-is_report-2}

pub returns-then-not-is_report : goal.returns-then-not-is_report
returns-then-not-is_report c = first-refused _ _ (sym c.is_report.ensures ∙ c.if-not-is_report.true)

-- the first report is one
first : (c : Else-not-is_report) → is_report c.args.first ≡ true
first c = sym c.is_report.ensures ∙ c.if-not-is_report.false

pub returns-then-not-is_report-2 : goal.returns-then-not-is_report-2
returns-then-not-is_report-2 c =
    second-refused _ _ (first (goal.at.returns-then-not-is_report-2 c).Else-not-is_report) (sym c.is_report-2.ensures ∙ c.if-not-is_report-2.true)

-- and so is the second
second : (c : Else-not-is_report-2) → is_report c.args.second ≡ true
second c = sym c.is_report-2.ensures ∙ c.if-not-is_report-2.false

pub overflow_add-size : goal.overflow_add-size
overflow_add-size c =
    let a = report-sound c.args.first (first (goal.at.overflow_add-size c).Else-not-is_report) in
    omega (arith, a.size)

-- the sizes of both, each small
sizes : (c : Else-not-is_report-2) →
    (size_of c.args.first ≤ most_size)
    × (size_of c.args.second ≤ most_size)
sizes c = (
  (report-sound c.args.first (first (goal.at.Else-not-is_report-2 c).Else-not-is_report)).size,
  (report-sound c.args.second (second c)).size,
)

pub overflow_add-size-2 : goal.overflow_add-size-2
overflow_add-size-2 c = omega (arith, (sizes (goal.at.overflow_add-size-2 c).Else-not-is_report-2).1)

pub overflow_add-size-3 : goal.overflow_add-size-3
overflow_add-size-3 c =
    let s = sizes (goal.at.overflow_add-size-3 c).Else-not-is_report-2 in
    omega (arith, s.0, s.1)

pub returns-then-size-gt-MOST_SIZE : goal.returns-then-size-gt-MOST_SIZE
returns-then-size-gt-MOST_SIZE c =
    too_many _ _ (first (goal.at.returns-then-size-gt-MOST_SIZE c).Else-not-is_report)
    (second (goal.at.returns-then-size-gt-MOST_SIZE c).Else-not-is_report-2) c.if-size-gt-MOST_SIZE.true

pub sum_of-requires : goal.sum_of-requires
sum_of-requires c =
    (first (goal.at.sum_of-requires c).Else-not-is_report, second (goal.at.sum_of-requires c).Else-not-is_report-2, c.if-size-gt-MOST_SIZE.false)

pub returns : goal.returns
returns c =
    ap given_join c.sum_of.ensures
    ∙ join-given _ _ (first (goal.at.returns c).Else-not-is_report) (second (goal.at.returns c).Else-not-is_report-2) c.if-size-gt-MOST_SIZE.false
