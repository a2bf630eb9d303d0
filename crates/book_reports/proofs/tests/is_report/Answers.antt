use mathlib.Core.Path.{sym, ◌∙◌}
use native.Mathlib.Omega.{arith}
use Rattle.report_laws.proofs.SoundLaws.{unsound, unnamed-report, counts-last}
use Rattle.book_reports.proofs.tests.is_report.Goals as goal

pub returns-then-report-gt-MOST_SIZE : goal.returns-then-report-gt-MOST_SIZE
returns-then-report-gt-MOST_SIZE c = unsound _ (λ s. omega (arith, s.size, c.if-report-gt-MOST_SIZE.true))

pub returns-then-report : goal.returns-then-report
returns-then-report c = unsound _ (λ s. omega (arith, s.fields, c.if-report.true))

pub returns-then-report-gt-MOST_SIZE-2 : goal.returns-then-report-gt-MOST_SIZE-2
returns-then-report-gt-MOST_SIZE-2 c = unsound _ (λ s. omega (arith, s.size, c.if-report-gt-MOST_SIZE-2.true))

pub returns-then-report-2 : goal.returns-then-report-2
returns-then-report-2 c = unsound _ (λ s. omega (arith, s.priced, c.if-report-2.true))

pub returns-then-report-3 : goal.returns-then-report-3
returns-then-report-3 c = unsound _ (λ s. omega (arith, s.bonds, c.if-report-3.true))

pub returns-then-report-4 : goal.returns-then-report-4
returns-then-report-4 c = unsound _ (λ s. omega (arith, s.options, c.if-report-4.true))

pub returns-then-report-5 : goal.returns-then-report-5
returns-then-report-5 c = unsound _ (λ s. omega (arith, s.error-bounds, c.if-report-5.true))

pub returns-then-report-6 : goal.returns-then-report-6
returns-then-report-6 c = unsound _ (λ s. omega (arith, s.dearest, c.if-report-6.true))

pub returns-then-not-is_named : goal.returns-then-not-is_named
returns-then-not-is_named c = unnamed-report _ (sym c.is_named.ensures ∙ c.if-not-is_named.true)

pub is_counted-requires : goal.is_counted-requires
is_counted-requires c =
    (c.if-report-gt-MOST_SIZE-2.false, c.if-report-2.false)

pub returns : goal.returns
returns c =
    c.is_counted.ensures
    ∙ counts-last _ c.if-report-gt-MOST_SIZE-2.false c.if-report.false c.if-report-2.false c.if-report-3.false c.if-report-4.false c.if-report-5.false
    c.if-report-6.false
    (sym c.is_named.ensures ∙ c.if-not-is_named.false)
