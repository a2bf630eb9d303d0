use native.Mathlib.Omega.{arith}
use Rattle.report_laws.proofs.SoundLaws.{misnamed, name-none, name-last}
use Rattle.book_reports.proofs.tests.is_named.Goals as goal

pub returns-then-report-ne0 : goal.returns-then-report-ne0
returns-then-report-ne0 c = misnamed _ (λ n. c.if-report-ne0.true (n.none c.if-report-eq0.true).0)

pub returns-then-report-eq0 : goal.returns-then-report-eq0
returns-then-report-eq0 c = name-none _ c.if-report-eq0.true c.if-report-ne0.false

pub returns-then-report-lt1 : goal.returns-then-report-lt1
returns-then-report-lt1 c = misnamed _ (λ n. omega (arith, (n.some c.if-report-eq0.false).0, c.if-report-lt1.true))

pub returns-then-report-gt-MOST_FIELDS : goal.returns-then-report-gt-MOST_FIELDS
returns-then-report-gt-MOST_FIELDS c = misnamed _ (λ n. omega (arith, (n.some c.if-report-eq0.false).1, c.if-report-gt-MOST_FIELDS.true))

pub returns-then-report-lt1-2 : goal.returns-then-report-lt1-2
returns-then-report-lt1-2 c = misnamed _ (λ n. omega (arith, (n.some c.if-report-eq0.false).2, c.if-report-lt1-2.true))

pub returns : goal.returns
returns c =
    name-last _ c.if-report-eq0.false c.if-report-lt1.false c.if-report-gt-MOST_FIELDS.false c.if-report-lt1-2.false
