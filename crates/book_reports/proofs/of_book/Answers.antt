use Rattle.report_laws.specs.Reports.{book_report}
use Rattle.book_reports.proofs.of_book.Goals as goal

pub returns : goal.returns
unfolding book_report
returns c = rw c.chosen.ensures
