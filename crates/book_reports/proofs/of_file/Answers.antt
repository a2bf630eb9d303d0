use mathlib.Core.Path.{ap, ◌∙◌}
use Rattle.report_laws.specs.Reports.{book_report}
use Rattle.book_reports.proofs.of_file.Goals as goal

pub returns : goal.returns
returns c = c.of_book.ensures ∙ ap book_report c.file_book.ensures
