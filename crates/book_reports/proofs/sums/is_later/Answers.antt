use Rattle.report_laws.proofs.SoundLaws.{later_second, later-only, later-dearer}
use Rattle.book_reports.proofs.sums.is_later.Goals as goal

pub returns-then-second-eq0 : goal.returns-then-second-eq0
returns-then-second-eq0 c = later_second _ _ c.if-second-eq0.true

pub returns-then-first-eq0 : goal.returns-then-first-eq0
returns-then-first-eq0 c = later-only _ _ c.if-second-eq0.false c.if-first-eq0.true

pub returns : goal.returns
returns c = later-dearer _ _ c.if-second-eq0.false c.if-first-eq0.false
