use Rattle.book_laws.proofs.ReportLaws.{Standing}
use Rattle.book_lines.proofs.put_refusals.Given as goal

abbrev pub invariant-loop-index : goal.invariant-loop-index
invariant-loop-index l = Standing l.counts l.initial.out l.end l.out l.start l.index
