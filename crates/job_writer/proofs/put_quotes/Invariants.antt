use mathlib.Core.Path.{◌≡◌}
use Rattle.arithmetic.specs.Row.{place}
use Rattle.job_record.specs.Grammar.{joined}
use Rattle.writer_laws.specs.inside.Parts.{quote_of}
use Rattle.job_writer.proofs.put_quotes.Given as goal

abbrev pub invariant-loop-i : goal.invariant-loop-i
invariant-loop-i l = l.out ≡ place l.initial.out l.from (joined l.i (quote_of l.kinds l.figures))
