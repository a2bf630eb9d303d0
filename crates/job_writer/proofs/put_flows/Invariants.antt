use mathlib.Core.Path.{◌≡◌}
use Rattle.arithmetic.specs.Row.{place}
use Rattle.job_record.specs.Grammar.{joined}
use Rattle.writer_laws.specs.inside.Parts.{flow_of}
use Rattle.job_writer.proofs.put_flows.Given as goal

abbrev pub invariant-loop-i : goal.invariant-loop-i
invariant-loop-i l = l.out ≡ place l.initial.out l.from (joined l.i (flow_of l.flows))
