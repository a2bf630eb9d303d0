use mathlib.Core.Path.{refl}
use native.Mathlib.Omega.{arith}
use Rattle.arithmetic.proofs.RowLaws.{filled-start, filled_next, filled-all}
use Rattle.book_laws.proofs.OpenLaws.{counts-within}
use Rattle.report_laws.specs.Joins.{most_size}
use Rattle.book_reports.proofs.sums.counts_of.Goals as goal

pub loop-k-init : goal.loop-k-init
loop-k-init c = filled-start _ _

pub overflow_add-sums : goal.overflow_add-sums
overflow_add-sums c =
    let k = c.loop-k.k in
    omega (
      arith,
      counts-within c.args.first most_size k c.requires.0 (omega arith),
      counts-within c.args.second most_size k c.requires.1 (omega arith),
    )

pub loop-k-preserved : goal.loop-k-preserved
loop-k-preserved c =
    filled_next c.loop-k.invariant (omega arith) refl

pub returns : goal.returns
returns c = filled-all _ _ _ c.loop-k.k c.loop-k.invariant (omega arith)
