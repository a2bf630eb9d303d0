use Rattle.std.proofs.Common.{arith, ℕ, sym, ap, ◌∙◌}
use Rattle.arithmetic.specs.Row.{values}
use Rattle.arithmetic.specs.Sum.{greatest}
use Rattle.arithmetic.proofs.SumLaws.{greatest-none, greatest-next}
use Rattle.arithmetic.proofs.greatest_of.Goals as goal
use Rattle.arithmetic.proofs.greatest_of.Goals.{else-best-x, then-best-x}

pub loop-k-init : goal.loop-k-init
loop-k-init c = (omega arith, sym (greatest-none _))

pub next_above-k-requires : goal.next_above-k-requires
next_above-k-requires c =
    let e = greatest-next c.loop-k.k (values c.args.xs.now) in
    elim c.if-best-x.branch [ then-best-x w ↦ omega arith | else-best-x w ↦ omega arith ]

pub returns : goal.returns
returns c = c.loop-k.invariant.1 ∙ ap (λ (k : ℕ). greatest k (values c.args.xs.now)) (omega arith)
