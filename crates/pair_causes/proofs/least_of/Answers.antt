use Rattle.std.proofs.Common.{◌≡◌, ◌∙◌, ℕ, length, sym, ap, arith}
use Rattle.arithmetic.specs.Row.{values}
use Rattle.pair_laws.specs.PairCauses.{least}
use Rattle.pair_laws.proofs.CauseLaws.{least-none, least-next}
use Rattle.pair_causes.proofs.least_of.Goals as goal
use Rattle.pair_causes.proofs.least_of.Goals.{else-x-best, then-x-best}

pub loop-x-init : goal.loop-x-init
loop-x-init c = sym (least-none _)

pub loop-x-preserved : goal.loop-x-preserved
loop-x-preserved c =
    let e = least-next c.loop-x.x-index (values c.args.xs.now) in
    elim c.if-x-best.branch [ then-x-best w ↦ omega arith | else-x-best w ↦ omega arith ]

pub returns : goal.returns
returns c =
    let all : c.loop-x.x-index ≡ length c.args.xs.now = omega arith in
    c.loop-x.invariant ∙ ap (λ (n : ℕ). least n (values c.args.xs.now)) all
