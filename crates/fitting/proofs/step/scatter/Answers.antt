use native.Mathlib.Omega.{arith}
use Rattle.arithmetic.proofs.RowLaws.{added-thrice}
use Rattle.arithmetic.proofs.Implied.{implied}
use Rattle.fitting.proofs.StepRows as laws
use Rattle.fitting.proofs.step.scatter.Goals as goal

pub overflow_mul-probabilities : goal.overflow_mul-probabilities
overflow_mul-probabilities c = omega (arith, laws.up_small c.requires)

pub add_at-requires : goal.add_at-requires
add_at-requires c = laws.up_fits c.requires

pub overflow_mul-probabilities-2 : goal.overflow_mul-probabilities-2
overflow_mul-probabilities-2 c = omega (arith, laws.middle-small c.requires)

pub add_at-requires-2 : goal.add_at-requires-2
add_at-requires-2 c =
    laws.middle-fits c.requires c.add_at.ensures

pub overflow_mul-probabilities-3 : goal.overflow_mul-probabilities-3
overflow_mul-probabilities-3 c = omega (arith, laws.down-small c.requires)

pub add_at-requires-3 : goal.add_at-requires-3
add_at-requires-3 c =
    laws.down_fits c.requires c.add_at.ensures c.add_at-2.ensures

pub returns : goal.returns
returns c =
    added-thrice c.args.next.now implied c.add_at.ensures c.add_at-2.ensures c.add_at-3.ensures
