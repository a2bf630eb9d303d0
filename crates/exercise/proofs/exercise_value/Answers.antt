use Rattle.exercise.proofs.NodeLaws.{call-value, put-value}
use Rattle.exercise.proofs.exercise_value.Goals as goal

pub returns-then-call : goal.returns-then-call
returns-then-call c = call-value _ _ _ _ c.if-call.true c.excess.ensures

pub returns : goal.returns
returns c = put-value _ _ _ _ c.if-call.false c.excess-2.ensures
