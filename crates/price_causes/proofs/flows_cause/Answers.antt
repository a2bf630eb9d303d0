use Rattle.price_causes.proofs.CheckLaws.{flows-miscounted, flow-refused, flows-passed}
use Rattle.price_causes.proofs.flows_cause.Goals as goal

pub returns-then-flows-steps : goal.returns-then-flows-steps
returns-then-flows-steps c = flows-miscounted _ _ c.if-flows-steps.true

pub returns-then-not-all_between : goal.returns-then-not-all_between
returns-then-not-all_between c = flow-refused _ _ c.if-flows-steps.false _ c.all_between.ensures (c.if-not-all_between.true)

pub returns : goal.returns
returns c = flows-passed _ _ c.if-flows-steps.false _ c.all_between.ensures (c.if-not-all_between.false)
