use mathlib.Core.Path.{sym}
use Rattle.limits.specs.Limits.{most_steps}
use Rattle.limits.proofs.LimitLaws.{from-one-none, from-one-rest}
use Rattle.limits.proofs.is_steps.Goals as goal

pub returns-then-steps-lt1 : goal.returns-then-steps-lt1
returns-then-steps-lt1 c = sym (from-one-none most_steps c.args.steps c.if-steps-lt1.true)

pub returns : goal.returns
returns c = sym (from-one-rest most_steps c.args.steps c.if-steps-lt1.false)
