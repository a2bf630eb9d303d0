use Rattle.limits.proofs.LimitLaws.{limit-above, limit-kept}
use Rattle.limits.proofs.limit_cause.Goals as goal

pub returns-then-value-gt-VALUE_LIMIT : goal.returns-then-value-gt-VALUE_LIMIT
returns-then-value-gt-VALUE_LIMIT c = limit-above _ c.if-value-gt-VALUE_LIMIT.true

pub returns-else-value-gt-VALUE_LIMIT : goal.returns-else-value-gt-VALUE_LIMIT
returns-else-value-gt-VALUE_LIMIT c = limit-kept _ c.if-value-gt-VALUE_LIMIT.false
