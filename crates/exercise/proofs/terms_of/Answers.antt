use mathlib.Core.Path.{refl}
use Rattle.exercise.proofs.NodeLaws.{terms-built, call-by-first, call-by-second}
use Rattle.exercise.proofs.terms_of.Goals as goal

pub returns-then-kind-eq1 : goal.returns-then-kind-eq1
returns-then-kind-eq1 c = terms-built _ _ _ _ (call-by-first c.args.kind _ c.if-kind-eq1.true refl)

pub returns-else-kind-eq1 : goal.returns-else-kind-eq1
returns-else-kind-eq1 c = terms-built _ _ _ _ (call-by-second c.args.kind _ c.if-kind-eq1.false refl)
