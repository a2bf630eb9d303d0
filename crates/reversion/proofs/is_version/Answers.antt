use Rattle.reversion.proofs.ReversionLaws.{version-first, version-rest}
use Rattle.reversion.proofs.is_version.Goals as goal

pub returns-then-version-eq1 : goal.returns-then-version-eq1
returns-then-version-eq1 c = version-first _ c.if-version-eq1.true

pub returns : goal.returns
returns c = version-rest _ c.if-version-eq1.false
