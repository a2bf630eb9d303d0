use mathlib.Core.Path.{◌∙◌}
use Rattle.arithmetic.proofs.Implied.{implied}
use Rattle.row_view.proofs.ViewLaws as laws
use Rattle.row_view.proofs.range_by_number.Goals as goal

pub returns-then-kind-eq1 : goal.returns-then-kind-eq1
returns-then-kind-eq1 c = c.row_range.ensures ∙ laws.numbered-discounts implied c.if-kind-eq1.true

pub returns-then-kind-eq2 : goal.returns-then-kind-eq2
returns-then-kind-eq2 c = c.row_range-then-kind-eq2.ensures ∙ laws.numbered-prices implied c.if-kind-eq1.false c.if-kind-eq2.true

pub returns : goal.returns
returns c = laws.numbered-otherwise implied c.if-kind-eq1.false c.if-kind-eq2.false
