use mathlib.Core.Path.{sym, ◌∙◌}
use Rattle.arithmetic.proofs.PowerLaws.{power-listed, power-past}
use Rattle.arithmetic.proofs.power_of_ten.Goals as goal

pub returns-then-exponent-lt19 : goal.returns-then-exponent-lt19
returns-then-exponent-lt19 c = c.table_entry.ensures ∙ sym (power-listed _ c.before.if-exponent-lt19.true)

pub returns-else-exponent-lt19 : goal.returns-else-exponent-lt19
returns-else-exponent-lt19 c = sym (power-past _ c.if-exponent-lt19.false)
