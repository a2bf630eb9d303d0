use mathlib.Core.Path.{sym, refl}
use Rattle.arithmetic.proofs.RefusalLaws.{refusal-some}
use Rattle.shelf_laws.proofs.SlotLaws.{nodes-none, nodes-status, nodes-refused, nodes-answered}
use borrow.Author.Rules.{rules}
use Rattle.shelf.proofs.slots.nodes_of.Goals as goal

pub returns-then-slot-eq0 : goal.returns-then-slot-eq0
returns-then-slot-eq0 c = sym (nodes-none _ (search rules))

pub returns-then-slot-gt2 : goal.returns-then-slot-gt2
returns-then-slot-gt2 c = sym (nodes-status _ (search rules))

pub returns-in_default : goal.returns-in_default
returns-in_default c =
    nodes-refused c.args.slot (search rules) (search rules) _ c.in_default.ensures (refusal-some _)

pub returns : goal.returns
returns c = nodes-answered c.args.slot (search rules) (search rules) _ c.in-Ok.ensures refl
