use mathlib.Core.Path.{sym, ap, ◌∙◌}
use native.Mathlib.Omega.{arith}
use Rattle.shelf_laws.specs.declared.Slot.{Slot}
use Rattle.shelf_laws.proofs.NameLaws.{status-zero, status-high, status-broken, status-good}
use borrow.Author.Rules.{rules}
use Rattle.shelf.proofs.slots.status_of.Goals as goal

pub returns-then-name-eq0 : goal.returns-then-name-eq0
returns-then-name-eq0 c = let a = c.args in sym (status-zero a.shelf.slots a.name (search rules))

pub returns-then-name-gt8 : goal.returns-then-name-gt8
returns-then-name-gt8 c = let a = c.args in sym (status-high a.shelf.slots a.name (search rules))

pub returns-then-nodes_before-ge-TOO_MANY : goal.returns-then-nodes_before-ge-TOO_MANY
returns-then-nodes_before-ge-TOO_MANY c = let a = c.args in sym (status-broken a.shelf.slots a.name (search rules) (search rules) (omega arith))

pub returns : goal.returns
returns c =
    let a = c.args in
    ap (λ (t : Slot). t.status) c.slot_at-slot.ensures ∙ sym (status-good a.shelf.slots a.name (search rules) (search rules) (omega arith))
