use mathlib.Core.Path.{◌≡◌, ◌∙◌}
use native.Mathlib.Omega.{arith}
use Rattle.shelf_laws.proofs.NameLaws.{Known, known, cause-there, cause-outside, located-none, located-is}
use Rattle.shelf.proofs.tree_of.Goals as goal
use Rattle.shelf.proofs.tree_of.Goals.{Else-status-gt2}

-- the name has a tree
told : (c : Else-status-gt2) → Known c.args.shelf.slots c.args.name
told c = known c.args.shelf.slots c.args.name (omega arith)

pub returns-then-status-eq0 : goal.returns-then-status-eq0
returns-then-status-eq0 c =
    let a = c.args in
    let s = c.status_of-status in
    c.no_tree.ensures
    ∙ located-none a.shelf.slots a.name
    (cause-outside a.shelf.slots a.name s.result s.ensures (λ (e : s.result ≡ 1). omega arith) (λ (e : s.result ≡ 2). omega arith))

pub returns-then-status-gt2 : goal.returns-then-status-gt2
returns-then-status-gt2 c =
    let a = c.args in
    let s = c.status_of-status in
    c.no_tree-then-status-gt2.ensures
    ∙ located-none a.shelf.slots a.name
    (cause-outside a.shelf.slots a.name s.result s.ensures (λ (e : s.result ≡ 1). omega arith) (λ (e : s.result ≡ 2). omega arith))

pub overflow_sub-name : goal.overflow_sub-name
overflow_sub-name c = omega (arith, (told c).low)

pub slot_at-slot-requires : goal.slot_at-slot-requires
slot_at-slot-requires c = omega (arith, (told c).low, (told c).high)

pub overflow_sub-name-2 : goal.overflow_sub-name-2
overflow_sub-name-2 c = omega (arith, (told (goal.at.overflow_sub-name-2 c).Else-status-gt2).low)

pub nodes_before-requires : goal.nodes_before-requires
nodes_before-requires c =
    let found = told (goal.at.nodes_before-requires c).Else-status-gt2 in
    omega (arith, found.low, found.high)

pub returns : goal.returns
returns c =
    let status = c.status_of-status in
    located-is _ _ (cause-there _ _ status.result status.ensures (omega arith) (omega arith)) _ _ _
    c.slot_at-slot.ensures c.nodes_before.ensures c.nodes_of.ensures
