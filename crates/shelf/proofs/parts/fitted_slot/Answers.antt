use mathlib.Core.Path.{ap, ◌∙◌}
use Rattle.price_bound.specs.PriceBound.{tree_bounds_answer}
use Rattle.shelf_laws.proofs.PartLaws.{lent-part}
use Rattle.shelf_laws.proofs.SlotLaws.{fitted-is}
use Rattle.shelf.proofs.parts.fitted_slot.Goals as goal

pub returns : goal.returns
returns c =
    let a = c.args in
    let t = a.tree in
    let lent = ap (tree_bounds_answer t.steps t.reversion) (lent-part a.memory.now t.start t.count) in
    fitted-is _ _ _ _ (c.from-found.ensures ∙ c.tree_bounds.ensures ∙ lent)
