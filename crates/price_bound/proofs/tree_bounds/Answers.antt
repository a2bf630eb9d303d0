use mathlib.Core.Path.{refl, sym, ◌∙◌}
use Rattle.std.proofs.lemmas.Result.{err_from_is_err_and}
use Rattle.arithmetic.proofs.RefusalLaws.{refusal-some}
use Rattle.lent_tree.proofs.LentLaws.{lent, accepted}
use Rattle.price_bound.proofs.BoundLaws.{rows-bounded, bound-is, room-refused, range-refused, range-accepted, bounds-given}
use Rattle.price_bound.proofs.tree_bounds.Goals as goal

pub returns-in_err-room_cause : goal.returns-in_err-room_cause
returns-in_err-room_cause c =
    let p = err_from_is_err_and c.from_residual.result c.from_residual.ensures.1 in
    rw (p.1, p.2) (room-refused _ _ _ _ c.in_err-room_cause.ensures _ (refusal-some _) refl)

pub tree_range-requires : goal.tree_range-requires
tree_range-requires c = lent _ _ _ (sym c.in_ok-room_cause.ensures)

pub returns-in_default : goal.returns-in_default
returns-in_default c = range-refused _ _ _ _ c.in_ok-room_cause.ensures refl _ refl _ c.in_default.ensures refl

pub error_bound-requires : goal.error_bound-requires
error_bound-requires c =
    rows-bounded _ _ _ (accepted _ _ _ (sym (range-accepted _ _ _ _ c.in_ok-room_cause.ensures refl _ refl c.in-Some.ensures.0))) _
    c.in-Some.ensures.1

pub returns : goal.returns
returns c =
    let none = range-accepted _ _ _ _ c.in_ok-room_cause.ensures refl _ refl c.in-Some.ensures.0 in
    bounds-given _ _ _ 0 none refl _ _ (c.error_bound.ensures ∙ bound-is _ _ _ (accepted _ _ _ (sym none)) _ c.in-Some.ensures.1) c.in-Some.ensures.1
