use mathlib.Core.Path.{sym, ◌∙◌}
use Rattle.curve.proofs.CurveLaws.{place-rows, place-kinds, place-figures, place_short, place-each}
use Rattle.curve.proofs.is_in_place.Goals as goal

pub returns-then-rows-steps : goal.returns-then-rows-steps
returns-then-rows-steps c =
    sym (place-rows _ _ _ _ c.if-rows-steps.true)

pub returns-then-kinds-steps : goal.returns-then-kinds-steps
returns-then-kinds-steps c =
    sym (place-kinds _ _ _ _ c.if-rows-steps.false c.if-kinds-steps.true)

pub returns-then-figures-steps : goal.returns-then-figures-steps
returns-then-figures-steps c =
    sym (place-figures _ _ _ _ c.if-rows-steps.false c.if-kinds-steps.false c.if-figures-steps.true)

pub returns-then-room-steps : goal.returns-then-room-steps
returns-then-room-steps c =
    sym (place_short _ _ _ _ c.if-rows-steps.false c.if-kinds-steps.false c.if-figures-steps.false c.if-room-steps.true)

pub returns : goal.returns
returns c =
    c.in_order.ensures
    ∙ sym (place-each _ _ _ _ c.if-rows-steps.false c.if-kinds-steps.false c.if-figures-steps.false c.if-room-steps.false)
