use Rattle.exercise.specs.Terms.{side}
use Rattle.pricing_laws.specs.inside.Marks.{marked}
use Rattle.pair_laws.proofs.WalkStates.{options-marked, both-over}
use Rattle.pair_pricing.proofs.walk.roll_option.Goals as goal

pub returns-then-number-ne0 : goal.returns-then-number-ne0
returns-then-number-ne0 c =
    let t = c.args.trees in
    let m = c.args.terms in
    both-over t.steps t.rate t.spread c.args.rates.now c.args.spreads.now c.args.flows.now (side m.call) m.strike
    (marked m.last c.args.marks.now) _ _ _ _ c.roll_bond-number.ensures c.if-number-ne0.true

pub roll_both-requires : goal.roll_both-requires
roll_both-requires c =
    let t = c.args.trees in
    let m = c.args.terms in
    let held = c.roll_bond-number.ensures.held c.if-number-ne0.false in (
      c.requires.0,
      c.requires.1,
      c.requires.2,
      held,
      options-marked t.steps t.rate t.spread c.args.rates.now c.args.spreads.now c.args.flows.now c.requires.0
          (side m.call) m.strike m.last c.args.marks.now _ _ _ c.requires.2.strike-most c.flow_of.ensures held c.expiry_row.ensures,
    )
