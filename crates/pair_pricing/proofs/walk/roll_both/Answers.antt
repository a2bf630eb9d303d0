use Rattle.std.proofs.Common.{◌-◌, arith}
use Rattle.exercise.specs.Terms.{side}
use Rattle.pricing_laws.specs.inside.Marks.{marked}
use Rattle.pricing.proofs.TreeRows.{flow-within}
use Rattle.pair_laws.proofs.WalkStates.{bonds-limited, bonds-over, bonds-step, options-limited, options-over}
use Rattle.pair_laws.proofs.WalkStates.{options-step, both-bond, both-option, both-rolled, marked-listed}
use Rattle.pair_pricing.proofs.walk.roll_both.Goals as goal

pub flow_of-flow-requires : goal.flow_of-flow-requires
flow_of-flow-requires c = omega (arith, c.requires.0.paid.count, c.loop-row.invariant.0.in_tree)

pub bond_row-top-requires : goal.bond_row-top-requires
bond_row-top-requires c =
    let t = c.args.trees in
    let l = c.loop-row in
    let flows = c.args.flows.now in (
      c.requires.0.trees,
      c.requires.1,
      omega (arith, l.invariant.0.in_tree),
      omega (arith, c.flow_of-flow.ensures, flow-within t.steps flows c.requires.0.paid (l.row - 1) (omega (arith, l.invariant.0.in_tree))),
      bonds-limited t.steps t.rate t.spread c.args.rates.now c.args.spreads.now flows c.requires.0 l.row l.bond (omega arith) l.invariant.0,
    )

pub returns-then-top-gt-VALUE_LIMIT : goal.returns-then-top-gt-VALUE_LIMIT
returns-then-top-gt-VALUE_LIMIT c =
    let t = c.args.trees in
    let m = c.args.terms in
    let l = c.loop-row in
    both-bond t.steps t.rate t.spread c.args.rates.now c.args.spreads.now c.args.flows.now (side m.call) m.strike
    (marked m.last c.args.marks.now) 0 _ _
    (bonds-over t.steps t.rate t.spread c.args.rates.now c.args.spreads.now c.args.flows.now c.requires.0 l.row l.bond (omega arith)
    l.invariant.0 _ _ _ c.flow_of-flow.ensures c.bond_row-top.ensures c.if-top-gt-VALUE_LIMIT.true)

pub bounds-marks-row : goal.bounds-marks-row
bounds-marks-row c = omega (arith, c.requires.2.marked-rows)

pub option_row-above-requires : goal.option_row-above-requires
option_row-above-requires c =
    let t = c.args.trees in
    let m = c.args.terms in
    let l = c.loop-row in (
      c.requires.0.trees,
      c.requires.1,
      omega (arith, l.invariant.0.in_tree),
      options-limited t.steps t.rate t.spread c.args.rates.now c.args.spreads.now c.args.flows.now c.requires.0 (side m.call) m.strike
          (marked m.last c.args.marks.now) l.row l.option (omega arith) l.invariant.1,
    )

pub returns-then-above-gt-VALUE_LIMIT : goal.returns-then-above-gt-VALUE_LIMIT
returns-then-above-gt-VALUE_LIMIT c =
    let t = c.args.trees in
    let m = c.args.terms in
    let l = c.loop-row in
    both-option t.steps t.rate t.spread c.args.rates.now c.args.spreads.now c.args.flows.now (side m.call) m.strike
    (marked m.last c.args.marks.now) 0 _ _
    (options-over t.steps t.rate t.spread c.args.rates.now c.args.spreads.now c.args.flows.now c.requires.0 (side m.call) m.strike
    (marked m.last c.args.marks.now) l.row l.option (omega arith) l.invariant.1 l.bond _ l.invariant.0 _ _ c.bond_row-top.ensures _
    (marked-listed m.last c.args.marks.now (l.row - 1)) _ _ c.option_row-above.ensures c.if-above-gt-VALUE_LIMIT.true)

pub loop-row-preserved : goal.loop-row-preserved
loop-row-preserved c =
    let t = c.args.trees in
    let m = c.args.terms in
    let l = c.loop-row in (
      bonds-step t.steps t.rate t.spread c.args.rates.now c.args.spreads.now c.args.flows.now c.requires.0 l.row l.bond (omega arith)
          l.invariant.0 _ _ _ c.flow_of-flow.ensures c.bond_row-top.ensures c.if-top-gt-VALUE_LIMIT.false,
      options-step t.steps t.rate t.spread c.args.rates.now c.args.spreads.now c.args.flows.now c.requires.0 (side m.call) m.strike
          (marked m.last c.args.marks.now) l.row l.option (omega arith) l.invariant.1 l.bond _ l.invariant.0 _ _ c.bond_row-top.ensures _
          (marked-listed m.last c.args.marks.now (l.row - 1)) _ _ c.option_row-above.ensures c.if-above-gt-VALUE_LIMIT.false,
    )

pub returns : goal.returns
returns c =
    let t = c.args.trees in
    let m = c.args.terms in
    let l = c.loop-row in
    both-rolled t.steps t.rate t.spread c.args.rates.now c.args.spreads.now c.args.flows.now (side m.call) m.strike
    (marked m.last c.args.marks.now) l.row l.bond l.option (omega arith) l.invariant.0 l.invariant.1
