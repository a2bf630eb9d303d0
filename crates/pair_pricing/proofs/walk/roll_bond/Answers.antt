use Rattle.std.proofs.Common.{◌-◌, refl, arith}
use Rattle.pricing.proofs.TreeRows.{flow-within}
use Rattle.pair_laws.proofs.WalkStates.{bonds-first, bonds-limited, bonds-over, bonds-step, bond-refused, bond-rolled}
use Rattle.pair_pricing.proofs.walk.roll_bond.Goals as goal

pub flow_of-requires : goal.flow_of-requires
flow_of-requires c = omega (arith, c.requires.0.paid.count)

pub loop-row-init : goal.loop-row-init
loop-row-init c =
    let t = c.args.trees in (
      c.requires.2,
      bonds-first t.steps t.rate t.spread c.args.rates.now c.args.spreads.now c.args.flows.now c.requires.0 _ _ _
          c.flow_of.ensures refl (λ k h. c.fill.ensures.clones k 0 (omega arith) refl),
    )

pub flow_of-flow-requires : goal.flow_of-flow-requires
flow_of-flow-requires c = omega (arith, c.requires.0.paid.count)

pub bond_row-top-requires : goal.bond_row-top-requires
bond_row-top-requires c =
    let t = c.args.trees in
    let l = c.loop-row in
    let flows = c.args.flows.now in (
      c.requires.0.trees,
      c.requires.1,
      omega arith,
      omega (arith, c.flow_of-flow.ensures, flow-within t.steps flows c.requires.0.paid (l.row - 1) (omega arith)),
      bonds-limited t.steps t.rate t.spread c.args.rates.now c.args.spreads.now flows c.requires.0 l.row l.bond (omega arith) l.invariant.1,
    )

pub returns-then-top-gt-VALUE_LIMIT : goal.returns-then-top-gt-VALUE_LIMIT
returns-then-top-gt-VALUE_LIMIT c =
    let t = c.args.trees in
    let l = c.loop-row in
    bond-refused t.steps t.rate t.spread c.args.rates.now c.args.spreads.now c.args.flows.now c.args.last _
    (bonds-over t.steps t.rate t.spread c.args.rates.now c.args.spreads.now c.args.flows.now c.requires.0 l.row l.bond (omega arith)
    l.invariant.1 _ _ _ c.flow_of-flow.ensures c.bond_row-top.ensures c.if-top-gt-VALUE_LIMIT.true)

pub loop-row-preserved : goal.loop-row-preserved
loop-row-preserved c =
    let t = c.args.trees in
    let l = c.loop-row in (
      omega arith,
      bonds-step t.steps t.rate t.spread c.args.rates.now c.args.spreads.now c.args.flows.now c.requires.0 l.row l.bond (omega arith)
          l.invariant.1 _ _ _ c.flow_of-flow.ensures c.bond_row-top.ensures c.if-top-gt-VALUE_LIMIT.false,
    )

pub returns : goal.returns
returns c =
    let t = c.args.trees in
    let l = c.loop-row in
    bond-rolled t.steps t.rate t.spread c.args.rates.now c.args.spreads.now c.args.flows.now c.args.last l.row l.bond (omega arith)
    l.invariant.1
