use mathlib.Core.Path.{◌≡◌, refl}
use Prim.Native.Nat.{◌+◌, ◌-◌, ◌≤◌}
use native.Mathlib.Omega.{arith}
use lib.ListN.{length}
use Rattle.pricing.proofs.RowSteps.{row-none}
use Rattle.pricing.proofs.Spans.{edge-fits, leads-between}
use Rattle.pricing.proofs.rows.strike_row.Goals as goal
use Rattle.pricing.proofs.rows.strike_row.Goals.{After-edge_nodes-edge}

-- the edges fit
fits : (c : After-edge_nodes-edge) →
    let edge = c.edge_nodes-edge.result in (edge ≤ 1) × (edge + edge ≤ length c.args.discounts.now)
fits c = edge-fits _ _ _ c.requires.0 _ c.edge_nodes-edge.ensures

pub between_edges-span-requires : goal.between_edges-span-requires
between_edges-span-requires c = omega (arith, (fits c).1)

pub strike_edge-low-requires : goal.strike_edge-low-requires
strike_edge-low-requires c =
    let f = fits (goal.at.strike_edge-low-requires c).After-edge_nodes-edge in
    (c.requires.0, c.requires.1, c.requires.2, c.requires.3, f.0, omega (arith, f.1), row-none _ _)

pub strike_nodes-inner-requires : goal.strike_nodes-inner-requires
strike_nodes-inner-requires c =
    let edge = c.edge_nodes-edge.result in
    let z : 0 + edge ≡ edge = omega arith in
    let done = rw z at c.strike_edge-low.ensures in
    rw c.between_edges-span.ensures (
      c.requires.0,
      c.requires.1,
      c.requires.2,
      omega (arith, c.requires.3),
      leads-between _ _ _ c.requires.0 _
          c.edge_nodes-edge.ensures _ refl,
      done,
    )

pub overflow_sub-count : goal.overflow_sub-count
overflow_sub-count c = let f = fits (goal.at.overflow_sub-count c).After-edge_nodes-edge in omega (arith, f.1)

pub strike_edge-requires : goal.strike_edge-requires
strike_edge-requires c =
    let f = fits (goal.at.strike_edge-requires c).After-edge_nodes-edge in
    let done = rw c.between_edges-span.ensures at
    c.strike_nodes-inner.ensures in (
      c.requires.0,
      c.requires.1,
      c.requires.2,
      omega (arith, c.strike_edge-low.auto.option, c.strike_nodes-inner.auto.option, c.requires.3),
      f.0,
      omega
          (arith, f.1),
      done,
    )

pub returns : goal.returns
returns c =
    let f = fits (goal.at.returns c).After-edge_nodes-edge in
    let edge = c.edge_nodes-edge.result in
    let count = length c.args.discounts.now in
    let z : count - edge + edge ≡ count = omega (arith, f.1) in
    rw z at c.strike_edge.ensures
