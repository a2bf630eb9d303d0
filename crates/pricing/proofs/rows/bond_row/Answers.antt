use native.Mathlib.Omega.{arith}
use Rattle.pricing.proofs.RowSteps.{row-none}
use Rattle.pricing.proofs.Spans.{leads-growing, leads-lowest, leads-inner, leads-highest}
use Rattle.pricing.proofs.rows.bond_row.Goals as goal

pub bond_nodes-requires : goal.bond_nodes-requires
bond_nodes-requires c =
    rw c.growing.ensures (c.requires.0, c.requires.1, c.requires.2, c.requires.3, leads-growing _ _ _ c.requires.0 c.if-count-next.true, row-none _ _)

pub returns-then-count-next : goal.returns-then-count-next
returns-then-count-next c = rw c.growing.ensures at c.bond_nodes.ensures

pub bond_nodes-low-requires : goal.bond_nodes-low-requires
bond_nodes-low-requires c =
    rw c.lowest.ensures (c.requires.0, c.requires.1, c.requires.2, c.requires.3, leads-lowest _ _ _ c.requires.0 c.if-count-next.false, row-none _ _)

pub bond_nodes-middle-requires : goal.bond_nodes-middle-requires
bond_nodes-middle-requires c =
    let done = rw c.lowest.ensures at c.bond_nodes-low.ensures in
    rw c.inner.ensures (
      c.requires.0,
      c.requires.1,
      omega arith,
      c.requires.3,
      leads-inner _ _ _ c.requires.0
          c.if-count-next.false,
      done,
    )

pub bond_nodes-requires-2 : goal.bond_nodes-requires-2
bond_nodes-requires-2 c =
    let done = rw c.inner.ensures at c.bond_nodes-middle.ensures in
    rw c.highest.ensures (
      c.requires.0,
      c.requires.1,
      omega arith,
      c.requires.3,
      leads-highest _ _ _ c.requires.0
          c.if-count-next.false,
      done,
    )

pub returns : goal.returns
returns c = rw c.highest.ensures at c.bond_nodes-2.ensures
