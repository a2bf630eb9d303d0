use native.Mathlib.Omega.{arith}
use Rattle.pricing.proofs.RowSteps.{rows_none}
use Rattle.pricing.proofs.Spans.{leads-lowest, leads-inner, leads-highest}
use Rattle.pricing.proofs.rows.capped_option_row.Goals as goal

pub option_nodes-low-requires : goal.option_nodes-low-requires
option_nodes-low-requires c =
    rw c.lowest-first.ensures (
      c.requires.0,
      c.requires.1,
      c.requires.2,
      c.requires.3,
      c.requires.4,
      c.requires.5,
      leads-lowest _ _ _ c.requires.0 c.requires.6,
      rows_none _ _ _ _,
    )

pub inner-second-requires : goal.inner-second-requires
inner-second-requires c =
    omega (arith, c.requires.0.some)

pub option_nodes-middle-requires : goal.option_nodes-middle-requires
option_nodes-middle-requires c =
    let done = rw c.lowest-first.ensures at c.option_nodes-low.ensures in
    rw c.inner-second.ensures (
      c.requires.0,
      c.requires.1,
      c.requires.2,
      omega (arith, c.option_nodes-low.auto.bond, c.requires.3),
      omega (arith, c.option_nodes-low.auto.option, c.requires.4),
      c.requires.5,
      leads-inner _ _ _ c.requires.0 c.requires.6,
      done,
    )

pub highest-last-requires : goal.highest-last-requires
highest-last-requires c =
    omega (arith, c.requires.0.some)

pub option_nodes-requires : goal.option_nodes-requires
option_nodes-requires c =
    let done = rw c.inner-second.ensures at c.option_nodes-middle.ensures in
    rw c.highest-last.ensures (
      c.requires.0,
      c.requires.1,
      c.requires.2,
      omega (arith, c.option_nodes-low.auto.bond, c.option_nodes-middle.auto.bond, c.requires.3),
      omega (arith, c.option_nodes-low.auto.option, c.option_nodes-middle.auto.option, c.requires.4),
      c.requires.5,
      leads-highest _ _ _ c.requires.0 c.requires.6,
      done,
    )

pub returns : goal.returns
returns c =
    rw c.highest-last.ensures at c.option_nodes.ensures
