use Rattle.pricing.proofs.RowSteps.{rows_none}
use Rattle.pricing.proofs.Spans.{leads-growing}
use Rattle.pricing.proofs.rows.option_row.Goals as goal

pub capped_option_row-requires : goal.capped_option_row-requires
capped_option_row-requires c =
    (c.requires.0, c.requires.1, c.requires.2, c.requires.3, c.requires.4, c.requires.5, c.if-next-count.true)

pub returns-then-next-count : goal.returns-then-next-count
returns-then-next-count c = c.capped_option_row.ensures

pub option_nodes-requires : goal.option_nodes-requires
option_nodes-requires c =
    rw c.growing-whole.ensures (
      c.requires.0,
      c.requires.1,
      c.requires.2,
      c.requires.3,
      c.requires.4,
      c.requires.5,
      leads-growing _ _ _ c.requires.0 c.if-next-count.false,
      rows_none _ _ _ _,
    )

pub returns : goal.returns
returns c =
    rw c.growing-whole.ensures at c.option_nodes.ensures
