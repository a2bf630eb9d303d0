use mathlib.Core.Path.{sym, ◌∙◌}
use native.Mathlib.Omega.{arith}
use Rattle.fitting.proofs.TableFit as laws
use Rattle.fitting.proofs.tables.fit_or_clear.Goals as goal

pub unwrap-needed-requires : goal.unwrap-needed-requires
unwrap-needed-requires c = laws.tree-known c.requires.tables _ _ c.discounts_needed.ensures

pub unwrap-all-requires : goal.unwrap-all-requires
unwrap-all-requires c = laws.tree-known c.requires.tables _ _ c.state_prices_needed.ensures

pub fit_rows-requires : goal.fit_rows-requires
fit_rows-requires c = c.requires

pub returns-then-fit_rows : goal.returns-then-fit_rows
returns-then-fit_rows c =
    record { tested = sym c.if-fit_rows.true ∙ c.fit_rows.ensures.tested; memories = c.fit_rows.ensures.fitted c.if-fit_rows.true }

pub clear_front-requires : goal.clear_front-requires
clear_front-requires c =
    omega (arith, laws.needed-discounts c.requires.tables (rw c.unwrap-needed.ensures at c.discounts_needed.ensures), c.requires.room-discounts, c.fit_rows.auto.discounts)

pub clear_front-requires-2 : goal.clear_front-requires-2
clear_front-requires-2 c =
    omega (arith, laws.needed-state-prices c.requires.tables (rw c.unwrap-all.ensures at c.state_prices_needed.ensures), c.requires.room-state-prices, c.fit_rows.auto.state_prices)

pub returns : goal.returns
returns c =
    record {
      tested = sym c.if-fit_rows.false ∙ c.fit_rows.ensures.tested;
      memories =
          laws.cleared c.fit_rows.ensures.kept (laws.needed-discounts c.requires.tables (rw c.unwrap-needed.ensures at c.discounts_needed.ensures))
          (laws.needed-state-prices c.requires.tables (rw c.unwrap-all.ensures at c.state_prices_needed.ensures))
          c.clear_front.ensures c.clear_front-2.ensures;
    }
