use mathlib.Core.List.{List}
use mathlib.Core.Path.{◌≡◌, ap}
use Prim.Native.Nat.{ℕ, ◌+◌, ◌≤◌, ◌<◌}
use lib.ListN.{length}
use Rattle.limits.specs.Limits.{most_steps}
use Rattle.state_price_bound.specs.ErrorBound.{RowBounds}
use Rattle.record_sheet.proofs.DrawLaws.{bounds-there}
use Rattle.sheet_laws.proofs.PartLaws as laws
use borrow.Author.Rules.{rules}
use native.Mathlib.Omega.{arith}
use Rattle.record_sheet.proofs.lines.put_sheet.Goals as goal
use Rattle.record_sheet.proofs.lines.put_sheet.Goals.{After-unwrap-bounds, Start}

-- each number of both prices fits a word
fitting : (c : Start) → laws.Fits c.args.prices.bond × laws.Fits c.args.prices.option
fitting c = ((search rules, search rules), (search rules, search rules))

pub put_prices-prices_start-requires : goal.put_prices-prices_start-requires
put_prices-prices_start-requires c = (omega (arith, c.requires.stored.2), omega arith)

pub unwrap-bounds-requires : goal.unwrap-bounds-requires
unwrap-bounds-requires c = bounds-there _ _ _ _ c.state_price_error_bounds.ensures c.requires.stored.0.lent

-- a place for each row
size : (c : After-unwrap-bounds) → length c.unwrap-bounds.result ≡ most_steps + 1
size c = search rules

all-rows : (n : ℕ) (bounds : List ℕ) → n ≤ most_steps → length bounds ≡ most_steps + 1 → n < length bounds
all-rows n bounds few e = omega arith

pub put_rows-rows_start-requires : goal.put_rows-rows_start-requires
put_rows-rows_start-requires c =
    let a = c.args in
    let room = laws.rows-room a.steps a.reversion a.quotes.now a.discounts.now a.state_prices.now
    a.prices.bond a.prices.has_option a.prices.option
    c.requires.stored.0 (fitting (goal.at.put_rows-rows_start-requires c).Start).0
    (fitting (goal.at.put_rows-rows_start-requires c).Start).1 c.requires.stored.2 c.put_prices-prices_start.ensures in record {
      stored = (c.requires.stored.0, c.requires.stored.1, room.0, room.1);
      summed = c.requires.summed;
      bounds_value = (
        ap (λ (r : RowBounds). r.bounds) (rw c.unwrap-bounds.ensures at c.state_price_error_bounds.ensures),
        all-rows a.steps c.unwrap-bounds.result c.requires.stored.0.lent.limits.steps-within-limit
            (size (goal.at.put_rows-rows_start-requires c).After-unwrap-bounds),
      );
    }

pub put_all_nodes-requires : goal.put_all_nodes-requires
put_all_nodes-requires c =
    let a = c.args in
    let room = laws.nodes-room a.steps a.reversion a.quotes.now a.discounts.now a.state_prices.now
    a.prices.bond a.prices.has_option a.prices.option
    c.requires.stored.0 (fitting (goal.at.put_all_nodes-requires c).Start).0
    (fitting (goal.at.put_all_nodes-requires c).Start).1 c.requires.stored.2 c.put_prices-prices_start.ensures c.put_rows-rows_start.ensures
    (λ j. (c.type_inv.quotes j).fits) c.requires.summed in
    record { lent = c.requires.stored.0.lent; place = c.requires.stored.0.lent.size; room = room.0; inside = room.1 }

pub returns : goal.returns
returns c =
    let a = c.args in
    laws.sheet-stands a.steps a.reversion a.quotes.now a.discounts.now a.state_prices.now
    a.prices.bond a.prices.has_option a.prices.option
    c.put_prices-prices_start.ensures c.put_rows-rows_start.ensures c.put_all_nodes.ensures
