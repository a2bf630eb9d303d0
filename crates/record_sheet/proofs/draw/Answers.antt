use mathlib.Core.Path.{sym, ◌∙◌}
use Rattle.sheet_laws.proofs.SheetLaws as laws
use Rattle.arithmetic.proofs.RefusalLaws.{cause-ok}
use Rattle.lattice.proofs.TreeEntries.{tree-ok}
use Rattle.record_sheet.proofs.DrawLaws.{Drawn, drawn, quotes-converted, tree-within}
use Rattle.record_sheet.proofs.draw.Goals as goal
use Rattle.record_sheet.proofs.draw.Goals.{After-unwrap-price_count}

known : (c : After-unwrap-price_count) →
    let a = c.args in
    Drawn a.job c.meant_reversion-reversion.result c.quotes_of_record.new.quotes a.discounts.now a.state_prices.now
    c.unwrap-discount_count.result c.unwrap-price_count.result
known c =
    let own = c.quote_room-quotes in
    drawn c.args.job _ _ c.requires.fitted.0 own.result _ own.ensures c.quotes_of_record.ensures.memory _
    c.meant_reversion-reversion.ensures _ _ (rw c.unwrap-discount_count.ensures at c.discounts_needed.ensures)
    (rw c.unwrap-price_count.ensures at c.state_prices_needed.ensures)

pub unwrap-requires : goal.unwrap-requires
unwrap-requires c =
    cause-ok _ (c.quotes_of_record.ensures.number ∙ quotes-converted c.args.job _ _ c.requires.fitted.0 _ c.quote_room-quotes.ensures)

pub unwrap-discount_count-requires : goal.unwrap-discount_count-requires
unwrap-discount_count-requires c =
    tree-ok _ _ _ _ c.discounts_needed.ensures (tree-within c.args.job _ _ c.requires.fitted.0 _ c.meant_reversion-reversion.ensures)

pub unwrap-price_count-requires : goal.unwrap-price_count-requires
unwrap-price_count-requires c =
    tree-ok _ _ _ _ c.state_prices_needed.ensures (tree-within c.args.job _ _ c.requires.fitted.0 _ c.meant_reversion-reversion.ensures)

pub slice_bounds-quotes-end : goal.slice_bounds-quotes-end
slice_bounds-quotes-end c = (known (goal.at.slice_bounds-quotes-end c).After-unwrap-price_count).quotes-end

pub slice_bounds-put_sheet-end : goal.slice_bounds-put_sheet-end
slice_bounds-put_sheet-end c = (known (goal.at.slice_bounds-put_sheet-end c).After-unwrap-price_count).quotes-count

pub slice_bounds-put_sheet-end-2 : goal.slice_bounds-put_sheet-end-2
slice_bounds-put_sheet-end-2 c = (known (goal.at.slice_bounds-put_sheet-end-2 c).After-unwrap-price_count).discounts-count

pub slice_bounds-put_sheet-end-3 : goal.slice_bounds-put_sheet-end-3
slice_bounds-put_sheet-end-3 c = (known (goal.at.slice_bounds-put_sheet-end-3 c).After-unwrap-price_count).prices-count

pub put_sheet-requires : goal.put_sheet-requires
put_sheet-requires c =
    let k = known (goal.at.put_sheet-requires c).After-unwrap-price_count in
    record { stored = (k.stored, sym k.quotes-count, c.requires.fitted.1); summed = k.summed }

pub returns : goal.returns
returns c =
    let k = known (goal.at.returns c).After-unwrap-price_count in
    laws.text-put c.args.job _ _ _ _ c.args.prices k.reversion-is k.quotes-are k.discounts-are k.prices-are c.requires.prices_value
    c.args.out.now _ _ _ c.put_sheet.ensures
