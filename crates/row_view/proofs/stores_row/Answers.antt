use Rattle.row_view.proofs.stores_row.Goals as goal

pub returns-in-Discounts : goal.returns-in-Discounts
returns-in-Discounts c = rw c.in-Discounts.is

pub returns-in-StatePrices : goal.returns-in-StatePrices
returns-in-StatePrices c = rw c.in-StatePrices.is
