use Rattle.arithmetic.proofs.Implied.{implied}
use Rattle.shelf_laws.proofs.EntryLaws.{lent-number, lent-fitted}
use borrow.Author.Rules.{rules}
use Rattle.shelf.proofs.parts.fit_part.Goals as goal

pub returns : goal.returns
returns c =
    let fit = c.fit in
    let state-prices = c.state_price_room-state_prices in
    record {
      number = lent-number {prices = state-prices.result} implied c.requires state-prices.ensures fit.ensures.number;
      memory = lent-fitted {prices = state-prices.result} implied c.requires state-prices.ensures fit.ensures.number fit.ensures.discounted (search rules);
    }
