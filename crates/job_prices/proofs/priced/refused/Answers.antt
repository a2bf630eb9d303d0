use Rattle.job_prices.proofs.priced.refused.Goals as goal

pub returns : goal.returns
returns c = rw (c.no_price.ensures, c.no_price-2.ensures)
