use Rattle.job_laws.proofs.PriceLaws as laws
use Rattle.job_prices.proofs.Clauses.{clauses}
use Rattle.job_prices.proofs.job_in_place.Goals as goal

pub returns-then-read-ne0 : goal.returns-then-read-ne0
returns-then-read-ne0 c =
    let a = c.args in
    clauses
    (laws.in-place-refused a.job.now a.discounts.now a.state_prices.now c.read-read.result c.read-read.ensures.reading
    c.if-read-ne0.true _ c.refused.ensures)

pub returns : goal.returns
returns c =
    let a = c.args in
    let prices = c.prices_in_place.ensures in
    clauses
    (laws.in-place-made a.job.now a.discounts.now a.state_prices.now c.read-read.result c.read-read.ensures.reading
    c.if-read-ne0.false _ _ _ (prices.answer, (prices.discounted, prices.priced)))
