use Rattle.job_laws.proofs.PriceLaws as laws
use Rattle.job_prices.proofs.Clauses.{clauses}
use Rattle.job_prices.proofs.prices_of_job.Goals as goal

pub returns-then-reading-ne0 : goal.returns-then-reading-ne0
returns-then-reading-ne0 c =
    let a = c.args in
    clauses
    (laws.bytes-refused a.job.now a.discounts.now a.state_prices.now c.read-reading.result c.read-reading.ensures.reading
    c.if-reading-ne0.true _ c.refused.ensures)

pub returns : goal.returns
returns c =
    let a = c.args in
    let prices = c.prices_of_record.ensures in
    clauses
    (laws.bytes-made a.job.now a.discounts.now a.state_prices.now c.read-reading.result c.read-reading.ensures.reading
    c.if-reading-ne0.false _ _ _ (prices.answer, (prices.discounted, prices.priced)))
