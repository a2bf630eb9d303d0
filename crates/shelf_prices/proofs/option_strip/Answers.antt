use Rattle.std.proofs.Common.{ℕ, List, ◌∙◌, refl}
use Rattle.arithmetic.specs.Row.{values}
use Rattle.price_laws.specs.Prices.{dated_price}
use Rattle.shelf_prices.proofs.PriceLaws.{strip-none, strip-there}
use Rattle.shelf_prices.proofs.option_strip.Goals as goal

pub returns-in_default : goal.returns-in_default
returns-in_default c =
    let a = c.args in
    c.no_strip.ensures
    ∙ strip-none (λ (n b : ℕ) (d : List ℕ) (k : ℕ). dated_price n b d a.flows.now a.side a.dates.now (values a.strikes.now k))
    _ a.memory.now _ _ _ refl c.in_default.ensures

pub returns : goal.returns
returns c =
    let a = c.args in
    let found = c.in-Some.ensures in
    strip-there (λ (n b : ℕ) (d : List ℕ) (k : ℕ). dated_price n b d a.flows.now a.side a.dates.now (values a.strikes.now k))
    _ a.memory.now _ _ _ found.0 found.1 _ (rw found.2 at c.bounded_strip.ensures)
