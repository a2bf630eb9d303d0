use mathlib.Core.Path.{◌∙◌, ap}
use mathlib.Core.Bool.{false}
use Rattle.price_laws.specs.declared.Price.{Price}
use Rattle.job_laws.specs.JobPrices.{prices_of}
use Rattle.job_laws.proofs.PriceLaws as laws
use Rattle.job_prices.proofs.priced.tree_prices.Goals as goal

pub returns-then-option-eq0 : goal.returns-then-option-eq0
returns-then-option-eq0 c =
    let a = c.args in
    let bond = c.bond_price-bond in
    let none = ap (λ (p : Price). prices_of bond.result.number bond.result false p) c.no_price.ensures in
    laws.without-option a.steps a.reversion a.discounts.now a.flows.now a.option _ bond.result c.if-option-eq0.true
    bond.ensures
    (c.prices_of.ensures ∙ none)

pub returns : goal.returns
returns c =
    let a = c.args in
    let both = c.both_of-both in
    laws.with-option a.steps a.reversion a.discounts.now a.flows.now a.option _ both.result c.if-option-eq0.false
    both.ensures.bond both.ensures.option
    c.prices_of-2.ensures
