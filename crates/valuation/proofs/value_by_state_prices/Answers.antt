use Rattle.std.proofs.Common.{refl}
use Rattle.valuation.proofs.EntryLaws as laws
use Rattle.valuation.proofs.value_by_state_prices.Goals as goal

pub returns-then-prices-payoffs : goal.returns-then-prices-payoffs
returns-then-prices-payoffs c = laws.unequal _ _ _ refl c.if-prices-payoffs.true

pub returns-then-prices-eq0 : goal.returns-then-prices-eq0
returns-then-prices-eq0 c = laws.even _ _ _ refl c.if-prices-eq0.true

pub returns-then-prices-gt-MOST_NODES : goal.returns-then-prices-gt-MOST_NODES
returns-then-prices-gt-MOST_NODES c = laws.too_long _ _ _ refl c.if-prices-gt-MOST_NODES.true

pub returns-then-greatest_of-gt-VALUE_LIMIT : goal.returns-then-greatest_of-gt-VALUE_LIMIT
returns-then-greatest_of-gt-VALUE_LIMIT c =
    laws.high-payoff _ _ c.if-prices-payoffs.false c.if-prices-eq0.false c.if-prices-gt-MOST_NODES.false
    _ _ refl c.greatest_of.ensures c.if-greatest_of-gt-VALUE_LIMIT.true

pub returns-then-sums_above_limit : goal.returns-then-sums_above_limit
returns-then-sums_above_limit c =
    laws.high_sum _ _ c.if-prices-payoffs.false c.if-prices-eq0.false c.if-prices-gt-MOST_NODES.false
    (laws.low-payoffs _ _ c.greatest_of.ensures c.if-greatest_of-gt-VALUE_LIMIT.false)
    _ _ refl c.sums_above_limit.ensures c.if-sums_above_limit.true

pub sum_of_products-value-requires : goal.sum_of_products-value-requires
sum_of_products-value-requires c = (
  c.if-prices-payoffs.false,
  laws.low_sum _ _ c.sums_above_limit.ensures c.if-sums_above_limit.false,
  laws.low-payoffs _ _ c.greatest_of.ensures c.if-greatest_of-gt-VALUE_LIMIT.false,
)

pub returns-then-value-gt-VALUE_LIMIT : goal.returns-then-value-gt-VALUE_LIMIT
returns-then-value-gt-VALUE_LIMIT c =
    laws.high_value _ _ c.if-prices-payoffs.false c.if-prices-eq0.false c.if-prices-gt-MOST_NODES.false
    (laws.low-payoffs _ _ c.greatest_of.ensures c.if-greatest_of-gt-VALUE_LIMIT.false)
    _ c.sums_above_limit.ensures c.if-sums_above_limit.false
    _ c.sum_of_products-value.ensures _ refl c.if-value-gt-VALUE_LIMIT.true

pub returns : goal.returns
returns c =
    laws.value_found _ _ c.if-prices-payoffs.false c.if-prices-eq0.false c.if-prices-gt-MOST_NODES.false
    (laws.low-payoffs _ _ c.greatest_of.ensures c.if-greatest_of-gt-VALUE_LIMIT.false)
    _ c.sums_above_limit.ensures c.if-sums_above_limit.false
    _ c.sum_of_products-value.ensures c.if-value-gt-VALUE_LIMIT.false
