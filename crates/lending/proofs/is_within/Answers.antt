use mathlib.Core.Path.{sym}
use Rattle.bands.proofs.StopLaws.{row_before, row-after, price-below, price-above, inside}
use Rattle.lending.proofs.is_within.Goals as goal

pub returns-then-row-first : goal.returns-then-row-first
returns-then-row-first c = sym (row_before _ _ _ _ c.if-row-first.true)

pub returns-then-last-row : goal.returns-then-last-row
returns-then-last-row c = sym (row-after _ _ _ _ c.if-last-row.true)

pub returns-then-price-lowest : goal.returns-then-price-lowest
returns-then-price-lowest c = sym (price-below _ _ _ _ c.if-price-lowest.true)

pub returns-then-highest-price : goal.returns-then-highest-price
returns-then-highest-price c = sym (price-above _ _ _ _ c.if-highest-price.true)

pub returns : goal.returns
returns c = sym (inside c.if-row-first.false c.if-last-row.false c.if-price-lowest.false c.if-highest-price.false)
