use Rattle.job_laws.proofs.PriceLaws.{form-long, form-none, form-kind, form-list, form-other}
use Rattle.job_prices.proofs.priced.option_form.Goals as goal

pub returns-then-count-gt-MOST_DATES : goal.returns-then-count-gt-MOST_DATES
returns-then-count-gt-MOST_DATES c = form-long _ _ c.if-count-gt-MOST_DATES.true

pub returns-then-tag-eq0 : goal.returns-then-tag-eq0
returns-then-tag-eq0 c = form-none _ _ c.if-count-gt-MOST_DATES.false c.if-tag-eq0.true

pub returns-then-tag-eq8 : goal.returns-then-tag-eq8
returns-then-tag-eq8 c = form-kind _ _ c.if-count-gt-MOST_DATES.false c.if-tag-eq0.false c.if-tag-eq8.true

pub returns-then-tag-eq10 : goal.returns-then-tag-eq10
returns-then-tag-eq10 c = form-list _ _ c.if-count-gt-MOST_DATES.false c.if-tag-eq0.false c.if-tag-eq8.false c.if-tag-eq10.true

pub returns : goal.returns
returns c = form-other _ _ c.if-count-gt-MOST_DATES.false c.if-tag-eq0.false c.if-tag-eq8.false c.if-tag-eq10.false
