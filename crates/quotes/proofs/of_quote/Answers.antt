use mathlib.Core.Path.{sym, ◌∙◌, ap}
use Rattle.quotes.specs.Quotes.{quote_answer}
use Rattle.quotes.proofs.of_quote.Goals as goal

pub returns-in-DiscountFactor : goal.returns-in-DiscountFactor
unfolding quote_answer
returns-in-DiscountFactor c =
    let a = c.args in
    c.of_factor.ensures ∙ sym (ap (quote_answer a.frequency a.row) c.in-DiscountFactor.is)

pub returns-in-YearlyRate : goal.returns-in-YearlyRate
unfolding quote_answer
returns-in-YearlyRate c =
    let a = c.args in
    c.of_rate.ensures ∙ sym (ap (quote_answer a.frequency a.row) c.in-YearlyRate.is)

pub returns-in-YearlyYield : goal.returns-in-YearlyYield
unfolding quote_answer
returns-in-YearlyYield c =
    let a = c.args in
    c.of_yield.ensures ∙ sym (ap (quote_answer a.frequency a.row) c.in-YearlyYield.is)
