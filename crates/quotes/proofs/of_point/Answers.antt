use borrow.Author.Tests.{eq-eqb, ne_eqb}
use Rattle.quotes.specs.Quotes.{kind_answer}
use Rattle.quotes.proofs.of_point.Goals as goal

pub returns-then-kind-eq5 : goal.returns-then-kind-eq5
unfolding kind_answer
returns-then-kind-eq5 c = simp (eq-eqb _ 5 c.if-kind-eq5.true) c.of_quote.ensures

pub returns-then-kind-eq6 : goal.returns-then-kind-eq6
unfolding kind_answer
returns-then-kind-eq6 c = simp (ne_eqb _ 5 c.if-kind-eq5.false, eq-eqb _ 6 c.if-kind-eq6.true) c.of_quote-then-kind-eq6.ensures

pub returns-then-kind-eq9 : goal.returns-then-kind-eq9
unfolding kind_answer
returns-then-kind-eq9 c =
    simp (ne_eqb _ 5 c.if-kind-eq5.false, ne_eqb _ 6 c.if-kind-eq6.false, eq-eqb _ 9 c.if-kind-eq9.true)
    c.of_quote-then-kind-eq9.ensures

pub returns : goal.returns
unfolding kind_answer
returns c =
    simp (ne_eqb _ 5 c.if-kind-eq5.false, ne_eqb _ 6 c.if-kind-eq6.false, ne_eqb _ 9 c.if-kind-eq9.false)
