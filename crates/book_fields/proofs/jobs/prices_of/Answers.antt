use mathlib.Core.Path.{◌≡◌}
use lib.ListN.{length}
use borrow.Author.Rules.{rules}
use Rattle.limits.specs.Limits.{most_discounts, most_state_prices}
use Rattle.book_laws.specs.Bounds.{job_prices}
use Rattle.book_fields.proofs.jobs.prices_of.Goals as goal
use Rattle.book_fields.proofs.jobs.prices_of.Goals.{After-job_in_place}

clauses-answer-discounted-priced : {A B C : Type 0} → A × (B × C) → record { answer : A; discounted : B; priced : C }
clauses-answer-discounted-priced w = record { answer = w.0; discounted = w.1.0; priced = w.1.1 }

-- both memories are whole
discounts-long : (c : After-job_in_place) → length c.args.discounts.now ≡ most_discounts
discounts-long c = search rules

prices-long : (c : After-job_in_place) → length c.args.state_prices.now ≡ most_state_prices
prices-long c = search rules

pub returns : goal.returns
unfolding job_prices
returns c =
    let e = c.job_in_place.ensures in
    record {
      answer = rw (discounts-long c, prices-long c) at e.answer;
      discounted = rw (discounts-long c, prices-long c) at e.discounted;
      priced = rw (discounts-long c, prices-long c) at e.priced;
    }
