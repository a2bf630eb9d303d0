use Rattle.continuous.proofs.Answers.{quotient-value, quotient-ok}
use Rattle.continuous_rate.proofs.side_discount.Goals as goal

pub unwrap-requires : goal.unwrap-requires
unwrap-requires c = quotient-ok _ _ _ c.discount_of_quotient.ensures c.requires

pub returns : goal.returns
returns c = quotient-value _ _ _ (rw c.unwrap.ensures at c.discount_of_quotient.ensures) c.requires
