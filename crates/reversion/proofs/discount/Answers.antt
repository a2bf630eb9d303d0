use Rattle.std.proofs.Common.{arith}
use Rattle.continuous.proofs.Answers.{quotient-ok}
use Rattle.reversion.proofs.ReversionLaws.{discount-found}
use Rattle.reversion.proofs.discount.Goals as goal

pub unwrap-requires : goal.unwrap-requires
unwrap-requires c = quotient-ok _ _ _ c.discount_of_quotient.ensures (omega arith)

pub returns : goal.returns
returns c = discount-found _ _ (rw c.unwrap.ensures at c.discount_of_quotient.ensures) c.requires
