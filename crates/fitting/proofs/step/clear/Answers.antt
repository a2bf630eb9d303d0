use Rattle.std.proofs.Common.{ℕ, ◌∙◌}
use lib.ListN.{length-replicate}
use Rattle.arithmetic.proofs.RowLaws.{row_of, zeros}
use Rattle.fitting.proofs.step.clear.Goals as goal

pub returns : goal.returns
returns c = c.fill.ensures.after (λ y h. h) ∙ row_of _ _ _ (length-replicate {A = ℕ} _ 0) (λ k _. zeros _ k)
