use Rattle.std.proofs.Common.{rules}
use lib.Dec.{ltb}
use Rattle.std.proofs.lemmas.List.Sorted.{answers_always}
use Rattle.exercise_dates.proofs.DateLaws.{rising-answered}
use Rattle.exercise_dates.proofs.is_rising.Goals as goal

pub returns : goal.returns
returns c = rising-answered _ _ (c.is_sorted_by.ensures.cases ltb (answers_always _ _ _ (λ f a r g h. search rules)))
