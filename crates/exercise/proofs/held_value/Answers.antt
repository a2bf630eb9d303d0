use mathlib.Core.Path.{ap, ◌∙◌}
use Prim.Native.Nat.{ℕ, max}
use Rattle.exercise.proofs.NodeLaws.{listed-value, unlisted-value}
use Rattle.exercise.proofs.held_value.Goals as goal

pub returns-then-listed : goal.returns-then-listed
returns-then-listed c =
    let if1 = c.if-listed in
    let exercise-value = c.exercise_value in
    listed-value _ _ _ _ if1.true (c.larger.ensures ∙ ap (λ (x : ℕ). max c.args.roll x) exercise-value.ensures)

pub returns : goal.returns
returns c = unlisted-value _ _ _ c.if-listed.false
