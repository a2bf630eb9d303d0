use mathlib.Core.Path.{◌≡◌}
use mathlib.Core.Bool.{true}
use mathlib.Core.List.{List}
use Prim.Native.Nat.{ℕ}
use Rattle.job_record.specs.declared.Tags.TheVariants.{Only}
use Rattle.job_record.specs.Form.{field_at, frequency_at, steps_at, reversion_at, head_formed}
use Rattle.job_record.proofs.Answers.{passed, failed}
use Rattle.job_reader.proofs.head_formed.Goals as goal
use Rattle.job_reader.proofs.head_formed.Goals.{Else-not-field_at, Else-not-field_at-2, Else-not-field_at-3}

pub returns-then-not-field_at : goal.returns-then-not-field_at
unfolding head_formed
returns-then-not-field_at c = simp (failed c.field_at.ensures c.if-not-field_at.true)

-- the bytes, and what a test that has passed says of them
abbrev bytes : Else-not-field_at → List ℕ
bytes c = c.args.bytes.now

frequency : (c : Else-not-field_at) → field_at (bytes c) frequency_at (Only 1) 1 ≡ true
frequency c = passed c.field_at.ensures c.if-not-field_at.false

pub returns-then-not-field_at-2 : goal.returns-then-not-field_at-2
unfolding head_formed
returns-then-not-field_at-2 c =
    simp (
      frequency (goal.at.returns-then-not-field_at-2 c).Else-not-field_at,
      failed c.field_at-2.ensures c.if-not-field_at-2.true,
    )

steps : (c : Else-not-field_at-2) → field_at (bytes (goal.at.Else-not-field_at-2 c).Else-not-field_at) steps_at (Only 2) 1 ≡ true
steps c = passed c.field_at-2.ensures c.if-not-field_at-2.false

pub returns-then-not-field_at-3 : goal.returns-then-not-field_at-3
unfolding head_formed
returns-then-not-field_at-3 c =
    simp (
      frequency (goal.at.returns-then-not-field_at-3 c).Else-not-field_at,
      steps (goal.at.returns-then-not-field_at-3 c).Else-not-field_at-2,
      failed c.field_at-3.ensures c.if-not-field_at-3.true,
    )

reversion : (c : Else-not-field_at-3) → field_at (bytes (goal.at.Else-not-field_at-3 c).Else-not-field_at) reversion_at (Only 3) 2 ≡ true
reversion c = passed c.field_at-3.ensures c.if-not-field_at-3.false

pub returns : goal.returns
unfolding head_formed
returns c =
    simp (
      frequency (goal.at.returns c).Else-not-field_at,
      steps (goal.at.returns c).Else-not-field_at-2,
      reversion (goal.at.returns c).Else-not-field_at-3,
    )
    c.field_at-4.ensures
