use mathlib.Core.Path.{◌≡◌, ap, ◌∙◌}
use Prim.Native.Nat.{ℕ, ◌≤◌}
use native.Mathlib.Omega.{arith}
use lib.ListN.{length}
use Rattle.job_record.specs.Form.{most_job_steps, after_fields, version_at, quotes_at, rest_at, steps_of}
use Rattle.job_record.specs.Reader.{job_of}
use Rattle.job_record.proofs.Forms.{well-body, well-length, quotes-from, body-rest, dates-few}
use Rattle.job_reader.proofs.job_of.Goals as goal
use Rattle.job_reader.proofs.job_of.Goals.{After-after_fields, After-quotes_at-quotes_at}

pub number-steps-requires : goal.number-steps-requires
number-steps-requires c = omega (arith, well-length _ c.requires, quotes-from c.args.bytes.now)

-- the number of steps and the place of the quotes as they were read, and the place after the flows
known : (c : After-quotes_at-quotes_at) →
    let n = c.number-steps.result in
    (n ≤ most_job_steps) × (rest_at c.quotes_at-quotes_at.result n ≤ length c.args.bytes.now)
known c =
    let read = c.number-steps.ensures in
    (omega (arith, read.1), rw (read.0, c.quotes_at-quotes_at.ensures.0) (well-length _ c.requires))

pub after_fields-flows_at-requires : goal.after_fields-flows_at-requires
after_fields-flows_at-requires c = omega (arith, known c)

pub tags_from-kinds-requires : goal.tags_from-kinds-requires
tags_from-kinds-requires c = omega (arith, known (goal.at.tags_from-kinds-requires c).After-quotes_at-quotes_at)

pub data_from-figures-requires : goal.data_from-figures-requires
data_from-figures-requires c = omega (arith, known (goal.at.data_from-figures-requires c).After-quotes_at-quotes_at)

pub data_from-flows-requires : goal.data_from-flows-requires
data_from-flows-requires c =
    omega (arith, known (goal.at.data_from-flows-requires c).After-quotes_at-quotes_at, c.after_fields-flows_at.ensures.0)

pub after_fields-requires : goal.after_fields-requires
after_fields-requires c =
    omega (arith, known (goal.at.after_fields-requires c).After-quotes_at-quotes_at, c.after_fields-flows_at.ensures.0)

-- the place of what follows the flows
rest-place : (c : After-after_fields) → c.after_fields.result ≡ rest_at (quotes_at c.args.bytes.now) c.number-steps.result
rest-place c =
    let n = c.number-steps.result in
    c.after_fields.ensures.0
    ∙ ap (λ (flows : ℕ). after_fields flows 4 n) c.after_fields-flows_at.ensures.0
    ∙ ap (λ (quotes : ℕ). rest_at quotes n) c.quotes_at-quotes_at.ensures.0

-- the record is long enough for each of its fields
long : (c : After-after_fields) →
    let bytes = c.args.bytes.now in rest_at version_at (steps_of bytes) ≤ length bytes
long c = omega (arith, well-length _ c.requires, quotes-from c.args.bytes.now)

pub option_at-option-requires : goal.option_at-option-requires
option_at-option-requires c =
    let quotes = quotes_at c.args.bytes.now in
    let formed = body-rest _ quotes _ (well-body _ c.requires) in
    let few = dates-few _ c.requires in
    let there = rest-place c ∙ ap (λ (n : ℕ). rest_at quotes n) c.number-steps.ensures.0 in
    (c.after_fields.ensures.1, rw there formed, rw there few)

pub number-requires : goal.number-requires
number-requires c = omega (arith, long (goal.at.number-requires c).After-after_fields)

pub number-requires-2 : goal.number-requires-2
number-requires-2 c = omega (arith, long (goal.at.number-requires-2 c).After-after_fields)

pub number-requires-3 : goal.number-requires-3
number-requires-3 c = omega (arith, long (goal.at.number-requires-3 c).After-after_fields)

pub returns : goal.returns
unfolding job_of
returns c =
    simp (
      c.tags_from-kinds.ensures,
      c.data_from-figures.ensures,
      c.data_from-flows.ensures,
      c.option_at-option.ensures,
      rest-place (goal.at.returns c).After-after_fields,
      c.after_fields-flows_at.ensures.0,
      c.quotes_at-quotes_at.ensures.0,
      c.number-steps.ensures.0,
      c.number.ensures.0,
      c.number-2.ensures.0,
      c.number-3.ensures.0,
      c.version_of.ensures,
    )
