use mathlib.Core.Path.{◌≡◌, ◌∙◌}
use mathlib.Core.Bool.{true}
use Rattle.job_record.specs.declared.Tags.TheVariants.{Only, AnyKind}
use Rattle.job_record.specs.Form.{fields_from}
use native.Mathlib.Omega.{arith}
use Rattle.job_record.proofs.Answers.{passed, failed}
use Rattle.job_record.proofs.Forms.{refuse-quotes, refuse-flows, formed-by-rest}
use Rattle.job_reader.proofs.body_formed.Goals as goal
use Rattle.job_reader.proofs.body_formed.Goals.{Else-not-fields_from, Else-not-fields_from-2}

pub returns-then-not-fields_from : goal.returns-then-not-fields_from
returns-then-not-fields_from c = refuse-quotes _ _ _ (failed c.fields_from.ensures c.if-not-fields_from.true)

-- where both tests have passed, the quotes and the flows are formed
quotes : (c : Else-not-fields_from) → let a = c.args in fields_from a.bytes.now a.quotes AnyKind 8 a.steps ≡ true
quotes c = passed c.fields_from.ensures c.if-not-fields_from.false

pub fields_from-requires-2 : goal.fields_from-requires-2
fields_from-requires-2 c = omega (arith, c.after_fields-flows.ensures.0)

pub returns-then-not-fields_from-2 : goal.returns-then-not-fields_from-2
returns-then-not-fields_from-2 c =
    refuse-flows _ _ _ (quotes (goal.at.returns-then-not-fields_from-2 c).Else-not-fields_from) _ c.after_fields-flows.ensures.0
    (failed c.fields_from-2.ensures c.if-not-fields_from-2.true)

flows : (c : Else-not-fields_from-2) → let a = c.args in fields_from a.bytes.now c.after_fields-flows.result (Only 7) 4 a.steps ≡ true
flows c = passed c.fields_from-2.ensures c.if-not-fields_from-2.false

pub after_fields-requires : goal.after_fields-requires
after_fields-requires c = omega (arith, c.after_fields-flows.ensures.0)

pub returns : goal.returns
returns c =
    c.rest_formed.ensures
    ∙ formed-by-rest _ _ _ (quotes (goal.at.returns c).Else-not-fields_from) _ c.after_fields-flows.ensures.0
    (flows (goal.at.returns c).Else-not-fields_from-2) _ c.after_fields.ensures.0
