use mathlib.Core.Path.{◌∙◌}
use native.Mathlib.Omega.{arith}
use Rattle.job_record.proofs.Answers.{passed, failed}
use Rattle.job_record.proofs.Forms.{head-whole, refuse-long, refuse-head, formed-by-body}
use Rattle.job_reader.proofs.well_formed.Goals as goal

pub returns-then-bytes-gt-MOST_BYTES : goal.returns-then-bytes-gt-MOST_BYTES
returns-then-bytes-gt-MOST_BYTES c = refuse-long _ c.if-bytes-gt-MOST_BYTES.true

pub returns-then-not-head_formed : goal.returns-then-not-head_formed
returns-then-not-head_formed c = refuse-head _ c.if-bytes-gt-MOST_BYTES.false (failed c.head_formed.ensures c.if-not-head_formed.true)

pub number-steps-requires : goal.number-steps-requires
number-steps-requires c = omega (arith, head-whole _ (passed c.head_formed.ensures c.if-not-head_formed.false))

pub body_formed-requires : goal.body_formed-requires
body_formed-requires c = omega (arith, c.number-steps.ensures.1, c.quotes_at.ensures.1)

pub returns : goal.returns
returns c =
    let head = passed c.head_formed.ensures c.if-not-head_formed.false in
    c.body_formed.ensures
    ∙ formed-by-body _ c.if-bytes-gt-MOST_BYTES.false head _ _ c.number-steps.ensures.0 c.quotes_at.ensures.0
