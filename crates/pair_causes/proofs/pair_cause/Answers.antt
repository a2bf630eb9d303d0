use Rattle.std.proofs.Common.{◌≡◌, refl, sym}
use Rattle.std.proofs.lemmas.Result.{err_from_is_err_and}
use Rattle.arithmetic.specs.Refusals.{cause_of}
use Rattle.arithmetic.proofs.Implied.{implied}
use Rattle.arithmetic.proofs.RefusalLaws.{refusal-some, err-cause, ok-cause}
use Rattle.pair_laws.proofs.CauseLaws.{pair-steps-refused, pair-trees-refused, trees-accepted, pair-rest}
use Rattle.pair_causes.proofs.pair_cause.Goals as goal

pub returns-in_err-pair_steps_cause : goal.returns-in_err-pair_steps_cause
returns-in_err-pair_steps_cause c =
    let p = err_from_is_err_and c.from_residual.result c.from_residual.ensures.1 in
    rw (p.1, p.2) (pair-steps-refused implied c.in_err-pair_steps_cause.ensures (refusal-some _))

pub returns-then-is_err : goal.returns-then-is_err
returns-then-is_err c =
    pair-trees-refused implied c.in_ok-pair_steps_cause.ensures refl c.discounts_cause.ensures c.discounts_cause-2.ensures
    c.lowest_refusal-trees.ensures c.flows_cause-about_flows.ensures c.lowest_refusal.ensures
    (err-cause c.lowest_refusal-trees.result c.if-is_err.ensures.value)

pub combined_cause-combined-requires : goal.combined_cause-combined-requires
combined_cause-combined-requires c =
    trees-accepted implied c.in_ok-pair_steps_cause.ensures refl c.discounts_cause.ensures c.discounts_cause-2.ensures
    c.lowest_refusal-trees.ensures c.flows_cause-about_flows.ensures
    (ok-cause c.lowest_refusal-trees.result c.if-is_err.ensures.value)

pub returns : goal.returns
returns c =
    pair-rest implied c.in_ok-pair_steps_cause.ensures refl c.discounts_cause.ensures c.discounts_cause-2.ensures
    c.lowest_refusal-trees.ensures c.flows_cause-about_flows.ensures c.combined_cause-combined.ensures c.lowest_refusal-2.ensures
    (ok-cause c.lowest_refusal-trees.result c.if-is_err.ensures.value)
