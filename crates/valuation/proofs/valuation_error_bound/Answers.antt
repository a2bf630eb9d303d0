use Rattle.std.proofs.Common.{◌≡◌, ◌∙◌, ap, refl, sym, ℕ, Result}
use Rattle.std.proofs.lemmas.Result.{err_from_is_err_and}
use Rattle.arithmetic.specs.Answers.{lowest_cause}
use Rattle.arithmetic.specs.Refusals.{cause_of, answer_of}
use Rattle.arithmetic.proofs.RefusalLaws.{refusal-some, value-or, number-cause, cause-ok}
use Rattle.arithmetic.specs.declared.Refusal.{Refusal}
use Rattle.arithmetic.proofs.CauseLaws.{lowest-none}
use Rattle.valuation.proofs.EntryLaws as laws
use Rattle.valuation.proofs.valuation_error_bound.Goals as goal
use Rattle.valuation.proofs.valuation_error_bound.Goals.{After-payoffs_cause, After-unwrap}

-- the lowest of the causes, tested
seen :
    (c : After-payoffs_cause) (x : ℕ) → x ≡ lowest_cause (cause_of c.state_price_error_bound-bound.result) (cause_of c.payoffs_cause.result) →
    laws.Found c.args.steps c.args.reversion c.args.discounts.now c.args.row c.args.payoffs.now
    (answer_of c.state_price_error_bound-bound.result) (answer_of c.node_count.result) c.greatest_of-greatest.result
    (cause_of c.payoffs_cause.result) x
seen c x e =
    laws.found c.state_price_error_bound-bound.ensures c.node_count.ensures c.greatest_of-greatest.ensures
    (rw (c.unwrap_or-nodes.ensures, value-or c.node_count.result) at c.payoffs_cause.ensures)
    (e ∙ ap (λ (y : ℕ). lowest_cause y (cause_of c.payoffs_cause.result)) (sym (number-cause c.state_price_error_bound-bound.result)))

pub returns-in_err-lowest_refusal : goal.returns-in_err-lowest_refusal
returns-in_err-lowest_refusal c =
    let p = err_from_is_err_and c.from_residual.result c.from_residual.ensures.1 in
    let f = seen (goal.at.returns-in_err-lowest_refusal c).After-payoffs_cause _ c.in_err-lowest_refusal.ensures in
    rw (p.1, p.2) (laws.refused-number _ _ _ f (refusal-some _) _ refl)

pub unwrap-requires : goal.unwrap-requires
unwrap-requires c = cause-ok _ (lowest-none _ _ (sym c.in_ok-lowest_refusal.ensures)).0

-- the bound is the answer's
valued : (c : After-unwrap) → (answer_of c.state_price_error_bound-bound.result).value ≡ c.unwrap.result
valued c = ap (λ (r : Result ℕ Refusal). (answer_of r).value) c.unwrap.ensures

pub bound_of_value-requires : goal.bound_of_value-requires
bound_of_value-requires c =
    let f = seen (goal.at.bound_of_value-requires c).After-payoffs_cause _ c.in_ok-lowest_refusal.ensures in
    rw (valued c) at (laws.none-sizes _ _ _ f refl)

pub returns : goal.returns
returns c =
    let f = seen (goal.at.returns c).After-payoffs_cause _ c.in_ok-lowest_refusal.ensures in
    laws.bound-found _ _ _ f refl _ (rw (valued (goal.at.returns c).After-unwrap) c.bound_of_value.ensures)
