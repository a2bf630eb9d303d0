use Rattle.std.proofs.Common.{◌≡◌, ◌∙◌, ◌*◌, ◌≤◌, ℕ, Result, ap, refl, sym, subst, arith}
use Rattle.std.proofs.lemmas.Result.{err_from_is_err_and}
use Rattle.arithmetic.specs.Answers.{lowest_cause}
use Rattle.arithmetic.specs.Refusals.{cause_of, answer_of}
use Rattle.arithmetic.specs.declared.Refusal.{Refusal}
use Rattle.arithmetic.proofs.RefusalLaws.{refusal-some, number-cause, answer-ok}
use Rattle.lattice.proofs.TreeEntries.{row-ok}
use Rattle.fitting.specs.inside.Plans.{Planned}
use Rattle.fitting.proofs.PlanLaws as laws
use Rattle.fitting.proofs.causes.plan_of.Goals as goal
use Rattle.fitting.proofs.causes.plan_of.Goals.{After-lowest_refusal-2, After-unwrap-spacing}

-- the lowest of the causes, tested
seen :
    (c : After-lowest_refusal-2) (early : ℕ) → early ≡ lowest_cause (cause_of c.lowest_refusal.result) (cause_of c.lowest_refusal-2.result) →
    laws.Tested c.args.steps c.args.reversion (cause_of c.args.converted) (answer_of c.args.spaced).number (answer_of c.args.spaced).value
    c.args.discounts c.args.state_prices early
seen c early e =
    laws.tested c.requires.within-limit c.discounts_needed-tree.ensures c.memory_cause-memory.ensures
    (c.lowest_refusal.ensures ∙ ap (lowest_cause (cause_of c.args.converted)) (sym (number-cause c.discounts_needed-tree.result)))
    (c.lowest_refusal-2.ensures
    ∙ ap (λ (x : ℕ). lowest_cause x (cause_of c.memory_cause-memory.result)) (sym (number-cause c.args.spaced)))
    e

pub returns-in_err-lowest_refusal : goal.returns-in_err-lowest_refusal
returns-in_err-lowest_refusal c =
    let p = err_from_is_err_and c.from_residual.result c.from_residual.ensures.1 in
    let t = seen (goal.at.returns-in_err-lowest_refusal c).After-lowest_refusal-2 _ c.in_err-lowest_refusal.ensures in
    rw (p.1, p.2) (laws.plan-early t (refusal-some _))

pub unwrap-spacing-requires : goal.unwrap-spacing-requires
unwrap-spacing-requires c =
    let t = seen (goal.at.unwrap-spacing-requires c).After-lowest_refusal-2 _ c.in_ok-lowest_refusal.ensures in
    answer-ok c.args.spaced (laws.known t refl).spacing-found

pub overflow_sub-steps : goal.overflow_sub-steps
overflow_sub-steps c =
    let t = seen (goal.at.overflow_sub-steps c).After-lowest_refusal-2 _ c.in_ok-lowest_refusal.ensures in
    omega (arith, (laws.known t refl).limits.steps-positive)

pub unwrap-widest-requires : goal.unwrap-widest-requires
unwrap-widest-requires c =
    let t = seen (goal.at.unwrap-widest-requires c).After-lowest_refusal-2 _ c.in_ok-lowest_refusal.ensures in
    let l = (laws.known t refl).limits in
    row-ok _ _ _ _ c.half_width.ensures l.reversion-within-limit (omega (arith, l.steps-within-limit))

-- the spacing is the answer's
spaced : (c : After-unwrap-spacing) → (answer_of c.args.spaced).value ≡ c.unwrap-spacing.result
spaced c = ap (λ (r : Result ℕ Refusal). (answer_of r).value) c.unwrap-spacing.ensures

pub overflow_mul-widest : goal.overflow_mul-widest
overflow_mul-widest c =
    let t = seen (goal.at.overflow_mul-widest c).After-lowest_refusal-2 _ c.in_ok-lowest_refusal.ensures in
    let e = spaced (goal.at.overflow_mul-widest c).After-unwrap-spacing in
    let fits : c.unwrap-widest.result * c.unwrap-spacing.result ≤ 5109549860 =
    rw e at (laws.product-fits t refl (rw c.unwrap-widest.ensures at c.half_width.ensures)) in
    omega arith

pub returns-then-widest-spacing-gt-ONE : goal.returns-then-widest-spacing-gt-ONE
returns-then-widest-spacing-gt-ONE c =
    let t = seen (goal.at.returns-then-widest-spacing-gt-ONE c).After-lowest_refusal-2 _ c.in_ok-lowest_refusal.ensures in
    let e = spaced (goal.at.returns-then-widest-spacing-gt-ONE c).After-unwrap-spacing in
    laws.plan-wide t refl (rw c.unwrap-widest.ensures at c.half_width.ensures) (rw e c.if-widest-spacing-gt-ONE.true)

pub returns : goal.returns
returns c =
    let t = seen (goal.at.returns c).After-lowest_refusal-2 _ c.in_ok-lowest_refusal.ensures in
    let e = spaced (goal.at.returns c).After-unwrap-spacing in
    subst
    (λ (x : ℕ). Planned c.args.steps c.args.reversion (cause_of c.args.converted) (answer_of c.args.spaced).number
    (answer_of c.args.spaced).value c.args.discounts c.args.state_prices
    (record { number = 0; spacing = x; widest = c.unwrap-widest.result }))
    e
    (laws.plan-made t refl (rw c.unwrap-widest.ensures at c.half_width.ensures) (rw e c.if-widest-spacing-gt-ONE.false))
