use Rattle.std.proofs.Common.{◌≡◌, ◌∙◌, ℕ, ◌/◌, length, refl, ap, arith, rules, length-append}
use Rattle.std.proofs.lemmas.Slice.Zip.{zip_turn, zip_end}
use Rattle.arithmetic.specs.Rounding.{one}
use Rattle.arithmetic.specs.Sum.{sum}
use Rattle.fit_laws.specs.Step.{normaliser}
use Rattle.fitting.proofs.StepRows as laws
use Rattle.fitting.proofs.step.normaliser_of.Goals as goal

pub loop-price-init : goal.loop-price-init
unfolding sum
loop-price-init c = refl

pub overflow_mul-total : goal.overflow_mul-total
overflow_mul-total c =
    let turn =
    zip_turn c.args.state_prices.now c.args.factors.now c.loop-price.yielded c.into_iter-price-iterator.result c.loop-price.price-iterator
    c.next.new.self c.next.result (search rules) (search rules) c.loop-price.yielded_by _ c.in-Some.is c.next.ensures.steps in
    rw (turn.2 0, turn.3 0) (omega (arith, laws.weighed-small _ _ c.requires.0 c.requires.1 c.loop-price.invariant turn.0))

pub overflow_add-total : goal.overflow_add-total
overflow_add-total c =
    let turn =
    zip_turn c.args.state_prices.now c.args.factors.now c.loop-price.yielded c.into_iter-price-iterator.result c.loop-price.price-iterator
    c.next.new.self c.next.result (search rules) (search rules) c.loop-price.yielded_by _ c.in-Some.is c.next.ensures.steps in
    rw (turn.2 0, turn.3 0) (omega (arith, laws.weighed-small _ _ c.requires.0 c.requires.1 c.loop-price.invariant turn.0))

pub loop-price-preserved : goal.loop-price-preserved
loop-price-preserved c =
    let turn =
    zip_turn c.args.state_prices.now c.args.factors.now c.loop-price.yielded c.into_iter-price-iterator.result c.loop-price.price-iterator
    c.next.new.self c.next.result (search rules) (search rules) c.loop-price.yielded_by _ c.in-Some.is c.next.ensures.steps in
    simp length-append
    (rw (turn.2 0, turn.3 0) (laws.weighed-next _ _ c.requires.0 c.requires.1 c.loop-price.invariant turn.0))

pub returns : goal.returns
unfolding normaliser
returns c =
    let ended =
    zip_end c.args.state_prices.now c.args.factors.now c.loop-price.yielded c.into_iter-price-iterator.result c.loop-price.price-iterator
    c.next.new.self c.next.result (search rules) (search rules) c.loop-price.yielded_by c.in-None.is c.next.ensures.steps in
    let all : length c.loop-price.yielded ≡ length c.args.state_prices.now = omega (arith, ended, c.requires.0.length-is) in
    ap (λ (x : ℕ). x / one) (c.loop-price.invariant ∙ ap (laws.weighed c.args.state_prices.now c.args.factors.now) all)
