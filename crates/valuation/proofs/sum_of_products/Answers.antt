use Rattle.std.proofs.Common.{arith, rules, length-append}
use Rattle.std.proofs.lemmas.Slice.Zip.{zip_turn, zip_end}
use Rattle.valuation.proofs.EntryLaws as laws
use Rattle.valuation.proofs.sum_of_products.Goals as goal

pub loop-price-init : goal.loop-price-init
loop-price-init c = laws.products-start _ _

pub overflow_mul-total : goal.overflow_mul-total
overflow_mul-total c =
    let turn =
    zip_turn c.args.prices.now c.args.payoffs.now c.loop-price.yielded c.into_iter-price-iterator.result c.loop-price.price-iterator
    c.next.new.self c.next.result (search rules) (search rules) c.loop-price.yielded_by _ c.in-Some.is c.next.ensures.steps in
    rw (turn.2 0, turn.3 0)
    (omega (arith, laws.product_small _ _ c.requires.0 c.requires.1 c.requires.2 _ _ turn.0 c.loop-price.invariant.sums))

pub overflow_add-total : goal.overflow_add-total
overflow_add-total c =
    let turn =
    zip_turn c.args.prices.now c.args.payoffs.now c.loop-price.yielded c.into_iter-price-iterator.result c.loop-price.price-iterator
    c.next.new.self c.next.result (search rules) (search rules) c.loop-price.yielded_by _ c.in-Some.is c.next.ensures.steps in
    rw (turn.2 0, turn.3 0)
    (omega (arith, laws.product_small _ _ c.requires.0 c.requires.1 c.requires.2 _ _ turn.0 c.loop-price.invariant.sums))

pub loop-price-preserved : goal.loop-price-preserved
loop-price-preserved c =
    let turn =
    zip_turn c.args.prices.now c.args.payoffs.now c.loop-price.yielded c.into_iter-price-iterator.result c.loop-price.price-iterator
    c.next.new.self c.next.result (search rules) (search rules) c.loop-price.yielded_by _ c.in-Some.is c.next.ensures.steps in
    simp length-append (rw (turn.2 0, turn.3 0) (laws.products-next _ _ _ _ c.loop-price.invariant))

pub returns : goal.returns
returns c =
    let ended =
    zip_end c.args.prices.now c.args.payoffs.now c.loop-price.yielded c.into_iter-price-iterator.result c.loop-price.price-iterator
    c.next.new.self c.next.result (search rules) (search rules) c.loop-price.yielded_by c.in-None.is c.next.ensures.steps in
    laws.products-all _ _ _ _ c.loop-price.invariant (omega (arith, ended, c.requires.0))
