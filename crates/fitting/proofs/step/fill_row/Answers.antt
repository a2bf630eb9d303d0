use Rattle.std.proofs.Common.{◌≡◌, ◌∙◌, sym, length, arith}
use Rattle.fitting.proofs.StepRows.{never}
use Rattle.fitting.proofs.NodeLoop as laws
use Rattle.fitting.proofs.step.fill_row.Goals as goal

pub loop-k-init : goal.loop-k-init
loop-k-init c = laws.stepping-start c.requires.2

pub bounds-factors-k : goal.bounds-factors-k
bounds-factors-k c = laws.factor-there c.requires.0 c.loop-k.invariant (omega arith)

pub overflow_mul-discount : goal.overflow_mul-discount
overflow_mul-discount c = omega (arith, laws.quoted-fits c.requires.0 c.loop-k.invariant (omega arith))

pub nonzero_div-discount : goal.nonzero_div-discount
nonzero_div-discount c = omega (arith, c.requires.1)

pub returns-then-not-is_discount : goal.returns-then-not-is_discount
returns-then-not-is_discount c =
    record {
      tested = laws.stepping-fails c.requires.0 c.loop-k.invariant (omega arith) (sym c.is_discount.ensures ∙ c.if-not-is_discount.true);
      filled = λ e. never e;
      spreads = λ e. never e;
    }

pub bounds-discounts-k : goal.bounds-discounts-k
bounds-discounts-k c = omega (arith, laws.discounts-length c.requires.0 c.loop-k.invariant)

pub overflow_mul-state_prices : goal.overflow_mul-state_prices
overflow_mul-state_prices c =
    omega (
      arith,
      laws.product-fits c.requires.0 c.loop-k.invariant (omega arith) (sym c.is_discount.ensures ∙ c.if-not-is_discount.false),
    )

pub spread_node-requires : goal.spread_node-requires
spread_node-requires c =
    laws.spread-asks c.requires.0 c.loop-k.invariant (omega arith) (sym c.is_discount.ensures ∙ c.if-not-is_discount.false)

pub loop-k-preserved : goal.loop-k-preserved
loop-k-preserved c =
    laws.stepping-next c.requires.0 c.loop-k.invariant (omega arith) (sym c.is_discount.ensures ∙ c.if-not-is_discount.false) _ c.spread_node.ensures

pub returns : goal.returns
returns c =
    let done = c.loop-k.invariant in
    let all : c.loop-k.k ≡ length c.args.state_prices.now = omega arith in
    record {
      tested = laws.stepping-good c.requires.0 done all;
      filled = λ _. laws.stepping-filled c.requires.0 done all;
      spreads = λ _. laws.stepping-spread c.requires.0 done all;
    }
