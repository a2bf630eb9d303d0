use Rattle.std.proofs.Common.{◌≡◌, ◌∙◌, length, sym, arith}
use borrow.Author.Tests.{le-leb, lt-leb}
use Rattle.price_bound.proofs.BoundLaws.{ranged-start, ranged-next, ranged-done, ranged-greatest, zero-refused}
use Rattle.price_bound.proofs.range_of.Goals as goal

pub loop-discount-init : goal.loop-discount-init
loop-discount-init c = ranged-start _

pub returns-then-discount-lt1 : goal.returns-then-discount-lt1
returns-then-discount-lt1 c = sym (zero-refused c.args.discounts.now c.loop-discount.discount-index (omega arith) c.if-discount-lt1.true)

pub loop-discount-preserved : goal.loop-discount-preserved
loop-discount-preserved c = ranged-next _ _ _ _ c.loop-discount.invariant c.if-discount-lt1.false c.larger-top.ensures

pub returns-then-top-gt-MOST_DISCOUNT : goal.returns-then-top-gt-MOST_DISCOUNT
returns-then-top-gt-MOST_DISCOUNT c =
    let all : c.loop-discount.discount-index ≡ length c.args.discounts.now = omega arith in
    sym (ranged-done _ _ _ c.loop-discount.invariant all) ∙ lt-leb _ _ c.if-top-gt-MOST_DISCOUNT.true

pub returns : goal.returns
returns c =
    let all : c.loop-discount.discount-index ≡ length c.args.discounts.now = omega arith in (
      sym (ranged-done _ _ _ c.loop-discount.invariant all) ∙ le-leb _ _ c.if-top-gt-MOST_DISCOUNT.false,
      ranged-greatest _ _ _ c.loop-discount.invariant all,
    )
