use Rattle.std.proofs.Common.{◌≡◌, ap, arith, length}
use Rattle.arithmetic.proofs.RowLaws.{filled-start, filled_next}
use Rattle.arithmetic.proofs.PaddedLaws.{filled-padded}
use Rattle.price_laws.specs.declared.Price.{Price}
use Rattle.price_laws.proofs.StripLaws.{strip-is}
use Rattle.pricing.proofs.strips.strike_prices.Invariants.{price}
use Rattle.pricing.proofs.strips.strike_prices.Goals as goal

pub loop-k-init : goal.loop-k-init
loop-k-init c = (
  rw c.no_answers-numbers.ensures (filled-start _ _),
  rw c.no_answers-values.ensures (filled-start _ _),
  rw c.no_answers-bounds.ensures (filled-start _ _),
)

pub loop-k-preserved : goal.loop-k-preserved
loop-k-preserved c =
    let l = c.loop-k in
    let e = c.strike_price-price.ensures in (
      filled_next l.invariant.0 (omega arith) (ap (λ (x : Price). x.number) e),
      filled_next l.invariant.1 (omega arith) (ap (λ (x : Price). x.value) e),
      filled_next l.invariant.2 (omega arith) (ap (λ (x : Price). x.bound) e),
    )

pub returns : goal.returns
returns c =
    let l = c.loop-k in
    let a = c.args in
    let end : l.k ≡ length a.strikes.now = omega arith in
    strip-is (length a.strikes.now) (price a.shared a.dates.now a.discounts.now a.flows.now a.strikes.now) _ _ _
    (filled-padded _ _ _ _ (rw end at l.invariant.0)) (filled-padded _ _ _ _ (rw end at l.invariant.1))
    (filled-padded _ _ _ _ (rw end at l.invariant.2))
