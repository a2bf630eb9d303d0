use Rattle.std.proofs.Common.{◌≡◌, ℕ, ◌+◌, ◌*◌, ◌≤◌, refl, arith}
use Rattle.arithmetic.specs.Rounding.{one}
use Rattle.factor.specs.Series.{term}
use Rattle.factor.proofs.SeriesLaws.{term-most}
use Rattle.factor.proofs.SumsLaws.{next-is, summed-start, summed-next, latest-most, even-most, odd-most}
use Rattle.factor.proofs.series_sums.Goals as goal
use Rattle.factor.proofs.series_sums.Goals.{After-next_term-last}

-- the two terms of a turn, each at most one
first-is : (c : After-next_term-last) → c.next_term-next.result ≡ term c.args.y (2 * c.loop-pair.pair + 1)
first-is c = next-is _ _ c.loop-pair.invariant.latest refl c.next_term-next.ensures

second-is : (c : After-next_term-last) → c.next_term-last.result ≡ term c.args.y (2 * c.loop-pair.pair + 1 + 1)
second-is c = next-is _ _ (first-is c) (omega arith) c.next_term-last.ensures

term-within : (y k : ℕ) {x : ℕ} → y ≤ one → x ≡ term y k → x ≤ one
term-within y k h e = omega (arith, term-most y k h)

pub loop-pair-init : goal.loop-pair-init
loop-pair-init c = summed-start _

pub next_term-next-requires : goal.next_term-next-requires
next_term-next-requires c = (latest-most c.requires c.loop-pair.invariant, c.requires, omega arith)

pub next_term-last-requires : goal.next_term-last-requires
next_term-last-requires c =
    (term-within _ _ c.requires (next-is _ _ c.loop-pair.invariant.latest refl c.next_term-next.ensures), c.requires, omega arith)

pub overflow_add-odd : goal.overflow_add-odd
overflow_add-odd c = omega (arith, term-within _ _ c.requires (first-is c), odd-most c.requires c.loop-pair.invariant)

pub overflow_add-even : goal.overflow_add-even
overflow_add-even c = omega (arith, term-within _ _ c.requires (second-is c), even-most c.requires c.loop-pair.invariant)

pub loop-pair-preserved : goal.loop-pair-preserved
loop-pair-preserved c = summed-next c.loop-pair.invariant (first-is c) (second-is c)

pub returns : goal.returns
returns c =
    let six : c.loop-pair.pair ≡ 6 = omega arith in
    (rw six at c.loop-pair.invariant.even_sum, rw six at c.loop-pair.invariant.odd-sum)
