use mathlib.Core.List.{List}
use Prim.Native.Nat.{ℕ}
use lib.ListN.{replicate}
use Rattle.arithmetic.proofs.RowLaws.{Filled}
use Rattle.price_laws.specs.declared.Price.{Price}
use Rattle.pricing.specs.declared.strips.Shared.{Shared}
use Rattle.price_laws.specs.Strips.{most_strikes, strike_price, each_with}
use Rattle.pricing.proofs.strips.strike_prices.Given as goal

-- the answer of a place
abbrev pub price : Shared → List ℕ → List ℕ → List ℕ → List ℕ → ℕ → Price
price shared dates discounts flows strikes =
    each_with shared.bound (strike_price shared.steps shared.reversion discounts flows shared.side dates strikes)

abbrev pub invariant-loop-k : goal.invariant-loop-k
invariant-loop-k l =
    Filled (replicate most_strikes 0) l.numbers (λ (j : ℕ). (price l.shared l.dates l.discounts l.flows l.strikes j).number) l.k
    × Filled (replicate most_strikes 0) l.values (λ (j : ℕ). (price l.shared l.dates l.discounts l.flows l.strikes j).value) l.k
    × Filled (replicate most_strikes 0) l.bounds (λ (j : ℕ). (price l.shared l.dates l.discounts l.flows l.strikes j).bound) l.k
