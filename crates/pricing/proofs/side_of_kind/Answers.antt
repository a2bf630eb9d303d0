use mathlib.Core.Path.{◌≡◌}
use Prim.Native.Nat.{ℕ}
use borrow.Author.Tests.{eq-eqb, ne_eqb}
use Rattle.pricing_laws.specs.Schedule.{kind_side}
use Rattle.pricing.proofs.side_of_kind.Goals as goal

first : (kind : ℕ) → kind ≡ 1 → 1 ≡ kind_side kind
unfolding kind_side
first kind e = rw (eq-eqb kind 1 e)

third : (kind : ℕ) → (kind ≡ 1 → ⊥) → kind ≡ 3 → 1 ≡ kind_side kind
unfolding kind_side
third kind n e = rw (ne_eqb kind 1 n, eq-eqb kind 3 e)

other : (kind : ℕ) → (kind ≡ 1 → ⊥) → (kind ≡ 3 → ⊥) → 2 ≡ kind_side kind
unfolding kind_side
other kind n m = rw (ne_eqb kind 1 n, ne_eqb kind 3 m)

pub returns-then-kind-eq1 : goal.returns-then-kind-eq1
returns-then-kind-eq1 c = first _ c.if-kind-eq1.true

pub returns-then-kind-eq3 : goal.returns-then-kind-eq3
returns-then-kind-eq3 c = third _ c.if-kind-eq1.false c.if-kind-eq3.true

pub returns : goal.returns
returns c = other _ c.if-kind-eq1.false c.if-kind-eq3.false
