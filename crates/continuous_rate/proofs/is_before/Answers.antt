use mathlib.Core.Path.{ap}
use Prim.Native.Nat.{ℕ}
use lib.Dec.{leb}
use Rattle.continuous_rate.specs.inside.Search.{before}
use Rattle.continuous_rate.proofs.is_before.Goals as goal

pub returns-then-below : goal.returns-then-below
unfolding before
returns-then-below c = rw c.if-below.true (rw c.if-below.true at (ap (λ (x : ℕ). leb x c.args.discount) c.side_discount-found.ensures))

pub returns : goal.returns
unfolding before
returns c = rw c.if-below.false (rw c.if-below.false at (ap (λ (x : ℕ). leb c.args.discount x) c.side_discount-found.ensures))
