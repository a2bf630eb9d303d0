use mathlib.Core.List.{List, [], ◌∷◌}
use mathlib.Core.Bool.{Bool}
use Prim.Native.Nat.{ℕ, ◌^◌}
use lib.Dec.{eqb, eqb→eq}
use lib.ListN.{get_or}
use borrow.Author.Rules.{rules}
use Rattle.arithmetic.proofs.Table.{at}
use Rattle.arithmetic.proofs.table_entry.Goals as goal

table : List ℕ
table =
    1 ∷ 10 ∷ 100 ∷ 1_000 ∷ 10_000 ∷ 100_000 ∷ 1_000_000 ∷ 10_000_000 ∷ 100_000_000 ∷ 1_000_000_000 ∷ 10_000_000_000
    ∷ 100_000_000_000 ∷ 1_000_000_000_000 ∷ 10_000_000_000_000 ∷ 100_000_000_000_000 ∷ 1_000_000_000_000_000
    ∷ 10_000_000_000_000_000 ∷ 100_000_000_000_000_000 ∷ 1_000_000_000_000_000_000 ∷ []

right : ℕ → ℕ → Bool
right k x = eqb x (10 ^ k)

pub returns : goal.returns
unfolding table right
returns c = eqb→eq (get_or table c.args.exponent 0) (10 ^ c.args.exponent) (at right table tt c.args.exponent (search rules))
