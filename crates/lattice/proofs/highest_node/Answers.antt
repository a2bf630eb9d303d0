use mathlib.Core.Path.{refl}
use native.Mathlib.Omega.{arith}
use Rattle.lattice.specs.Shape.{highest_node}
use Rattle.lattice.proofs.EntryLaws as entry
use Rattle.lattice.proofs.Sizes.{highest-is}
use Rattle.lattice.proofs.highest_node.Goals as goal

pub returns-then-reversion-gt1840 : goal.returns-then-reversion-gt1840
returns-then-reversion-gt1840 c = highest-is _ 1 (λ z. omega arith) (omega arith) (omega arith)

pub returns-then-reversion-gt920 : goal.returns-then-reversion-gt920
returns-then-reversion-gt920 c = highest-is _ 2 (λ z. omega arith) (omega arith) (omega arith)

pub returns-then-reversion-gt613 : goal.returns-then-reversion-gt613
returns-then-reversion-gt613 c = highest-is _ 3 (λ z. omega arith) (omega arith) (omega arith)

pub returns-then-reversion-gt460 : goal.returns-then-reversion-gt460
returns-then-reversion-gt460 c = highest-is _ 4 (λ z. omega arith) (omega arith) (omega arith)

pub overflow_add-result : goal.overflow_add-result
overflow_add-result c = record { fits = entry.highest-fits _ _ (omega arith) }

pub returns : goal.returns
unfolding highest_node
returns c = refl
