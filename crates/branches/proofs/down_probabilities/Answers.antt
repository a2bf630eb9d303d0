use native.Mathlib.Omega.{arith}
use Rattle.lattice.proofs.TableLaws as laws
use native.Mathlib.Nat.{mul-le-mul}
use Rattle.branches.proofs.down_probabilities.Goals as goal

clauses-number-memory : {A B : Type 0} → A × B → record { number : A; memory : B }
clauses-number-memory w = record { number = w.0; memory = w.1 }

pub returns-then-reversion-gt-MOST_REVERSION : goal.returns-then-reversion-gt-MOST_REVERSION
returns-then-reversion-gt-MOST_REVERSION c = clauses-number-memory (laws.table-steep _ _ _ c.if-reversion-gt-MOST_REVERSION.true)

pub returns-then-half_width-gt-MOST_STEPS : goal.returns-then-half_width-gt-MOST_STEPS
returns-then-half_width-gt-MOST_STEPS c =
    clauses-number-memory (laws.table-wide _ _ _ c.if-reversion-gt-MOST_REVERSION.false c.if-half_width-gt-MOST_STEPS.true)

pub overflow_mul-half_width : goal.overflow_mul-half_width
overflow_mul-half_width c = omega (arith, mul-le-mul c.if-half_width-gt-MOST_STEPS.false c.if-reversion-gt-MOST_REVERSION.false)

pub returns-then-reversion-half_width : goal.returns-then-reversion-half_width
returns-then-reversion-half_width c =
    clauses-number-memory (laws.table-beyond _ _ _ c.if-reversion-gt-MOST_REVERSION.false c.if-half_width-gt-MOST_STEPS.false
    c.if-reversion-half_width.true)

pub returns-then-table-half_width : goal.returns-then-table-half_width
returns-then-table-half_width c =
    clauses-number-memory (laws.table-length _ _ _ c.if-reversion-gt-MOST_REVERSION.false c.if-half_width-gt-MOST_STEPS.false
    c.if-reversion-half_width.false c.if-table-half_width.true)

pub returns : goal.returns
returns c =
    clauses-number-memory (laws.table_filled _ _ _ c.if-reversion-gt-MOST_REVERSION.false c.if-half_width-gt-MOST_STEPS.false
    c.if-reversion-half_width.false _ c.if-table-half_width.false
    c.fill_table.ensures)
