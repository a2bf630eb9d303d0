-- Rows of exercise by marks, as the code keeps them.
-- Assumes nothing.
use Rattle.std.specs.Prelude.{ℕ, List, eqb}
use Rattle.arithmetic.specs.Row.{values}
use Rattle.pricing_laws.specs.Pricer.{Schedule}

-- the rows that marks name: row i where mark i is 1
unfoldable pub marked : ℕ → List ℕ → Schedule
marked last marks = record { last = last; listed = λ i. eqb (values marks i) 1 }
