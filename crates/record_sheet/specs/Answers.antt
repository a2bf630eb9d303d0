-- The answer to a sheet: it stands at the end of the lent room and is so long; a refusal is a number with a zero.
-- Assumes nothing.
use Rattle.std.specs.Prelude.{ℕ, cond, List, eqb, length, Result, Ok, Err}
use Rattle.arithmetic.specs.Refusals.{number_of}
use Rattle.arithmetic.specs.declared.Refusal.{Refusal}
use Rattle.record_sheet.specs.declared.Written.{Written}

abbrev pub refused_sheet : ℕ → Written
refused_sheet number = record { number = number; size = 0 }

-- a size that may be refused, as C sees it
abbrev pub written_of : Result ℕ Refusal → Written
written_of (Ok size) = record { number = 0; size = size }
written_of (Err refusal) = refused_sheet (number_of refusal)

unfoldable pub answer_of : ℕ → List ℕ → Written
answer_of number text = cond (eqb number 0) (record { number = 0; size = length text }) (refused_sheet number)
