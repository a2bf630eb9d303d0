-- A lent buffer into which text is put from its end.
-- Assumes nothing.
use Rattle.std.specs.Prelude.{ℕ, ◌-◌, cond, List, ◌++◌, eqb, length, take, drop, Result, Ok, Err}
use Rattle.arithmetic.specs.Answers.{unless_refused}
use Rattle.arithmetic.specs.Refusals.{number_of}
use Rattle.arithmetic.specs.declared.Refusal.{Refusal}

-- number 0 and where a text starts, or the number of a refusal with start 0
pub record Placed : Type 0 where
  pub number : ℕ
  pub start : ℕ

-- the start of a text that may be refused, as such
abbrev pub placed_of : Result ℕ Refusal → Placed
placed_of (Ok start) = record { number = 0; start = start }
placed_of (Err refusal) = record { number = number_of refusal; start = 0 }

-- a buffer with a text that ends just before a place, everything else as it was
unfoldable pub put_before : List ℕ → ℕ → List ℕ → List ℕ
put_before out end text = take (end - length text) out ++ (text ++ drop end out)

-- the answer by its number: where the text starts, or the number with a zero
unfoldable pub place_of : ℕ → ℕ → List ℕ → Placed
place_of number end text = cond (eqb number 0) (record { number = 0; start = end - length text }) (record { number = number; start = 0 })

-- the buffer afterwards: with the text, or as it was
unfoldable pub with_text : ℕ → List ℕ → ℕ → List ℕ → List ℕ
with_text number out end text = unless_refused number (put_before out end text) out
