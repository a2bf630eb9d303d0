-- An answer that can be a refusal (document 01, When the engine declines).
-- Assumes nothing.
use Rattle.std.specs.Prelude.{ℕ, min, cond, eqb}
use Rattle.arithmetic.specs.declared.Answer.{Answer}

-- the number of a cause, with a zero
abbrev pub refused : ℕ → Answer
refused cause = record { number = cause; value = 0 }

-- a result, with number 0
abbrev pub answered : ℕ → Answer
answered result = record { number = 0; value = result }

-- what a call with such a number leaves: as it was where it is refused
abbrev pub unless_refused : {A : Type 0} → ℕ → A → A → A
unless_refused number after before = cond (eqb number 0) after before

-- the first of two causes; 0 stands for none
unfoldable pub first_cause : ℕ → ℕ → ℕ
first_cause cause later = cond (eqb cause 0) later cause

-- the lowest of two causes; 0 stands for none
unfoldable pub lowest_cause : ℕ → ℕ → ℕ
lowest_cause a b = cond (eqb a 0) b (cond (eqb b 0) a (min a b))
