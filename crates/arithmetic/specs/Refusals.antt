-- Refusals and their numbers (document 01, When the engine declines), and results that may be one.
-- Assumes nothing.
use Rattle.std.specs.Prelude.{ℕ, Result, Ok, Err}
use Rattle.arithmetic.specs.Answers.{refused, answered}
use Rattle.arithmetic.specs.declared.Answer.{Answer}
use Rattle.arithmetic.specs.declared.Refusal.{Refusal}
use Rattle.arithmetic.specs.declared.Refusal.TheVariants.{Job, Frequency, Steps, Reversion, Volatility, LengthOrRow, Quote, Spacing, Discount, Flow, Option, Value, Dates, Nodes, Name, Band, NoBand, SeveralBands, PairSteps}

-- the number of a refusal
abbrev pub number_of : Refusal → ℕ
number_of Job = 1
number_of Frequency = 2
number_of Steps = 3
number_of Reversion = 4
number_of Volatility = 5
number_of LengthOrRow = 6
number_of Quote = 7
number_of Spacing = 8
number_of Discount = 9
number_of Flow = 10
number_of Option = 11
number_of Value = 12
number_of Dates = 13
number_of Nodes = 14
number_of Name = 15
number_of Band = 16
number_of NoBand = 17
number_of SeveralBands = 18
number_of PairSteps = 19

-- the number of a result: its refusal's, or 0
abbrev pub cause_of : {A : Type 0} → Result A Refusal → ℕ
cause_of (Ok value) = 0
cause_of (Err refusal) = number_of refusal

-- a number that may be refused, as C sees it
abbrev pub answer_of : Result ℕ Refusal → Answer
answer_of (Ok value) = answered value
answer_of (Err refusal) = refused (number_of refusal)
