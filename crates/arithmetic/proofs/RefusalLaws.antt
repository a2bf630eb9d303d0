-- Laws of refusals by their numbers.
-- Assumes nothing.
use Rattle.std.proofs.Common.{◌≡◌, ℕ, arith, refl, true, false, Result, Ok, Err}
use Rattle.arithmetic.specs.declared.Refusal.{Refusal}
use Rattle.arithmetic.specs.declared.Refusal.TheVariants.{Job, Frequency, Steps, Reversion, Volatility, LengthOrRow, Quote, Spacing, Discount, Flow, Option, Value, Dates, Nodes, Name, Band, NoBand, SeveralBands, PairSteps}
use Rattle.std.specs.Result.{IsOk, is_err, result_unwrap_or}
use Rattle.arithmetic.specs.Refusals.{number_of, cause_of, answer_of}

-- no refusal has the number of none
pub refusal-some : (r : Refusal) → number_of r ≡ 0 → ⊥
refusal-some Job e = omega arith
refusal-some Frequency e = omega arith
refusal-some Steps e = omega arith
refusal-some Reversion e = omega arith
refusal-some Volatility e = omega arith
refusal-some LengthOrRow e = omega arith
refusal-some Quote e = omega arith
refusal-some Spacing e = omega arith
refusal-some Discount e = omega arith
refusal-some Flow e = omega arith
refusal-some Option e = omega arith
refusal-some Value e = omega arith
refusal-some Dates e = omega arith
refusal-some Nodes e = omega arith
refusal-some Name e = omega arith
refusal-some Band e = omega arith
refusal-some NoBand e = omega arith
refusal-some SeveralBands e = omega arith
refusal-some PairSteps e = omega arith

-- the number that is answered, or 0 where there is none
pub value-or : (r : Result ℕ Refusal) → result_unwrap_or r 0 ≡ (answer_of r).value
value-or (Ok value) = refl
value-or (Err refusal) = refl

-- the number is the cause
pub number-cause : (r : Result ℕ Refusal) → (answer_of r).number ≡ cause_of r
number-cause (Ok value) = refl
number-cause (Err refusal) = refl

-- an answer with number 0 is a result
pub answer-ok : (r : Result ℕ Refusal) → (answer_of r).number ≡ 0 → IsOk r
answer-ok (Ok value) e = refl
answer-ok (Err refusal) e = absurd (refusal-some refusal e)

-- as a test that the code makes
pub err-number : (r : Result ℕ Refusal) → true ≡ is_err r → (answer_of r).number ≡ 0 → ⊥
err-number (Ok value) t e = let z : ◌≡◌ {A = ℕ} 0 1 = cc in omega arith
err-number (Err refusal) t e = refusal-some refusal e

pub ok-number : (r : Result ℕ Refusal) → false ≡ is_err r → (answer_of r).number ≡ 0
ok-number (Ok value) t = refl
ok-number (Err refusal) t = let z : ◌≡◌ {A = ℕ} 0 1 = cc in omega arith

pub err-cause : {A : Type 0} (r : Result A Refusal) → true ≡ is_err r → cause_of r ≡ 0 → ⊥
err-cause (Ok value) t e = let z : ◌≡◌ {A = ℕ} 0 1 = cc in omega arith
err-cause (Err refusal) t e = refusal-some refusal e

pub ok-cause : {A : Type 0} (r : Result A Refusal) → false ≡ is_err r → cause_of r ≡ 0
ok-cause (Ok value) t = refl
ok-cause (Err refusal) t = let z : ◌≡◌ {A = ℕ} 0 1 = cc in omega arith

-- and so is one without a cause
pub cause-ok : {A : Type 0} (r : Result A Refusal) → cause_of r ≡ 0 → IsOk r
cause-ok (Ok value) e = refl
cause-ok (Err refusal) e = absurd (refusal-some refusal e)
