-- What is known of a fit's numbers once causes 2 to 8 were tested.
-- Assumes nothing.
use Rattle.std.specs.Prelude.{◌≡◌, cond, ℕ, ◌-◌, ◌*◌, ◌≤◌, eqb, ltb}
use Rattle.arithmetic.specs.Rounding.{one}
use Rattle.arithmetic.specs.declared.Answer.{Answer}
use Rattle.lattice.specs.Shape.{half_width}
use Rattle.fitted_laws.specs.inside.Numbers.{Numbers}
use Rattle.std.specs.Prelude.{Result, Ok, Err}
use Rattle.arithmetic.specs.Refusals.{number_of}
use Rattle.arithmetic.specs.declared.Refusal.{Refusal}
use Rattle.fitting.specs.declared.causes.Plan.{Plan}
use Rattle.fitted_laws.specs.Entry.{early_cause}

-- the greatest spacing, that of one step a year and the greatest volatility
abbrev pub most_spacing : ℕ
most_spacing = 86602540

-- what the answer of a spacing meets
pub record SpacingKnown (spaced : Answer) : Type 0 where
  pub cause-most : spaced.number ≤ 7
  pub within-limit : spaced.value ≤ most_spacing

-- a plan with number 0, or the number of a refusal with zeros
pub record PlanAnswer : Type 0 where
  pub number : ℕ
  pub spacing : ℕ
  pub widest : ℕ

abbrev pub plan_answer : Result Plan Refusal → PlanAnswer
plan_answer (Ok plan) = record { number = 0; spacing = plan.spacing; widest = plan.widest }
plan_answer (Err refusal) = record { number = number_of refusal; spacing = 0; widest = 0 }

-- the plan's number is that of the lowest cause, 8 after the others; without one, it holds h and the half width of row n − 1
pub record Planned (n w converted spaced h discounts state-prices : ℕ) (p : PlanAnswer) : Type 0 where
  pub number : p.number ≡ cond (eqb (early_cause converted n w spaced discounts state-prices) 0)
      (cond (ltb one (half_width w (n - 1) * h)) 8 0) (early_cause converted n w spaced discounts state-prices)
  pub numbers : p.number ≡ 0 → Numbers n w converted spaced discounts state-prices
  pub spacing-is : p.number ≡ 0 → p.spacing ≡ h
  pub widest-is : p.number ≡ 0 → p.widest ≡ half_width w (n - 1)
  pub spacing-within-one : p.number ≡ 0 → p.widest * p.spacing ≤ one
