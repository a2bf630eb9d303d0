-- The state-price allowances of the tree whose discounts are lent (document 01, Prices), of one row and of all: refusals 3, 4, 6, 9, lowest number first.
-- Assumes nothing.
use Rattle.std.specs.Prelude.{ℕ, ◌+◌, cond, List, eqb, ltb, replicate, Result, Ok, Err}
use Rattle.arithmetic.specs.Row.{padded}
use Rattle.arithmetic.specs.declared.Answer.{Answer}
use Rattle.arithmetic.specs.Answers.{refused, answered, lowest_cause}
use Rattle.limits.specs.Limits.{most_steps}
use Rattle.lattice.specs.RateTree.{rate_tree}
use Rattle.lent_tree.specs.LentTree.{stored, discounts_cause}
use Rattle.fit_laws.specs.StatePrices.{state_price_error_bound}
use Rattle.arithmetic.specs.Refusals.{number_of}
use Rattle.arithmetic.specs.declared.Refusal.{Refusal}

-- 6 for a row past row n, which a tree of n steps has not; else 0
unfoldable pub row_cause : ℕ → ℕ → ℕ
row_cause n i = cond (ltb n i) 6 0

-- the number of the refusal of row i of a tree whose discounts are lent; 0 where the tree is accepted and has the row
unfoldable pub bound_cause : ℕ → ℕ → List ℕ → ℕ → ℕ
bound_cause n b discounts i = lowest_cause (discounts_cause n b discounts) (row_cause n i)

-- the state-price allowance of row i
unfoldable pub state_price_error_bound_answer : ℕ → ℕ → List ℕ → ℕ → Answer
state_price_error_bound_answer n b discounts i =
    cond (eqb (bound_cause n b discounts i) 0) (answered (state_price_error_bound (rate_tree b) (stored b discounts) i))
    (refused (bound_cause n b discounts i))

-- the allowances of rows 0 to n, in as many places as a tree may have rows; 0 past them
unfoldable pub state_price_error_bounds : ℕ → ℕ → List ℕ → List ℕ
state_price_error_bounds n b discounts = padded (most_steps + 1) (n + 1) (state_price_error_bound (rate_tree b) (stored b discounts))

-- a number and the allowances of the rows
pub record RowBounds : Type 0 where
  pub number : ℕ
  pub bounds : List ℕ

abbrev pub refused_bounds : ℕ → RowBounds
refused_bounds number = record { number = number; bounds = replicate (most_steps + 1) 0 }

-- allowances that may be refused, as such an answer
abbrev pub bounds_of : Result (List ℕ) Refusal → RowBounds
bounds_of (Ok bounds) = record { number = 0; bounds = bounds }
bounds_of (Err refusal) = refused_bounds (number_of refusal)

-- all of them, or a refusal's number with zeros
unfoldable pub state_price_error_bounds_answer : ℕ → ℕ → List ℕ → RowBounds
state_price_error_bounds_answer n b discounts =
    cond (eqb (discounts_cause n b discounts) 0) (record { number = 0; bounds = state_price_error_bounds n b discounts })
    (refused_bounds (discounts_cause n b discounts))
