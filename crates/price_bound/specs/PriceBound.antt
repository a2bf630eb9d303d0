-- The price allowance of a tree whose discounts are lent (document 01, Prices), and the greatest discounts of its rows (document 02, request (viii)):
-- refusals 3, 4, 6, 9, lowest number first.
-- Assumes nothing.
use Rattle.std.specs.Prelude.{ℕ, cond, List, eqb, replicate, Result, Ok, Err}
use Rattle.arithmetic.specs.Row.{padded}
use Rattle.arithmetic.specs.declared.Answer.{Answer}
use Rattle.arithmetic.specs.Answers.{refused, answered}
use Rattle.arithmetic.specs.Refusals.{number_of}
use Rattle.arithmetic.specs.declared.Refusal.{Refusal}
use Rattle.limits.specs.Limits.{most_steps}
use Rattle.lattice.specs.RateTree.{rate_tree}
use Rattle.lent_tree.specs.LentTree.{stored, discounts_cause}
use Rattle.pricing_laws.specs.TreePricer.{greatest_discount, price_error_bound}
use Rattle.price_bound.specs.declared.TreeBounds.{TreeBounds}
use Rattle.price_bound.specs.declared.TreeErrorBounds.{TreeErrorBounds}

-- the price allowance of row 0
unfoldable pub tree_error_bound : ℕ → ℕ → List ℕ → ℕ
tree_error_bound n b discounts = price_error_bound (rate_tree b) (stored b discounts) n 0

unfoldable pub price_error_bound_answer : ℕ → ℕ → List ℕ → Answer
price_error_bound_answer n b discounts =
    cond (eqb (discounts_cause n b discounts) 0) (answered (tree_error_bound n b discounts)) (refused (discounts_cause n b discounts))

-- G of rows 0 to n − 1, in as many places as a tree may have rows with discounts; 0 past them
unfoldable pub greatest_discounts : ℕ → ℕ → List ℕ → List ℕ
greatest_discounts n b discounts = padded most_steps n (greatest_discount (rate_tree b) (stored b discounts))

abbrev pub refused_bounds : ℕ → TreeErrorBounds
refused_bounds number = record { number = number; bound = 0; greatest = replicate most_steps 0 }

-- what is known of a tree that may be refused, as C sees it
abbrev pub tree_bounds_of : Result TreeBounds Refusal → TreeErrorBounds
tree_bounds_of (Ok known) = record { number = 0; bound = known.bound; greatest = known.greatest }
tree_bounds_of (Err refusal) = refused_bounds (number_of refusal)

-- both, or a refusal's number with zeros
unfoldable pub tree_bounds_answer : ℕ → ℕ → List ℕ → TreeErrorBounds
tree_bounds_answer n b discounts =
    cond (eqb (discounts_cause n b discounts) 0)
    (record { number = 0; bound = tree_error_bound n b discounts; greatest = greatest_discounts n b discounts })
    (refused_bounds (discounts_cause n b discounts))
