-- Worked examples of the state-price error bound.
-- Assumes nothing.
use mathlib.Core.Path.{◌≡◌, refl}
use mathlib.Core.List.{[], ◌∷◌}
use Rattle.arithmetic.specs.Rounding.{round_up}
use Rattle.arithmetic.specs.Sum.{sum, greatest}
use Rattle.arithmetic.specs.Row.{each}
use Rattle.arithmetic.specs.Answers.{refused, answered, lowest_cause}
use Rattle.limits.specs.Limits.{shape_cause}
use Rattle.lattice.specs.Shape.{half_width, node_count, row_start, discounts_needed}
use Rattle.lattice.specs.RateTree.{rate_tree}
use Rattle.lent_tree.specs.LentTree.{stored, accepted_discounts, discounts_cause}
use Rattle.fit_laws.specs.StatePrices.{state_price_error_bound}
use Rattle.state_price_bound.specs.ErrorBound.{row_cause, bound_cause, state_price_error_bound_answer}

-- Document 01's job has one step and discount 1.0025, and 4 is printed for row 1. Two steps: 1.1 × 4, up, plus 3 + 5 nodes.
-- A discount of 0 is found wherever it stands in the needed part, and not past it.
pub figures :
    (state_price_error_bound_answer 1 0 (1002500000 ∷ []) 1 ≡ answered 4)
    × (state_price_error_bound_answer 2 0 (1002500000 ∷ 900000000 ∷ 1100000000 ∷ 1000000000 ∷ []) 2 ≡ answered 13)
    × (state_price_error_bound_answer 2 0 (1002500000 ∷ 900000000 ∷ 1100000000 ∷ 0 ∷ []) 0 ≡ refused 9)
    × (state_price_error_bound_answer 1 0 (1002500000 ∷ 0 ∷ []) 0 ≡ answered 0)
unfolding round_up sum greatest each half_width node_count row_start discounts_needed rate_tree state_price_error_bound shape_cause lowest_cause
    stored accepted_discounts discounts_cause row_cause bound_cause state_price_error_bound_answer
figures = (refl, refl, refl, refl)
