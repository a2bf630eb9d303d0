-- U(j), the factor of a node (document 01, Spacing and fit, second point), and the entries that answer it.
-- Assumes nothing.
use Rattle.std.specs.Prelude.{ℕ, ◌*◌, Bool, true, false, cond, ltb, ℤ, pos, nat_abs, Result, Ok, Err}
use Rattle.std.specs.Int.Signed.{lt_z}
use Rattle.arithmetic.specs.Rounding.{one}
use Rattle.arithmetic.specs.Answers.{refused, answered}
use Rattle.arithmetic.specs.declared.Answer.{Answer}
use Rattle.arithmetic.specs.declared.Refusal.{Refusal}
use Rattle.arithmetic.specs.declared.Refusal.TheVariants.{Spacing}
use Rattle.factor.specs.declared.Sides.{Sides}
use Rattle.factor.specs.Series.{term, exact_term, series}

-- U(j) with y = |j| × h: the sum for j < 0, the sum with alternating signs for j ≥ 0
unfoldable pub factor : ℤ → ℕ → ℕ
factor j h = series (lt_z j (pos 0)) (term (nat_abs j * h))

-- the same series in exact fractions, times 12! × one^11
unfoldable pub exact_factor : ℤ → ℕ → ℕ
exact_factor j h = series (lt_z j (pos 0)) (exact_term (nat_abs j * h))

-- what the entry of a node answers: cause 8 where |j| × h is above one, or U(j)
unfoldable pub node_answer : ℤ → ℕ → Answer
node_answer j h = cond (ltb one (nat_abs j * h)) (refused 8) (answered (factor j h))

-- U and the answer by the distance from the middle node and the side
unfoldable pub side_factor : ℕ → Bool → ℕ → ℕ
side_factor distance below h = series below (term (distance * h))

unfoldable pub side_answer : ℕ → Bool → ℕ → Answer
side_answer distance below h = cond (ltb one (distance * h)) (refused 8) (answered (side_factor distance below h))

-- the factors of both sides of the middle node, together
unfoldable pub sides_answer : ℕ → ℕ → Result Sides Refusal
sides_answer distance h =
    cond (ltb one (distance * h)) (Err Spacing)
    (Ok (record { below = side_factor distance true h; above = side_factor distance false h }))
