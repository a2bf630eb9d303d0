-- Branching (document 01): node j with a sign, z = j × b, probabilities over 600,000,000.
-- Assumes nothing.
use Rattle.std.specs.Prelude.{ℕ, suc, ◌+◌, ◌*◌, cond, List, [], ◌∷◌, eqb, ℤ, pos, negsuc, neg_ℤ, nat_abs, ◌+ℤ◌, ◌-ℤ◌, ◌*ℤ◌}
use Rattle.lattice.specs.Shape.{highest_node}

-- ordinary, at j = J, at j = −J
pub data Branching : Type 0 where
  ordinary top bottom : Branching

unfoldable pub branching : ℕ → ℤ → Branching
branching b (pos j) = cond (eqb b 0) ordinary (cond (eqb j (highest_node b)) top ordinary)
branching b (negsuc j) = cond (eqb b 0) ordinary (cond (eqb (suc j) (highest_node b)) bottom ordinary)

-- the lowest of the three neighbouring nodes where the branches lead
unfoldable pub lowest_of : Branching → ℤ → ℤ
lowest_of ordinary j = j -ℤ pos 1
lowest_of top j = j -ℤ pos 2
lowest_of bottom j = j

unfoldable pub z_of : ℕ → ℤ → ℤ
z_of b j = j *ℤ pos b

unfoldable pub up_formula : Branching → ℤ → ℤ
up_formula ordinary z = pos 100000000 +ℤ pos 3 *ℤ (z *ℤ z) -ℤ pos 30000 *ℤ z
up_formula top z = pos 700000000 +ℤ pos 3 *ℤ (z *ℤ z) -ℤ pos 90000 *ℤ z
up_formula bottom z = pos 100000000 +ℤ pos 3 *ℤ (z *ℤ z) +ℤ pos 30000 *ℤ z

unfoldable pub middle_formula : Branching → ℤ → ℤ
middle_formula ordinary z = pos 400000000 -ℤ pos 6 *ℤ (z *ℤ z)
middle_formula top z = neg_ℤ (pos 200000000) -ℤ pos 6 *ℤ (z *ℤ z) +ℤ pos 120000 *ℤ z
middle_formula bottom z = neg_ℤ (pos 200000000) -ℤ pos 6 *ℤ (z *ℤ z) -ℤ pos 120000 *ℤ z

unfoldable pub down_formula : Branching → ℤ → ℤ
down_formula ordinary z = pos 100000000 +ℤ pos 3 *ℤ (z *ℤ z) +ℤ pos 30000 *ℤ z
down_formula top z = pos 100000000 +ℤ pos 3 *ℤ (z *ℤ z) -ℤ pos 30000 *ℤ z
down_formula bottom z = pos 700000000 +ℤ pos 3 *ℤ (z *ℤ z) +ℤ pos 90000 *ℤ z

-- the probabilities of node j; none of the formulas is below 0 on a node of the tree
unfoldable pub up_probability : ℕ → ℤ → ℕ
up_probability b j = nat_abs (up_formula (branching b j) (z_of b j))

unfoldable pub middle_probability : ℕ → ℤ → ℕ
middle_probability b j = nat_abs (middle_formula (branching b j) (z_of b j))

unfoldable pub down_probability : ℕ → ℤ → ℕ
down_probability b j = nat_abs (down_formula (branching b j) (z_of b j))

-- the three as one group: up, middle, down
abbrev pub probabilities : ℕ → ℤ → List ℕ
probabilities b j = up_probability b j ∷ middle_probability b j ∷ down_probability b j ∷ []

-- The branches lead to lowest, lowest + 1 and lowest + 2, by down, middle and up: the sum of probability × change of node,
unfoldable pub change_to : ℤ → ℤ → ℕ → ℕ → ℕ → ℤ
change_to j lowest u m d = pos d *ℤ (lowest -ℤ j) +ℤ pos m *ℤ (lowest +ℤ pos 1 -ℤ j) +ℤ pos u *ℤ (lowest +ℤ pos 2 -ℤ j)

unfoldable pub change : ℕ → ℤ → ℤ
change b j = change_to j (lowest_of (branching b j) j) (up_probability b j) (middle_probability b j) (down_probability b j)

-- and of probability × squared change
unfoldable pub squared : ℤ → ℕ
squared z = nat_abs z * nat_abs z

unfoldable pub square_to : ℤ → ℤ → ℕ → ℕ → ℕ → ℕ
square_to j lowest u m d = d * squared (lowest -ℤ j) + m * squared (lowest +ℤ pos 1 -ℤ j) + u * squared (lowest +ℤ pos 2 -ℤ j)

unfoldable pub square : ℕ → ℤ → ℕ
square b j = square_to j (lowest_of (branching b j) j) (up_probability b j) (middle_probability b j) (down_probability b j)
