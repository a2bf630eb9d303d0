-- The answers of the lattice's entries: 4 for a reversion above 6,000, 3 for steps outside 1 to 60, 6 for a row or node that is not in the tree.
-- Assumes nothing.
use Rattle.std.specs.Prelude.{ℕ, suc, ◌+◌, ◌-◌, ◌*◌, Bool, cond, ◌||◌, ◌&&◌, List, [], ◌∷◌, eqb, leb, ltb, ℤ, pos, nat_abs, length, Result, Ok, Err}
use Rattle.arithmetic.specs.Answers.{unless_refused, refused, answered}
use Rattle.arithmetic.specs.Row.{row}
use Rattle.arithmetic.specs.Refusals.{number_of}
use Rattle.arithmetic.specs.declared.Answer.{Answer}
use Rattle.arithmetic.specs.declared.Refusal.{Refusal}
use Rattle.limits.specs.Limits.{most_steps, most_reversion, shape_cause}
use Rattle.lattice.specs.Shape.{half_width, node_count, row_start, discounts_needed, state_prices_needed}
use Rattle.lattice.specs.Branching.{branching, lowest_of, probabilities, down_probability}
use Rattle.lattice.specs.RateTree.{node_of_index}
use Rattle.lattice.specs.declared.Branch.{Branch}
use Rattle.lattice.specs.declared.Branches.{Branches}
use Rattle.lattice.specs.declared.RowShape.{RowShape}

-- a number about row i of a tree of reversion b; rows run from 0 to 60
unfoldable pub about_row : ℕ → ℕ → ℕ → Answer
about_row b i result = cond (ltb most_reversion b) (refused 4) (cond (ltb most_steps i) (refused 6) (answered result))

abbrev pub half_width_answer : ℕ → ℕ → Answer
half_width_answer b i = about_row b i (half_width b i)

abbrev pub node_count_answer : ℕ → ℕ → Answer
node_count_answer b i = about_row b i (node_count b i)

abbrev pub row_start_answer : ℕ → ℕ → Answer
row_start_answer b i = about_row b i (row_start b i)

-- a number about the tree of n steps and reversion b
unfoldable pub about_tree : ℕ → ℕ → ℕ → Answer
about_tree n b result = cond (eqb (shape_cause n b) 0) (answered result) (refused (shape_cause n b))

abbrev pub discounts_needed_answer : ℕ → ℕ → Answer
discounts_needed_answer n b = about_tree n b (discounts_needed n b)

abbrev pub state_prices_needed_answer : ℕ → ℕ → Answer
state_prices_needed_answer n b = about_tree n b (state_prices_needed n b)

-- 6 where one of two memories is too short for the tree; 0 where there is no cause, or the tree itself is refused
unfoldable pub memory_cause : ℕ → ℕ → ℕ → ℕ → ℕ
memory_cause n b discounts prices =
    cond (leb (discounts_needed_answer n b).value discounts && leb (state_prices_needed_answer n b).value prices) 0 6

-- where row i starts in a table of row w's nodes, each row's middle node above the other's
abbrev pub table_offset : ℕ → ℕ → ℕ → ℕ
table_offset b w i = half_width b w - half_width b i

abbrev pub refused_shape : ℕ → RowShape
refused_shape cause = record { number = cause; start = 0; count = 0; next = 0; offset = 0 }

abbrev pub shape_of : ℕ → ℕ → ℕ → RowShape
shape_of b w i =
    record { number = 0; start = row_start b i; count = node_count b i; next = node_count b (suc i); offset = table_offset b w i }

-- where row i stands, with tables of row w: 4, then 6 where w is no row, i is past it, or no row follows i
unfoldable pub row_shape_answer : ℕ → ℕ → ℕ → RowShape
row_shape_answer b w i =
    cond (ltb most_reversion b) (refused_shape 4)
    (cond (ltb most_steps w || ltb w i || leb most_steps i) (refused_shape 6) (shape_of b w i))

abbrev pub refused_branch : ℕ → Branches
refused_branch cause = record { number = cause; lowest = pos 0; probabilities = 0 ∷ 0 ∷ 0 ∷ [] }

-- a branch that may be refused, as C sees it
abbrev pub branches_of : Result Branch Refusal → Branches
branches_of (Ok branch) = record { number = 0; lowest = branch.lowest; probabilities = branch.probabilities }
branches_of (Err refusal) = refused_branch (number_of refusal)

abbrev pub branch_of : ℕ → ℤ → Branches
branch_of b j = record { number = 0; lowest = lowest_of (branching b j) j; probabilities = probabilities b j }

-- the branch of node j of row i; no branch leaves row 60
unfoldable pub branch_answer : ℕ → ℕ → ℤ → Branches
branch_answer b i j =
    cond (ltb most_reversion b) (refused_branch 4)
    (cond (leb most_steps i) (refused_branch 6)
    (cond (leb (nat_abs j) (half_width b i)) (branch_of b j) (refused_branch 6)))

-- a half width that some row of some tree has: at most 60 and at most J
unfoldable pub is_half_width : ℕ → ℕ → Bool
is_half_width b w = leb w (half_width b most_steps)

-- the down-probabilities of nodes −w to w in a lent table of 2 w + 1 numbers: 4, then 6 for the half width or the length
unfoldable pub table_number : ℕ → ℕ → ℕ → ℕ
table_number b w size = cond (ltb most_reversion b) 4 (cond (is_half_width b w && eqb size (2 * w + 1)) 0 6)

unfoldable pub table_of : ℕ → ℕ → List ℕ → List ℕ
table_of b w table = unless_refused (table_number b w (length table)) (row (2 * w + 1) (λ k. down_probability b (node_of_index w k))) table
