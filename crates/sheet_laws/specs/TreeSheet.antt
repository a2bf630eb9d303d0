-- The sheet of a priced tree (document 01, Job and sheet): all node lines first, then row lines, then prices.
-- n steps, reversion b; quotes of rows 1 to n, discounts of rows 0 to n − 1 and state prices of rows 0 to n, row after row.
-- Assumes nothing.
use Rattle.std.specs.Prelude.{ℕ, suc, Bool, cond, List, [], ◌++◌}
use Rattle.arithmetic.specs.Row.{values, sum_of}
use Rattle.lent_tree.specs.LentTree.{stored_row}
use Rattle.state_price_bound.specs.ErrorBound.{state_price_error_bound_answer}
use Rattle.price_laws.specs.declared.Price.{Price}
use Rattle.text_laws.specs.Lines.{row_line, bond_line, option_line}
use Rattle.node_lines.specs.Rows.{lines, row_text}

-- node lines: rows 0 to n − 1, lowest node first
abbrev pub nodes_of_row : ℕ → List ℕ → ℕ → List ℕ
nodes_of_row b discounts i = row_text i (stored_row b discounts i)

abbrev pub node_lines : ℕ → ℕ → List ℕ → List ℕ
node_lines n b discounts = lines (nodes_of_row b discounts) n

-- row lines: rows 1 to n; row, quote, sum of state prices, state-price allowance
unfoldable pub line_of_row : ℕ → ℕ → List ℕ → List ℕ → List ℕ → ℕ → List ℕ
line_of_row n b quotes discounts prices i =
    row_line (suc i) (values quotes i) (sum_of (stored_row b prices (suc i))) (state_price_error_bound_answer n b discounts (suc i)).value

abbrev pub row_lines : ℕ → ℕ → List ℕ → List ℕ → List ℕ → List ℕ
row_lines n b quotes discounts prices = lines (line_of_row n b quotes discounts prices) n

-- then prices with price allowance; no option, no line
abbrev pub option_lines : Bool → Price → List ℕ
option_lines present option = cond present (option_line option.value option.bound) []

unfoldable pub price_lines : Price → Bool → Price → List ℕ
price_lines bond present option = bond_line bond.value bond.bound ++ option_lines present option

unfoldable pub tree_sheet : ℕ → ℕ → List ℕ → List ℕ → List ℕ → Price → Bool → Price → List ℕ
tree_sheet n b quotes discounts prices bond present option =
    node_lines n b discounts ++ (row_lines n b quotes discounts prices ++ price_lines bond present option)
