-- The lines of the sheet (document 01, Job and sheet), and a lent buffer into which lines are put from its end.
-- Assumes nothing.
use Rattle.std.specs.Prelude.{ℕ, cond, ◌&&◌, List, [], ◌∷◌, ◌++◌, leb, ℤ, length}
use Rattle.text_laws.specs.Decimal.{decimal, signed_decimal}
use Rattle.arithmetic.specs.Answers.{lowest_cause}
use Rattle.step_rate.specs.StepRate.{rate_answer}
use Rattle.text_laws.specs.Put.{Placed, place_of, with_text}

-- a space and a line's end
abbrev pub space : List ℕ
space = 32 ∷ []

abbrev pub newline : List ℕ
newline = 10 ∷ []

-- a whole number, an amount of nine decimals, a rate in billionths as percent with seven
abbrev pub whole_number : ℕ → List ℕ
whole_number n = decimal 0 n

abbrev pub amount : ℕ → List ℕ
amount n = decimal 9 n

abbrev pub signed_whole : ℤ → List ℕ
signed_whole z = signed_decimal 0 z

abbrev pub percent : ℤ → List ℕ
percent rate = signed_decimal 7 rate

-- `node `, `row `, `bond `, `option `, `refused `
abbrev pub node_word : List ℕ
node_word = 110 ∷ 111 ∷ 100 ∷ 101 ∷ 32 ∷ []

abbrev pub row_word : List ℕ
row_word = 114 ∷ 111 ∷ 119 ∷ 32 ∷ []

abbrev pub bond_word : List ℕ
bond_word = 98 ∷ 111 ∷ 110 ∷ 100 ∷ 32 ∷ []

abbrev pub option_word : List ℕ
option_word = 111 ∷ 112 ∷ 116 ∷ 105 ∷ 111 ∷ 110 ∷ 32 ∷ []

abbrev pub refused_word : List ℕ
refused_word = 114 ∷ 101 ∷ 102 ∷ 117 ∷ 115 ∷ 101 ∷ 100 ∷ 32 ∷ []

-- row, node, discount, step rate in percent
unfoldable pub node_line : ℕ → ℤ → ℕ → ℤ → List ℕ
node_line row node discount rate =
    node_word ++ ((whole_number row ++ space) ++ ((signed_whole node ++ space) ++ ((amount discount ++ space) ++ (percent rate ++ newline))))

-- row, quote, sum of state prices, state-price allowance
unfoldable pub row_line : ℕ → ℕ → ℕ → ℕ → List ℕ
row_line row quote total bound =
    row_word ++ ((whole_number row ++ space) ++ ((amount quote ++ space) ++ ((amount total ++ space) ++ (whole_number bound ++ newline))))

-- a price and its allowance, after the word
unfoldable pub price_line : List ℕ → ℕ → ℕ → List ℕ
price_line word price bound = word ++ ((amount price ++ space) ++ (whole_number bound ++ newline))

abbrev pub bond_line : ℕ → ℕ → List ℕ
bond_line price bound = price_line bond_word price bound

abbrev pub option_line : ℕ → ℕ → List ℕ
option_line price bound = price_line option_word price bound

-- the number of a refusal
unfoldable pub refused_line : ℕ → List ℕ
refused_line number = refused_word ++ (whole_number number ++ newline)

-- the line of a node: its rate is the step rate of its discount
unfoldable pub line_of_node : ℕ → ℤ → ℕ → List ℕ
line_of_node row node discount = node_line row node discount (rate_answer discount).value

-- no line is longer
abbrev pub longest_line : ℕ
longest_line = 128

-- a line is put where the place is in the buffer and at least 128 bytes stand before it, and else refused with 6
unfoldable pub line_number : ℕ → ℕ → ℕ
line_number size end = cond (leb longest_line end && leb end size) 0 6

-- the answer to a line, and the buffer afterwards
abbrev pub line_answer : List ℕ → ℕ → List ℕ → Placed
line_answer out end line = place_of (line_number (length out) end) end line

abbrev pub with_line : List ℕ → ℕ → List ℕ → List ℕ
with_line out end line = with_text (line_number (length out) end) out end line

-- a node's line is also refused where its discount has no step rate, with 9
unfoldable pub node_number : ℕ → ℕ → ℕ → ℕ
node_number size end discount = lowest_cause (line_number size end) (rate_answer discount).number
