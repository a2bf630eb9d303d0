-- The lines of a book's report (document 02, request (xiv)), in the manner of the sheet's: a word with a whole number, with two, or with an amount.
-- Assumes nothing.
use Rattle.std.specs.Prelude.{ℕ, cond, List, ◌++◌, leb, length}
use Rattle.text_laws.specs.Lines.{space, newline, whole_number, amount, line_number}
use Rattle.text_laws.specs.Put.{Placed, place_of, with_text}

unfoldable pub whole_line : List ℕ → ℕ → List ℕ
whole_line word number = word ++ (whole_number number ++ newline)

unfoldable pub pair_line : List ℕ → ℕ → ℕ → List ℕ
pair_line word first second = word ++ ((whole_number first ++ space) ++ (whole_number second ++ newline))

unfoldable pub amount_line : List ℕ → ℕ → List ℕ
amount_line word value = word ++ (amount value ++ newline)

-- a word has at most so many bytes
abbrev pub longest_word : ℕ
longest_word = 16

-- 6 for a longer word, and where the line has no room
unfoldable pub word_number : ℕ → ℕ → ℕ → ℕ
word_number word size end = cond (leb word longest_word) (line_number size end) 6

-- the answer to a line with a word, and the buffer afterwards
abbrev pub word_answer : List ℕ → List ℕ → ℕ → List ℕ → Placed
word_answer word out end line = place_of (word_number (length word) (length out) end) end line

abbrev pub with_word : List ℕ → List ℕ → ℕ → List ℕ → List ℕ
with_word word out end line = with_text (word_number (length word) (length out) end) out end line
