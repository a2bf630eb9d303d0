-- The lines of a book (document 02, request (xiv)): eighteen, at the end of a lent room of at least 128 bytes a line.
-- Assumes nothing.
use Rattle.std.specs.Prelude.{ℕ, zero, suc, cond, List, [], ◌∷◌, ◌++◌, ltb, length, Result, Ok, Err}
use Rattle.arithmetic.specs.Row.{values}
use Rattle.arithmetic.specs.Refusals.{number_of}
use Rattle.arithmetic.specs.declared.Refusal.{Refusal}
use Rattle.text_laws.specs.Lines.{refused_word}
use Rattle.text_laws.specs.Put.{put_before}
use Rattle.text_laws.specs.WordLines.{whole_line, pair_line, amount_line}
use Rattle.book_laws.specs.declared.Book.{Book}
use Rattle.book_laws.specs.declared.BookText.{BookText}
use Rattle.book_laws.specs.Bounds.{most_number}

-- `priced `, `bonds `, `options `, `allowances `, `dearest `; a refusal has the sheet's word
abbrev pub priced_word : List ℕ
priced_word = 112 ∷ 114 ∷ 105 ∷ 99 ∷ 101 ∷ 100 ∷ 32 ∷ []

abbrev pub bonds_word : List ℕ
bonds_word = 98 ∷ 111 ∷ 110 ∷ 100 ∷ 115 ∷ 32 ∷ []

abbrev pub options_word : List ℕ
options_word = 111 ∷ 112 ∷ 116 ∷ 105 ∷ 111 ∷ 110 ∷ 115 ∷ 32 ∷ []

abbrev pub allowances_word : List ℕ
allowances_word = 97 ∷ 108 ∷ 108 ∷ 111 ∷ 119 ∷ 97 ∷ 110 ∷ 99 ∷ 101 ∷ 115 ∷ 32 ∷ []

abbrev pub dearest_word : List ℕ
dearest_word = 100 ∷ 101 ∷ 97 ∷ 114 ∷ 101 ∷ 115 ∷ 116 ∷ 32 ∷ []

-- so many lines, one after the other
unfoldable pub lines_from : (ℕ → List ℕ) → ℕ → ℕ → List ℕ
lines_from line from zero = []
lines_from line from (suc count) = line from ++ lines_from line (suc from) count

-- numbers 1 to 13, rising, counts of 0 too
unfoldable pub refusals_line : List ℕ → ℕ → List ℕ
refusals_line counts k = pair_line refused_word (suc k) (values counts k)

abbrev pub refusal_lines : List ℕ → List ℕ
refusal_lines counts = lines_from (refusals_line counts) 0 most_number

unfoldable pub sum_lines : ℕ → ℕ → ℕ → ℕ → List ℕ
sum_lines bonds options errorBounds place =
    amount_line bonds_word bonds ++ (amount_line options_word options ++ (whole_line allowances_word errorBounds ++ whole_line dearest_word place))

unfoldable pub book_lines : Book → List ℕ
book_lines b = whole_line priced_word b.priced ++ (refusal_lines b.refused ++ sum_lines b.bonds b.options b.error_bounds b.place)

-- room for eighteen lines of 128 bytes; 6 where the lent room is shorter
abbrev pub book_room : ℕ
book_room = 2304

-- the lines stand at the end of the lent room and are so long; a refusal leaves the room as it was
unfoldable pub lines_answer : List ℕ → ℕ → BookText
lines_answer text room = cond (ltb room book_room) (record { number = 6; size = 0 }) (record { number = 0; size = length text })

-- the length of lines that may be refused, as C sees it
abbrev pub text_of : Result ℕ Refusal → BookText
text_of (Ok size) = record { number = 0; size = size }
text_of (Err refusal) = record { number = number_of refusal; size = 0 }

unfoldable pub lines_memory : List ℕ → List ℕ → List ℕ
lines_memory text out = cond (ltb (length out) book_room) out (put_before out (length out) text)
