-- What the quotes of rows 1 to n give (document 01, Quotes): their discounts, or the number of a refusal. Row k + 1 stands at place k.
-- Assumes nothing.
use Rattle.std.specs.Prelude.{ℕ, ◌+◌, Bool, not, cond, ◌&&◌, List, leb, eqb, length, get_or, Float}
use Rattle.std.specs.Float.{nan}
use Rattle.arithmetic.specs.Answers.{unless_refused}
use Rattle.arithmetic.specs.declared.Answer.{Answer}
use Rattle.arithmetic.specs.Row.{row, values, place, each}
use Rattle.arithmetic.specs.Frequency.{is_frequency}
use Rattle.limits.specs.Limits.{is_steps}
use Rattle.quotes.specs.Quotes.{lone_answer}

-- the point's row is its place
abbrev pub place_at : List ℕ → ℕ → Bool
place_at rows k = eqb (values rows k) (k + 1)

-- as many rows, kinds and figures as steps, room for the discounts, and each point in its place
unfoldable pub in_place : ℕ → List ℕ → List ℕ → List Float → ℕ → Bool
unfolding each
in_place n rows kinds figures room =
    eqb (length rows) n && eqb (length kinds) n && eqb (length figures) n && leb n room && each n (place_at rows)

-- the answer to the point at place k
unfoldable pub answer_at : ℕ → List ℕ → List Float → ℕ → Answer
unfolding lone_answer
answer_at f kinds figures k = lone_answer f (values kinds k) (record { row = k + 1; figure = get_or figures k nan })

-- whether the point at place k has a discount, and that discount
abbrev pub converts_at : ℕ → List ℕ → List Float → ℕ → Bool
converts_at f kinds figures k = eqb (answer_at f kinds figures k).number 0

abbrev pub discount_at : ℕ → List ℕ → List Float → ℕ → ℕ
discount_at f kinds figures k = (answer_at f kinds figures k).value

-- the number of the refusal, the lowest first, or 0; the memory has room for so many discounts
unfoldable pub curve_number : ℕ → ℕ → List ℕ → List ℕ → List Float → ℕ → ℕ
unfolding in_place answer_at each
curve_number f n rows kinds figures room =
    cond (not (is_frequency f)) 2
    (cond (not (is_steps n)) 3
    (cond (not (in_place n rows kinds figures room)) 6
    (cond (not (each n (converts_at f kinds figures))) 7 0)))

-- the memory afterwards: the n discounts at its start, everything else as it was; where the curve is refused, all as it was
unfoldable pub curve_memory : ℕ → ℕ → List ℕ → List ℕ → List Float → List ℕ → List ℕ
unfolding curve_number place row
curve_memory f n rows kinds figures memory =
    unless_refused (curve_number f n rows kinds figures (length memory)) (place memory 0 (row n (discount_at f kinds figures))) memory
