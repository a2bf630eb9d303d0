-- A file of jobs: fields of tag 10 (hex) one after the other, at most 500, each a two-byte length, high byte first, and as many bytes of data.
-- What cannot be taken so breaks the file.
-- Assumes nothing.
use Rattle.std.specs.Prelude.{ℕ, zero, suc, ◌+◌, ◌*◌, ◌/◌, ◌%◌, Bool, cond, ◌&&◌, List, [], ◌∷◌, ◌++◌, eqb, leb, length, get_or, take, drop}
use Rattle.std.specs.Prelude.{true, false, Option, None, Some}
use Rattle.book_laws.specs.declared.Book.{Book}
use Rattle.book_laws.specs.Books.{most_fields, empty_book, with_field, with_fields, closed_book}

-- the three bytes of a field's head, and its length
unfoldable pub head_sound : List ℕ → Bool
head_sound file = leb 3 (length file) && eqb (get_or file 0 0) 16

unfoldable pub field_size : List ℕ → ℕ
field_size file = get_or file 1 0 * 256 + get_or file 2 0

-- a head: whether it is whole and of tag 10 (hex), and then the length of its data; and the same of a length that may not be there
pub record Head : Type 0 where
  pub sound : Bool
  pub size : ℕ

abbrev pub head_with : Option ℕ → Head
head_with None = record { sound = false; size = 0 }
head_with (Some size) = record { sound = true; size = size }

unfoldable pub head_of : List ℕ → Head
head_of file = record { sound = head_sound file; size = cond (head_sound file) (field_size file) 0 }

-- whether a file starts with a whole field; its job, and what comes after it
unfoldable pub starts_whole : List ℕ → Bool
starts_whole file = head_sound file && leb (3 + field_size file) (length file)

unfoldable pub first_job : List ℕ → List ℕ
first_job file = take (field_size file) (drop 3 file)

unfoldable pub after_first : List ℕ → List ℕ
after_first file = drop (3 + field_size file) file

-- the jobs of at most so many fields, and what is left of the file
unfoldable pub jobs_of : ℕ → List ℕ → List (List ℕ)
jobs_of zero file = []
jobs_of (suc most) file = cond (starts_whole file) (first_job file ∷ jobs_of most (after_first file)) []

unfoldable pub rest_of : ℕ → List ℕ → List ℕ
rest_of zero file = file
rest_of (suc most) file = cond (starts_whole file) (rest_of most (after_first file)) file

-- the book of a file
unfoldable pub file_book : List ℕ → Book
file_book file = closed_book (with_fields empty_book (jobs_of most_fields file)) (length (rest_of most_fields file))

-- the same as a program goes that reads field by field
unfoldable pub streamed : ℕ → Book → List ℕ → Book
streamed zero b file = closed_book b (length file)
streamed (suc most) b file = cond (starts_whole file) (streamed most (with_field b (first_job file)) (after_first file)) (closed_book b (length file))

-- a file as it is written, for jobs of at most 65,535 bytes
unfoldable pub field_of : List ℕ → List ℕ
field_of job = 16 ∷ (length job / 256) ∷ (length job % 256) ∷ job

unfoldable pub file_of : List (List ℕ) → List ℕ
file_of [] = []
file_of (job ∷ jobs) = field_of job ++ file_of jobs
