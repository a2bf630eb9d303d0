-- Where a field of a file ends.
-- Assumes nothing.
use Rattle.std.specs.Prelude.{ℕ, ◌+◌, cond, List, drop}
use Rattle.book_laws.specs.Files.{field_size, starts_whole}

-- where the field ends that starts at a place; the place itself where none does
unfoldable pub field_end : List ℕ → ℕ → ℕ
field_end file at = cond (starts_whole (drop at file)) (at + (3 + field_size (drop at file))) at
