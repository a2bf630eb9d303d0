-- A memory in which parts stand one after the other: a part is opened, and closed again. The memory keeps its length.
-- Assumes nothing.
use Rattle.std.specs.Prelude.{ℕ, ◌+◌, ◌-◌, List, ◌++◌, length, take, drop}
use Rattle.arithmetic.specs.Row.{row}

-- so many zeros
abbrev pub zeros : ℕ → List ℕ
zeros count = row count (λ k. 0)

-- the numbers from a place on, so many
unfoldable pub part : List ℕ → ℕ → ℕ → List ℕ
part memory at count = take count (drop at memory)

-- zeros are put in at a place; what stood there and behind moves up, and as many numbers fall out at the end
unfoldable pub opened : List ℕ → ℕ → ℕ → List ℕ
opened memory at count = take at memory ++ (zeros count ++ drop at (take (length memory - count) memory))

-- the numbers at a place are taken out; what stood behind moves down, and zeros fill the end
unfoldable pub closed : List ℕ → ℕ → ℕ → List ℕ
closed memory at count = (take at memory ++ drop (at + count) memory) ++ zeros count
