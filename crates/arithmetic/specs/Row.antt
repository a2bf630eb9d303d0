-- Rows as lists in memory, lowest node first, and tests of every index.
-- Assumes nothing.
use Rattle.std.specs.Prelude.{ℕ, zero, suc, ◌+◌, Bool, true, cond, ◌&&◌, List, [], ◌∷◌, ◌++◌, leb, ltb, get_or, take, drop, length}
use Rattle.arithmetic.specs.Sum.{sum, greatest}

-- the list f 0, .., f (n - 1)
unfoldable pub row : ℕ → (ℕ → ℕ) → List ℕ
row zero f = []
row (suc n) f = f 0 ∷ row n (λ k. f (suc k))

-- what a list holds at an index; 0 past its end
abbrev pub values : List ℕ → ℕ → ℕ
values l k = get_or l k 0

-- the sum of a list
unfoldable pub sum_of : List ℕ → ℕ
sum_of l = sum (length l) (values l)

-- the greatest of a list; 0 where it is empty
abbrev pub greatest_of : List ℕ → ℕ
greatest_of l = greatest (length l) (values l)

-- a memory in which a list stands from an index on, everything else as it was
unfoldable pub place : List ℕ → ℕ → List ℕ → List ℕ
place memory start part = take start memory ++ (part ++ drop (start + length part) memory)

-- the test holds of each number below n
unfoldable pub each : ℕ → (ℕ → Bool) → Bool
each zero test = true
each (suc n) test = each n test && test n

-- the number at an index is from low to high
abbrev pub between : ℕ → ℕ → (ℕ → ℕ) → ℕ → Bool
between low high f k = leb low (f k) && leb (f k) high

-- the first n values of f, and those of g after them
unfoldable pub overlay : ℕ → (ℕ → ℕ) → (ℕ → ℕ) → ℕ → ℕ
overlay n f g k = cond (ltb k n) (f k) (g k)

-- f 0, .., f (n - 1) in so many places, zeros after them
unfoldable pub padded : ℕ → ℕ → (ℕ → ℕ) → List ℕ
padded places n f = row places (overlay n f (λ k. 0))
