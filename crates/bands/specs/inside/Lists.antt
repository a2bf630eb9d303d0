-- The lists of a table of bands.
-- Assumes nothing.
use Rattle.std.specs.Prelude.{ℕ, ◌≡◌, List, length}

-- four lists of one length
abbrev pub Parallel : List ℕ → List ℕ → List ℕ → List ℕ → Type 0
Parallel firsts lasts lowests highests =
    (length lasts ≡ length firsts) × (length lowests ≡ length firsts) × (length highests ≡ length firsts)
