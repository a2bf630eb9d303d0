-- A recombining tree of any row widths and any transitions. Nodes of a row are counted from the lowest, from 0.
-- Assumes nothing.
use Rattle.std.specs.Prelude.{◌≡◌, ℕ, suc, ◌+◌, ◌*◌, ◌<◌}
use Rattle.arithmetic.specs.Sum.{sum, only}

-- the denominator of the probabilities
abbrev pub probability_total : ℕ
probability_total = 600000000

-- m: the factor that one exact roll adds to a denominator, 600,000,000 × one
abbrev pub unit : ℕ
unit = 600000000000000000

-- From a row to the next: the lowest node that a node leads to, and the probabilities of that node and of the two above it.
pub record Transition : Type 0 where
  pub low : ℕ → ℕ
  pub down : ℕ → ℕ
  pub middle : ℕ → ℕ
  pub up : ℕ → ℕ

-- the node count of each row, and the transition from each row to the next
pub record Tree : Type 0 where
  pub nodes : ℕ → ℕ
  pub step : ℕ → Transition

-- every node of a row of n nodes leads into a row of m nodes
abbrev pub Inside : Transition → ℕ → ℕ → Type 0
Inside t n m = (k : ℕ) → k < n → t.low k + 2 < m

-- the probabilities of each of n nodes sum to the whole
abbrev pub Total : Transition → ℕ → Type 0
Total t n = (k : ℕ) → k < n → t.down k + t.middle k + t.up k ≡ probability_total

-- What laws may use of a tree: one node on row 0, branches that stay inside the next row, probabilities that sum to the whole.
pub record Sound (t : Tree) : Type 0 where
  pub root : t.nodes 0 ≡ 1
  pub inside : (i : ℕ) → Inside (t.step i) (t.nodes i) (t.nodes (suc i))
  pub total : (i : ℕ) → Total (t.step i) (t.nodes i)

-- the probability that node k leads to node j of the next row
unfoldable pub chance : Transition → ℕ → ℕ → ℕ
chance t k j = only (t.low k) j (t.down k) + only (t.low k + 1) j (t.middle k) + only (t.low k + 2) j (t.up k)

-- the sum over the branches into node j of probability × amount, over a row of n nodes
unfoldable pub incoming : Transition → ℕ → (ℕ → ℕ) → ℕ → ℕ
incoming t n amount j = sum n (λ k. chance t k j * amount k)

-- the sum over the branches out of node k of probability × value
unfoldable pub outgoing : Transition → (ℕ → ℕ) → ℕ → ℕ
outgoing t value k = t.down k * value (t.low k) + t.middle k * value (t.low k + 1) + t.up k * value (t.low k + 2)
