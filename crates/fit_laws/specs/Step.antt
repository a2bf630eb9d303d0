-- One step of the fit (document 01, Spacing and fit), over a row of n nodes: state prices q, factors u, the quote p of the next row, discounts v.
-- Assumes nothing.
use Rattle.std.specs.Prelude.{ℕ, ◌*◌, ◌/◌}
use Rattle.arithmetic.specs.Rounding.{one}
use Rattle.arithmetic.specs.Sum.{sum}
use Rattle.tree.specs.Tree.{Transition, probability_total, incoming}

-- Z: the sum of state price × factor, divided by one, down
unfoldable pub normaliser : ℕ → (ℕ → ℕ) → (ℕ → ℕ) → ℕ
normaliser n q u = sum n (λ k. q k * u k) / one

-- node discount: quote × factor / Z, down
unfoldable pub discount : ℕ → (ℕ → ℕ) → (ℕ → ℕ) → ℕ → ℕ → ℕ
discount n q u p k = p * u k / normaliser n q u

-- carried amount: state price × discount / one, down
unfoldable pub carried : (ℕ → ℕ) → (ℕ → ℕ) → ℕ → ℕ
carried q v k = q k * v k / one

-- the next row's state price: the sum over incoming branches of probability × carried amount, divided once, down
unfoldable pub next_state_price : Transition → ℕ → (ℕ → ℕ) → (ℕ → ℕ) → ℕ → ℕ
next_state_price t n q v j = incoming t n (carried q v) j / probability_total
