-- Flows after the causes were tested.
-- Assumes nothing.
use Rattle.std.specs.Prelude.{◌≡◌, ℕ, ◌≤◌, ◌<◌, List, length}
use Rattle.arithmetic.specs.Row.{values}
use Rattle.price_causes.specs.Causes.{most_flow}

-- flows after the causes were tested
pub record AcceptedFlows (n : ℕ) (flows : List ℕ) : Type 0 where
  pub count : length flows ≡ n
  pub flowing : (k : ℕ) → k < n → values flows k ≤ most_flow
