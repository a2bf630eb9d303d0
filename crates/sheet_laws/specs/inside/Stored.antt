-- What the functions within ask of their callers.
-- Assumes nothing.
use Rattle.std.specs.Prelude.{ℕ, suc, ◌*◌, ◌≤◌, ◌<◌, true, List, ◌≡◌, length, take}
use Rattle.lent_tree.specs.LentTree.{stored_row}
use Rattle.limits.specs.WithinLimits.{WithinLimits}
use Rattle.text_laws.specs.Lines.{longest_line}
use Rattle.arithmetic.specs.Row.{sum_of}
use Rattle.limits.specs.Limits.{most_discounts, most_state_prices, sum_limit}
use Rattle.lattice.specs.Shape.{discounts_needed, state_prices_needed}
use Rattle.job_record.specs.declared.Job.{Job}
use Rattle.job_laws.specs.RecordFit.{job_reversion, job_discounts, job_state_prices, record_fit}
use Rattle.node_lines.specs.Rows.{accepted_nodes}

-- a tree within its limits, and a memory of just its node discounts, each accepted
pub record Lent (n b : ℕ) (discounts : List ℕ) : Type 0 where
  pub limits : WithinLimits n b
  pub size : length discounts ≡ discounts_needed n b
  pub accepted : accepted_nodes discounts ≡ true

-- all nodes stand before a place of the discounts, and their lines have room before the end
pub record Drawing (n b : ℕ) (discounts : List ℕ) (next end size : ℕ) : Type 0 where
  pub lent : Lent n b discounts
  pub place : next ≡ discounts_needed n b
  pub room : longest_line * discounts_needed n b ≤ end
  pub inside : end ≤ size

-- the same tree with a memory of just its state prices
pub record Stored (n b : ℕ) (discounts prices : List ℕ) : Type 0 where
  pub lent : Lent n b discounts
  pub prices-size : length prices ≡ state_prices_needed n b

-- each row's state prices have a sum that a fit gives
abbrev pub Summed : ℕ → ℕ → List ℕ → Type 0
Summed n b prices = (i : ℕ) → i < n → sum_of (stored_row b prices (suc i)) ≤ sum_limit

-- a record whose fit is accepted, and memories of the largest tree with the fit at their start
pub record Fitted (job : Job) (discounts prices : List ℕ) : Type 0 where
  pub accepted : record_fit job most_discounts most_state_prices ≡ 0
  pub discounts-room : length discounts ≡ most_discounts
  pub prices-room : length prices ≡ most_state_prices
  pub discounts-front : take (discounts_needed job.steps (job_reversion job)) discounts ≡ job_discounts job
  pub prices-front : take (state_prices_needed job.steps (job_reversion job)) prices ≡ job_state_prices job
