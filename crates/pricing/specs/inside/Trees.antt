-- What the code holds of a tree that was accepted.
-- Assumes nothing.
use Rattle.std.specs.Prelude.{◌≡◌, Bool, List, ℕ, ◌+◌, ◌≤◌, ◌<◌, eqb, length}
use Rattle.arithmetic.specs.Row.{row, values}
use Rattle.arithmetic.specs.declared.Answer.{Answer}
use Rattle.limits.specs.Limits.{limit_cause}
use Rattle.lattice.specs.Shape.{node_count}
use Rattle.lattice.specs.Branching.{down_probability}
use Rattle.lattice.specs.RateTree.{node, rate_tree}
use Rattle.pricing_laws.specs.Pricer.{Side, Schedule, exercise, held_or_exercised}
use Rattle.pricing_laws.specs.Schedule.{last_date}
use Rattle.pricing_laws.specs.Peak.{peak, greatest_value}
use Rattle.pricing_laws.specs.TreePricer.{roll_rounding, roll}
use Rattle.exercise.specs.declared.Terms.{Terms}
use Rattle.lent_tree.specs.LentTree.{stored, Accepted}
use Rattle.price_bound.specs.PriceBound.{tree_error_bound}
use Rattle.price_causes.specs.Causes.{most_flow, most_strike}
use Rattle.price_causes.specs.inside.Flows.{AcceptedFlows}
use Rattle.pricing.specs.declared.walk.OptionStep.{OptionStep}
use Rattle.pricing.specs.declared.walk.Rolled.{Rolled}
use Rattle.price_laws.specs.Prices.{flow_at, tree_cause, bond_value, option_value, option_limit}
use Rattle.pricing.specs.inside.Rows.{Holds}

-- the down-probabilities of all nodes of row n
unfoldable pub down_table : ℕ → ℕ → List ℕ
down_table n b = row (node_count b n) (λ k. down_probability b (node b n k))

-- the first cause about a tree and its flows, and the error bound where there is none
pub record TreeBounded (n b : ℕ) (discounts flows : List ℕ) (found : Answer) : Type 0 where
  pub cause-is : found.number ≡ tree_cause n b discounts flows
  pub bound-is : tree_cause n b discounts flows ≡ 0 → found.value ≡ tree_error_bound n b discounts

-- an accepted tree with its flows and its table of down-probabilities
pub record Ready (n b : ℕ) (downs discounts flows : List ℕ) : Type 0 where
  pub tree : Accepted n b discounts
  pub paid : AcceptedFlows n flows
  pub table : downs ≡ down_table n b

-- row i with its flow and an option's right on it
abbrev pub option_step_at : ℕ → ℕ → List ℕ → Terms → List ℕ → ℕ → OptionStep
option_step_at n b flows terms marks i =
    record {
      steps = n;
      reversion = b;
      row = i;
      flow = flow_at flows i;
      call = terms.call;
      strike = terms.strike;
      listed = eqb (values marks i) 1;
    }

-- row i of an accepted tree, which may be rolled into
pub record Steppable (n b i flow : ℕ) (downs discounts : List ℕ) : Type 0 where
  pub tree : Accepted n b discounts
  pub table : downs ≡ down_table n b
  pub inside : i < n
  pub flow-most : flow ≤ most_flow

-- an option that a tree of n steps may have, with a mark for each row before its last
pub record Exercisable (terms : Terms) (n : ℕ) (marks : List ℕ) : Type 0 where
  pub last-inside : terms.last ≤ n
  pub marked-rows : terms.last ≤ length marks
  pub strike-most : terms.strike ≤ most_strike

-- an option on listed rows that a tree of n steps may have
pub record ExercisedOn (terms : Terms) (n : ℕ) (dates : List ℕ) : Type 0 where
  pub last-listed : terms.last ≡ last_date dates
  pub before-end : last_date dates < n
  pub strike-within : terms.strike ≤ most_strike

-- a row rolled back from the values of the next one
unfoldable pub rolled_at : ℕ → List ℕ → ℕ → List ℕ → ℕ → ℕ
rolled_at b discounts i later = roll (rate_tree b) (stored b discounts) roll_rounding i (values later)

-- row i of the bond and of the option, from the later rows
abbrev pub bond_step : ℕ → List ℕ → ℕ → ℕ → List ℕ → ℕ → ℕ
bond_step b discounts flow i later k = rolled_at b discounts i later k + flow

abbrev pub option_step : Side → ℕ → Bool → ℕ → List ℕ → ℕ → List ℕ → List ℕ → ℕ → ℕ
option_step side strike listed b discounts i bonds options k =
    held_or_exercised listed (rolled_at b discounts i options k) (exercise side strike (rolled_at b discounts i bonds k))

-- the bond rolled back to row i: 12 where a value on the way is above the limit, else the row
pub record BondRolled (n b : ℕ) (discounts flows : List ℕ) (i : ℕ) (number : ℕ) (row : List ℕ) : Type 0 where
  pub cause : number ≡ limit_cause (peak (greatest_value (rate_tree b) (bond_value n b discounts flows)) n i)
  pub held : number ≡ 0 → Holds row (node_count b i) (bond_value n b discounts flows i)

-- bond and option rolled back to row 0: 12 where a value of either on the way is above the limit, else their values there
pub record BothRolled (n b : ℕ) (discounts flows : List ℕ) (side : Side) (strike : ℕ) (rows : Schedule) (rolled : Rolled) : Type 0 where
  pub cause : rolled.number ≡ option_limit n b discounts flows side strike rows
  pub bond-held : rolled.number ≡ 0 → rolled.bond ≡ bond_value n b discounts flows 0 0
  pub option-held : rolled.number ≡ 0 → rolled.option ≡ option_value n b discounts flows side strike rows 0 0
