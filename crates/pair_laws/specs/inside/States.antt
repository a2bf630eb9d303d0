-- Two accepted trees with their flows, what the loops hold of bond and option at row i in squares of memory, and what a walk down to a row leaves.
-- Assumes nothing.
use Rattle.std.specs.Prelude.{ℕ, ◌+◌, ◌-◌, ◌<◌, max, ◌≡◌, Bool, List}
use Rattle.limits.specs.Limits.{value_limit}
use Rattle.lattice.specs.RateTree.{rate_tree}
use Rattle.price_causes.specs.inside.Flows.{AcceptedFlows}
use Rattle.pricing_laws.specs.Pricer.{Side, Schedule, exercise, held_or_exercised}
use Rattle.pricing_laws.proofs.Backward.{Bond-state, Option-state}
use Rattle.price_laws.specs.Prices.{flow_at}
use Rattle.pricing.specs.inside.Trees.{down_table}
use Rattle.pair_laws.specs.Pair.{Pair, Stands}
use Rattle.pair_laws.specs.PairCauses.{AcceptedTrees}
use Rattle.pair_laws.specs.PairPrices.{greatest_pair, pair_bond_peak, pair_option_peak}
use Rattle.pair_laws.specs.inside.Accepted.{roll_of}
use Rattle.pair_laws.specs.inside.Square.{square}

-- both trees after the causes were tested with their flows; their tables of down-probabilities
pub record AcceptedPair (n b c : ℕ) (rates spreads flows : List ℕ) : Type 0 where
  pub trees : AcceptedTrees n b c rates spreads
  pub paid : AcceptedFlows n flows

pub record Tables (n b c : ℕ) (rate_downs spread_downs : List ℕ) : Type 0 where
  pub rate-table : rate_downs ≡ down_table n b
  pub spread-table : spread_downs ≡ down_table n c

module _ (n b c : ℕ) (rates spreads flows : List ℕ) where
  abbrev pub Bonds : ℕ → List ℕ → Type 0
  Bonds i memory =
      Bond-state n (Stands (rate_tree b) (rate_tree c)) (greatest_pair b c) (roll_of b c rates spreads) (flow_at flows) i (square memory)

  -- the bond at row i, or 12 where a value on the way was above its limit
  pub record RolledBond (i number : ℕ) (memory : List ℕ) : Type 0 where
    pub held : number ≡ 0 → Bonds i memory
    pub over : (number ≡ 0 → ⊥) → (number ≡ 12) × (value_limit < pair_bond_peak n b c rates spreads flows)

  module _ (side : Side) (strike : ℕ) (rows : Schedule) where
    abbrev pub Options : ℕ → List ℕ → Type 0
    Options i memory =
        Option-state n (Stands (rate_tree b) (rate_tree c)) (greatest_pair b c) (roll_of b c rates spreads) (flow_at flows) side strike rows i (square memory)

    -- bond and option at row i, or 12
    pub record RolledBoth (i number : ℕ) (bonds options : List ℕ) : Type 0 where
      pub bonds-held : number ≡ 0 → Bonds i bonds
      pub options-held : number ≡ 0 → Options i options
      pub over :
          (number ≡ 0 → ⊥) →
          (number ≡ 12) × (value_limit < max (pair_bond_peak n b c rates spreads flows) (pair_option_peak n b c rates spreads flows side strike rows))

-- a row of the bond in place of the later one, and its greatest value
pub record BondRow (b c : ℕ) (rates spreads : List ℕ) (i flow : ℕ) (later row : List ℕ) (top : ℕ) : Type 0 where
  pub rolled : (k : Pair) → Stands (rate_tree b) (rate_tree c) i k → square row k ≡ roll_of b c rates spreads i (square later) k + flow
  pub found : top ≡ greatest_pair b c i (square row)

-- a row of the option beside the bond's, and its greatest value
pub record OptionRow (b c : ℕ) (rates spreads : List ℕ) (i flow : ℕ) (side : Side) (strike : ℕ) (listed : Bool) (bond later row : List ℕ) (top : ℕ)
    : Type 0 where
  pub rolled : (k : Pair) → Stands (rate_tree b) (rate_tree c) i k →
      square row k ≡ held_or_exercised listed (roll_of b c rates spreads i (square later) k) (exercise side strike (square bond k - flow))
  pub found : top ≡ greatest_pair b c i (square row)
