-- Prices that are not refused stand within their error bound of the exact price, whoever lent the discounts.
-- Assumes nothing.
use mathlib.Core.Path.{◌≡◌, refl}
use mathlib.Core.Bool.{Bool, true, false, cond}
use mathlib.Core.List.{List}
use Prim.Native.Nat.{ℕ, ◌+◌, ◌*◌, ◌^◌, ◌≤◌, ◌<◌}
use native.Mathlib.Omega.{arith}
use lib.Dec.{eqb}
use borrow.Author.Tests.{eqb-true, eqb-false}
use Rattle.arithmetic.proofs.CauseLaws.{first-none, lowest-none}
use Rattle.arithmetic.specs.Rounding.{one}
use Rattle.arithmetic.specs.Row.{values}
use Rattle.tree.specs.Tree.{unit}
use Rattle.lattice.specs.Shape.{row_start, discounts_needed}
use Rattle.lattice.specs.RateTree.{rate_tree}
use Rattle.lattice.proofs.Sizes.{row_ends}
use Rattle.lattice.proofs.RateTreeLaws.{rate-tree-sound}
use Rattle.limits.specs.Limits.{limit_cause}
use Rattle.lent_tree.specs.LentTree.{stored, Accepted, discounts_cause}
use Rattle.lent_tree.proofs.LentLaws.{accepted}
use Rattle.pricing_laws.specs.Pricer.{Side, Schedule, option}
use Rattle.pricing_laws.specs.Schedule.{side_of, schedule_of, numbered_side, dated_schedule, dates_cause}
use Rattle.pricing_laws.specs.TreePricer.{exact}
use Rattle.pricing_laws.proofs.Dates.{dates-accepted, schedule-last}
use Rattle.price_bound.specs.PriceBound.{tree_error_bound}
use Rattle.price_bound.proofs.BoundLaws.{discount-within}
use Rattle.price_causes.specs.Causes.{flows_cause, option_cause, terms_cause}
use Rattle.price_causes.specs.inside.Flows.{AcceptedFlows}
use Rattle.price_causes.proofs.CheckLaws.{flows-accepted, option-accepted}
use Rattle.arithmetic.specs.Within.{Within}
use Rattle.pricing_laws.proofs.PriceLaws.{Discounts-at-most, bond-accurate, option-accurate, error-bound-a-step}
use Rattle.price_laws.specs.declared.Price.{Price}
use Rattle.arithmetic.specs.Answers.{first_cause}
use Rattle.price_laws.specs.Prices.{flow_at, bond_value, bond_peak, option_value, option_limit, tree_cause, priced}
use Rattle.price_laws.specs.Prices.{scheduled_price, bond_price, option_price, bond_and_option, dated_cause, dated_price, bond_and_dated_option}
use Rattle.price_laws.specs.Exact.{exact_bond, exact_option, exact_dated}

-- an answer with number 0 has the price, and no cause
pub record Given (cause v e : ℕ) (answer : Price) : Type 0 where
  pub none : cause ≡ 0
  pub value : answer.value ≡ v
  pub bound : answer.bound ≡ e

given : (cause v e : ℕ) → (priced cause v e).number ≡ 0 → Given cause v e (priced cause v e)
unfolding priced
given cause v e h = go (eqb cause 0) refl h
  where
    go : (t : Bool) → eqb cause 0 ≡ t →
        (cond {A = Price} t (record { number = 0; value = v; bound = e }) (record { number = cause; value = 0; bound = 0 })).number ≡ 0 →
        Given cause v e (cond {A = Price} t (record { number = 0; value = v; bound = e }) (record { number = cause; value = 0; bound = 0 }))
    go true q z = record { none = eqb-true cause 0 q; value = refl; bound = refl }
    go false q z = absurd (eqb-false cause 0 q z)

-- no cause about the tree and its flows: both are accepted
pub tree_lent : (n b : ℕ) (discounts flows : List ℕ) → tree_cause n b discounts flows ≡ 0 → Accepted n b discounts
unfolding tree_cause
tree_lent n b discounts flows z = accepted n b discounts (lowest-none (discounts_cause n b discounts) (flows_cause n flows) z).0

pub tree-paid : (n b : ℕ) (discounts flows : List ℕ) → tree_cause n b discounts flows ≡ 0 → AcceptedFlows n flows
unfolding tree_cause
tree-paid n b discounts flows z = flows-accepted n flows (lowest-none (discounts_cause n b discounts) (flows_cause n flows) z).1

low-discounts : (n b : ℕ) (discounts : List ℕ) → ((k : ℕ) → k < discounts_needed n b → values discounts k ≤ one) →
    Discounts-at-most one (rate_tree b) (stored b discounts) n
unfolding rate_tree stored discounts_needed
low-discounts n b discounts low i k hi hk = low (row_start b i + k) (omega (arith, row_ends b i n hi))

module _ (n b : ℕ) (discounts flows : List ℕ) where
  within-limit : Accepted n b discounts → Discounts-at-most 1100000000 (rate_tree b) (stored b discounts) n
  unfolding rate_tree
  within-limit a i k hi hk = discount-within n b i hi discounts a k hk

  module _ (h : (bond_price n b discounts flows).number ≡ 0) where
    pub bond-given : Given (first_cause (tree_cause n b discounts flows) (limit_cause (bond_peak n b discounts flows))) (bond_value n b discounts flows 0 0)
        (tree_error_bound n b discounts) (bond_price n b discounts flows)
    unfolding bond_price
    bond-given = given _ _ _ h

    bond-tree : Accepted n b discounts
    bond-tree = tree_lent n b discounts flows (first-none _ _ bond-given.none).0

    -- a bond's price is within its error bound of the exact price
    pub bond-within-bound : Within (bond_price n b discounts flows).bound (unit ^ n) (bond_price n b discounts flows).value (exact_bond n b discounts flows)
    unfolding bond_value tree_error_bound exact_bond
    bond-within-bound =
        rw (bond-given.value, bond-given.bound)
        (bond-accurate (rate_tree b) (rate-tree-sound b bond-tree.limits.reversion-within-limit) (stored b discounts) n
        (within-limit bond-tree) (flow_at flows))

    -- where no discount is above one, the bound is at most 2 a step
    pub bond-bound-a-step : ((k : ℕ) → k < discounts_needed n b → values discounts k ≤ one) → (bond_price n b discounts flows).bound ≤ 2 * n
    unfolding tree_error_bound
    bond-bound-a-step low = rw bond-given.bound (error-bound-a-step (rate_tree b) (stored b discounts) n (low-discounts n b discounts low))

  -- an option on any schedule that ends in the tree wherever the option itself has no cause
  module _ (side : Side) (strike : ℕ) (rows : Schedule) (cause : ℕ) (ends : cause ≡ 0 → rows.last ≤ n)
      (h : (scheduled_price n b discounts flows side strike rows cause).number ≡ 0) where
    scheduled-given :
        Given (first_cause (tree_cause n b discounts flows) (first_cause cause (option_limit n b discounts flows side strike rows)))
        (option_value n b discounts flows side strike rows 0 0) (tree_error_bound n b discounts) (scheduled_price n b discounts flows side strike rows cause)
    scheduled-given = given _ _ _ h

    causes : (tree_cause n b discounts flows ≡ 0) × (first_cause cause (option_limit n b discounts flows side strike rows) ≡ 0)
    causes = first-none _ _ scheduled-given.none

    option-tree : Accepted n b discounts
    option-tree = tree_lent n b discounts flows causes.0

    scheduled-within :
        Within (scheduled_price n b discounts flows side strike rows cause).bound (unit ^ n) (scheduled_price n b discounts flows side strike rows cause).value
        (option (exact (rate_tree b) (stored b discounts)) (flow_at flows) n side strike rows 0 0)
    unfolding option_value tree_error_bound
    scheduled-within =
        rw (scheduled-given.value, scheduled-given.bound)
        (option-accurate (rate_tree b) (rate-tree-sound b option-tree.limits.reversion-within-limit) (stored b discounts) n
        (within-limit option-tree) (flow_at flows) side strike rows (ends (first-none _ _ causes.1).0))

    scheduled-a-step :
        ((k : ℕ) → k < discounts_needed n b → values discounts k ≤ one) → (scheduled_price n b discounts flows side strike rows cause).bound ≤ 2 * n
    unfolding tree_error_bound
    scheduled-a-step low = rw scheduled-given.bound (error-bound-a-step (rate_tree b) (stored b discounts) n (low-discounts n b discounts low))

  -- each of the four kinds
  module _ (kind expiry strike : ℕ) (h : (option_price n b discounts flows kind expiry strike).number ≡ 0) where
    kind-ends : option_cause n kind expiry strike ≡ 0 → (schedule_of kind expiry).last ≤ n
    kind-ends z = omega (arith, schedule-last kind expiry, (option-accepted n kind expiry strike z).0)

    pub option-given :
        Given
        (first_cause (tree_cause n b discounts flows)
        (first_cause (option_cause n kind expiry strike) (option_limit n b discounts flows (side_of kind) strike (schedule_of kind expiry))))
        (option_value n b discounts flows (side_of kind) strike (schedule_of kind expiry) 0 0) (tree_error_bound n b discounts)
        (option_price n b discounts flows kind expiry strike)
    unfolding option_price
    option-given = scheduled-given (side_of kind) strike (schedule_of kind expiry) (option_cause n kind expiry strike) kind-ends h

    pub option-within-bound :
        Within (option_price n b discounts flows kind expiry strike).bound (unit ^ n) (option_price n b discounts flows kind expiry strike).value
        (exact_option n b discounts flows kind expiry strike)
    unfolding option_price exact_option
    option-within-bound = scheduled-within (side_of kind) strike (schedule_of kind expiry) (option_cause n kind expiry strike) kind-ends h

    pub option-bound-a-step :
        ((k : ℕ) → k < discounts_needed n b → values discounts k ≤ one) → (option_price n b discounts flows kind expiry strike).bound ≤ 2 * n
    unfolding option_price
    option-bound-a-step = scheduled-a-step (side_of kind) strike (schedule_of kind expiry) (option_cause n kind expiry strike) kind-ends h

  -- an option on listed rows
  module _ (side : ℕ) (dates : List ℕ) (strike : ℕ) (h : (dated_price n b discounts flows side dates strike).number ≡ 0) where
    list-ends : dated_cause n side dates strike ≡ 0 → (dated_schedule dates).last ≤ n
    unfolding dated_cause dated_schedule
    list-ends z = omega (arith, (dates-accepted n dates (lowest-none (terms_cause side strike) (dates_cause n dates) z).1).before-end)

    pub dated-given :
        Given
        (first_cause (tree_cause n b discounts flows)
        (first_cause (dated_cause n side dates strike) (option_limit n b discounts flows (numbered_side side) strike (dated_schedule dates))))
        (option_value n b discounts flows (numbered_side side) strike (dated_schedule dates) 0 0) (tree_error_bound n b discounts)
        (dated_price n b discounts flows side dates strike)
    unfolding dated_price
    dated-given = scheduled-given (numbered_side side) strike (dated_schedule dates) (dated_cause n side dates strike) list-ends h

    pub dated-within-bound :
        Within (dated_price n b discounts flows side dates strike).bound (unit ^ n) (dated_price n b discounts flows side dates strike).value
        (exact_dated n b discounts flows side dates strike)
    unfolding dated_price exact_dated
    dated-within-bound = scheduled-within (numbered_side side) strike (dated_schedule dates) (dated_cause n side dates strike) list-ends h

    pub dated-bound-a-step :
        ((k : ℕ) → k < discounts_needed n b → values discounts k ≤ one) → (dated_price n b discounts flows side dates strike).bound ≤ 2 * n
    unfolding dated_price
    dated-bound-a-step = scheduled-a-step (numbered_side side) strike (dated_schedule dates) (dated_cause n side dates strike) list-ends h

  -- bond and option at once, each of its own
  pub both-within-bound : (kind expiry strike : ℕ) →
      let both = bond_and_option n b discounts flows kind expiry strike in
      both.bond.number ≡ 0 → both.option.number ≡ 0 →
      Within both.bond.bound (unit ^ n) both.bond.value (exact_bond n b discounts flows)
      × Within both.option.bound (unit ^ n) both.option.value (exact_option n b discounts flows kind expiry strike)
  both-within-bound kind expiry strike zb zo = (bond-within-bound zb, option-within-bound kind expiry strike zo)

  pub both-dated-within-bound : (side : ℕ) (dates : List ℕ) (strike : ℕ) →
      let both = bond_and_dated_option n b discounts flows side dates strike in
      both.bond.number ≡ 0 → both.option.number ≡ 0 →
      Within both.bond.bound (unit ^ n) both.bond.value (exact_bond n b discounts flows)
      × Within both.option.bound (unit ^ n) both.option.value (exact_dated n b discounts flows side dates strike)
  both-dated-within-bound side dates strike zb zo = (bond-within-bound zb, dated-within-bound side dates strike zo)
