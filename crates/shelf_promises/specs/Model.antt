-- The shelf as a desk sees it (document 02, requests (vii) and (viii)): under each name a tree with its own discounts, or none. Nothing here says where
-- discounts stand. Index i stands for the name i + 1.
-- Assumes nothing.
use Rattle.std.specs.Prelude.{ℕ, zero, suc, ◌+◌, ◌-◌, Bool, true, false, cond, List, [], ◌∷◌, eqb, ltb, Float, length, replicate}
use Rattle.limits.specs.Limits.{most_steps, most_state_prices, shape_cause}
use Rattle.lattice.specs.Shape.{discounts_needed}
use Rattle.spacing.specs.Spacing.{spacing}
use Rattle.fitted_laws.specs.Entry.{fit_number, fit_discounts}
use Rattle.price_bound.specs.PriceBound.{tree_error_bound, greatest_discounts}
use Rattle.price_laws.specs.declared.Price.{Price}
use Rattle.price_laws.specs.Prices.{refused_price, value_alone, with_bound, bond_price, option_price, dated_price}
use Rattle.price_laws.specs.Exact.{exact_bond, exact_option, exact_dated}
use Rattle.shelf_laws.specs.Parts.{zeros}
use Rattle.shelf_laws.specs.Shelf.{room}

-- a tree on the shelf: whether it was fitted, its steps, its reversion, its discounts row after row, its error bound and its rows' greatest discounts
pub record ShelvedTree : Type 0 where
  pub fitted : Bool
  pub steps : ℕ
  pub reversion : ℕ
  pub discounts : List ℕ
  pub bound : ℕ
  pub greatest : List ℕ

pub data Seen : Type 0 where
  absent : Seen
  present : ShelvedTree → Seen

-- ---- the arguments of commits and prices

-- f steps a year, volatility, and the quotes as rows, kinds and figures
pub record Quoted : Type 0 where
  pub frequency : ℕ
  pub volatility : ℕ
  pub rows : List ℕ
  pub kinds : List ℕ
  pub figures : List Float

-- the fit's number in memories that are long enough, and its discounts
abbrev pub fit_number_of : Quoted → ℕ → ℕ → ℕ
fit_number_of q n b =
    fit_number q.frequency n b q.volatility q.rows q.kinds q.figures (discounts_needed n b) most_state_prices

abbrev pub fit_discounts_of : Quoted → ℕ → ℕ → List ℕ
fit_discounts_of q n b = fit_discounts q.frequency n b (spacing q.frequency q.volatility) q.kinds q.figures

-- a bond by its flows; an option on it by kind, expiry and strike; an option on it by side, listed rows and strike
pub data Pricing : Type 0 where
  bond : List ℕ → Pricing
  option : List ℕ → ℕ → ℕ → ℕ → Pricing
  dated : List ℕ → ℕ → List ℕ → ℕ → Pricing

abbrev pub flows_of : Pricing → List ℕ
flows_of (bond flows) = flows
flows_of (option flows kind expiry strike) = flows
flows_of (dated flows side dates strike) = flows

-- what the plain entries answer for n steps, reversion b and these discounts, and the exact price
abbrev pub plain_price : Pricing → ℕ → ℕ → List ℕ → Price
plain_price (bond flows) n b discounts = bond_price n b discounts flows
plain_price (option flows kind expiry strike) n b discounts = option_price n b discounts flows kind expiry strike
plain_price (dated flows side dates strike) n b discounts = dated_price n b discounts flows side dates strike

abbrev pub exact_of : Pricing → ℕ → ℕ → List ℕ → ℕ
exact_of (bond flows) n b discounts = exact_bond n b discounts flows
exact_of (option flows kind expiry strike) n b discounts = exact_option n b discounts flows kind expiry strike
exact_of (dated flows side dates strike) n b discounts = exact_dated n b discounts flows side dates strike

-- ---- calls of the entries that take a shelf

pub data Call : Type 0 where
  -- name, steps, reversion
  asking : ℕ → ℕ → ℕ → Call
  committing : ℕ → Quoted → Call
  releasing : ℕ → Call
  pricing : ℕ → Pricing → Call
  -- where a name's discounts stand
  locating : ℕ → Call

abbrev pub name_of : Call → ℕ
name_of (asking name n b) = name
name_of (committing name q) = name
name_of (releasing name) = name
name_of (pricing name p) = name
name_of (locating name) = name

-- ---- the desk

-- set aside: all 0
abbrev pub unfitted_tree : ℕ → ℕ → ShelvedTree
unfitted_tree n b =
    record {
      fitted = false;
      steps = n;
      reversion = b;
      discounts = zeros (discounts_needed n b);
      bound = 0;
      greatest = replicate most_steps 0;
    }

-- fitted: with what the rule gives for its discounts
abbrev pub fitted_tree : Quoted → ℕ → ℕ → ShelvedTree
fitted_tree q n b =
    record {
      fitted = true;
      steps = n;
      reversion = b;
      discounts = fit_discounts_of q n b;
      bound = tree_error_bound n b (fit_discounts_of q n b);
      greatest = greatest_discounts n b (fit_discounts_of q n b);
    }

abbrev pub nodes_seen : Seen → ℕ
nodes_seen absent = 0
nodes_seen (present t) = length t.discounts

-- 0 absent, 1 awaiting a commit, 2 fitted
abbrev pub status_seen : Seen → ℕ
status_seen absent = 0
status_seen (present t) = cond t.fitted 2 1

abbrev pub steps_seen : Seen → ℕ
steps_seen absent = 0
steps_seen (present t) = t.steps

abbrev pub reversion_seen : Seen → ℕ
reversion_seen absent = 0
reversion_seen (present t) = t.reversion

abbrev pub discounts_seen : Seen → List ℕ
discounts_seen absent = []
discounts_seen (present t) = t.discounts

abbrev pub bound_seen : Seen → ℕ
bound_seen absent = 0
bound_seen (present t) = t.bound

-- the nodes held by the first names
unfoldable pub held_by : (ℕ → Seen) → ℕ → ℕ
held_by desk zero = 0
held_by desk (suc i) = held_by desk i + nodes_seen (desk i)

-- a name's status; 3 where there is no such name
unfoldable pub desk_status : (ℕ → Seen) → ℕ → ℕ
desk_status desk name = cond (eqb name 0) 3 (cond (ltb 8 name) 3 (status_seen (desk (name - 1))))

-- 15 where a name has no tree; else 0
unfoldable pub desk_cause : (ℕ → Seen) → ℕ → ℕ
desk_cause desk name = cond (eqb (desk_status desk name) 1) 0 (cond (eqb (desk_status desk name) 2) 0 15)

-- number and value of the plain entry's answer, with the error bound that the tree carries
unfoldable pub desk_price : (ℕ → Seen) → ℕ → Pricing → Price
desk_price desk name p =
    cond (eqb (desk_cause desk name) 0)
    (with_bound (value_alone (plain_price p (steps_seen (desk (name - 1))) (reversion_seen (desk (name - 1))) (discounts_seen (desk (name - 1)))))
    (bound_seen (desk (name - 1))))
    (refused_price 15)

-- the number of a call: 0 where it is accepted
unfoldable pub desk_number : (ℕ → Seen) → Call → ℕ
desk_number desk (asking name n b) =
    cond (eqb (desk_status desk name) 0)
    (cond (eqb (shape_cause n b) 0) (cond (ltb room (discounts_needed n b + held_by desk 8)) 14 0) (shape_cause n b))
    15
desk_number desk (committing name q) =
    cond (eqb (desk_status desk name) 1) (fit_number_of q (steps_seen (desk (name - 1))) (reversion_seen (desk (name - 1)))) 15
desk_number desk (releasing name) = desk_cause desk name
desk_number desk (pricing name p) = (desk_price desk name p).number
desk_number desk (locating name) = 0

-- one name changes
unfoldable pub put : (ℕ → Seen) → ℕ → Seen → ℕ → Seen
put desk i x j = cond (eqb j i) x (desk j)

-- the desk after an accepted call
unfoldable pub desk_taken : (ℕ → Seen) → Call → ℕ → Seen
desk_taken desk (asking name n b) = put desk (name - 1) (present (unfitted_tree n b))
desk_taken desk (committing name q) =
    put desk (name - 1) (present (fitted_tree q (steps_seen (desk (name - 1))) (reversion_seen (desk (name - 1)))))
desk_taken desk (releasing name) = put desk (name - 1) absent
desk_taken desk (pricing name p) = desk
desk_taken desk (locating name) = desk

-- a refused call leaves the desk as it was
unfoldable pub desk_after : (ℕ → Seen) → Call → ℕ → Seen
desk_after desk call = cond (eqb (desk_number desk call) 0) (desk_taken desk call) desk

unfoldable pub desk_run : (ℕ → Seen) → List Call → ℕ → Seen
desk_run desk [] = desk
desk_run desk (call ∷ calls) = desk_run (desk_after desk call) calls
