-- The rows of an accepted tree, as parts of the lent discounts and of the table of down-probabilities.
-- Assumes nothing.
use mathlib.Core.Path.{◌≡◌, refl, sym, ap, ap₂, ◌∙◌}
use mathlib.Core.Bool.{Bool}
use mathlib.Core.List.{List}
use Prim.Native.Nat.{ℕ, zero, suc, ◌+◌, ◌-◌, ◌*◌, ◌≤◌, ◌<◌, max}
use native.Mathlib.Omega.{arith}
use lib.ListN.{length, take, drop}
use Rattle.arithmetic.specs.Rounding.{one}
use Rattle.arithmetic.specs.Row.{values}
use Rattle.arithmetic.proofs.SumLaws.{greatest-cong}
use Rattle.arithmetic.proofs.RowLaws.{length-row, values-row}
use Rattle.arithmetic.proofs.PartLaws.{part-value, part_length}
use Rattle.tree.specs.Tree.{probability_total, outgoing}
use Rattle.lattice.specs.Shape.{node_count, row_start}
use Rattle.lattice.specs.Branching.{up_probability, middle_probability, down_probability, probabilities}
use Rattle.lattice.specs.RateTree.{node, low, rate_tree}
use Rattle.lattice.proofs.Sizes.{row_ends, count-positive}
use Rattle.lattice.proofs.RateTreeLaws.{low-within, index-laws}
use Rattle.lent_tree.specs.LentTree.{stored, Accepted}
use Rattle.row_branches.specs.RowBranches.{row_branch}
use Rattle.row_branches.proofs.BranchLaws.{backwards}
use Rattle.row_branches.proofs.TableParts as tables
use Rattle.pricing_laws.specs.Pricer.{Side, exercise, held_or_exercised}
use Rattle.pricing_laws.specs.TreePricer.{roll_rounding, node_roll, roll}
use Rattle.price_bound.proofs.BoundLaws.{discount-within}
use Rattle.price_causes.specs.inside.Flows.{AcceptedFlows}
use Rattle.price_laws.specs.Prices.{flow_at}
use Rattle.pricing.specs.inside.Rows.{branch_roll, rolled_row, bond_values, option_values, Rollable, FilledRow, FilledRows}
use Rattle.pricing.specs.inside.Trees.{down_table, rolled_at, bond_step, option_step}
use Rattle.pricing.specs.inside.Strips.{strike_values, strike_step}

pub table-size : (n b : ℕ) → length (down_table n b) ≡ node_count b n
unfolding down_table
table-size n b = length-row (node_count b n) (λ k. down_probability b (node b n k))

table-holds : (n b k : ℕ) → k < node_count b n → values (down_table n b) k ≡ down_probability b (node b n k)
unfolding down_table
table-holds n b k h = values-row (node_count b n) k (λ j. down_probability b (node b n j)) h

module _ (n b i : ℕ) (hi : i < n) (discounts : List ℕ) (a : Accepted n b discounts) where
  -- row i's part of the table
  abbrev pub table-part : List ℕ
  table-part = tables.table-part b n i (down_table n b)

  pub discounts-fit : row_start b i + node_count b i ≤ length discounts
  discounts-fit = omega (arith, row_ends b i n hi, a.room)

  -- row i's part of the discounts
  abbrev pub discount-part : List ℕ
  discount-part = take (node_count b i) (drop (row_start b i) discounts)

  pub discount-part-length : length discount-part ≡ node_count b i
  discount-part-length = part_length discounts _ _ discounts-fit

  discount-part-at : (k : ℕ) → k < node_count b i → values discount-part k ≡ stored b discounts i k
  unfolding stored
  discount-part-at k h = part-value discounts (row_start b i) (node_count b i) k h

  total-is : (k : ℕ) → k < node_count b i →
      up_probability b (node b i k) + middle_probability b (node b i k) + down_probability b (node b i k) ≡ probability_total
  total-is k h = (index-laws b i k h a.limits.reversion-within-limit).total

  branch-is : (k : ℕ) → k < node_count b i →
      row_branch table-part (node_count b (suc i)) k
      ≡ record { low = low b i k; probabilities = probabilities b (node b i k) }
  branch-is k h = tables.part-branch b n i (omega arith) (down_table n b) (table-size n b) (table-holds n b) a.limits.reversion-within-limit k h

  pub rollable : Rollable table-part discount-part (node_count b (suc i))
  rollable =
      record {
        some = omega (arith, discount-part-length, count-positive b i);
        paired = tables.table-part-length b n i (omega arith) (down_table n b) (table-size n b) ∙ sym discount-part-length;
        inside = λ k h.
            let h' : k < node_count b i = rw discount-part-length at h in
            rw (branch-is k h') (low-within b i k h');
        total = λ k h.
            let h' : k < node_count b i = rw discount-part-length at h in
            rw (branch-is k h') (omega (arith, total-is k h'));
        discounted = λ k h.
            let h' : k < node_count b i = rw discount-part-length at h in
            omega (arith, discount-part-at k h', discount-within n b i hi discounts a k h');
      }

  -- the row as the code rolls it is the tree's roll
  rolled-is :
      (later : List ℕ) (k : ℕ) → k < node_count b i →
      rolled_row later table-part discount-part (node_count b (suc i)) k ≡ rolled_at b discounts i later k
  unfolding rolled_row rolled_at branch_roll roll node_roll outgoing rate_tree
  rolled-is later k h =
      rw (branch-is k h, discount-part-at k h)
      (ap (λ (x : ℕ). roll_rounding (roll_rounding x probability_total * stored b discounts i k) one) (backwards _ _ _))

  -- a row of the bond, and of the option beside it, as the code gives them
  module _ (flow : ℕ) where
    abbrev code-bond : List ℕ → ℕ → ℕ
    code-bond later = bond_values later table-part discount-part (node_count b (suc i)) flow

    bond-value-is : (later : List ℕ) (k : ℕ) → k < node_count b i → code-bond later k ≡ bond_step b discounts flow i later k
    bond-value-is later k l = ap (λ (x : ℕ). x + flow) (rolled-is later k l)

    pub bond-row-is :
        (later after : List ℕ) (top : ℕ) → FilledRow after (length discount-part) (code-bond later) top →
        FilledRow after (node_count b i) (bond_step b discounts flow i later) top
    bond-row-is later after top s =
        record {
          held = λ k l. s.held k (rw discount-part-length l) ∙ bond-value-is later k l;
          found = s.found ∙ rw discount-part-length (greatest-cong (node_count b i) _ _ (bond-value-is later));
        }

    module _ (side : Side) (strike : ℕ) (listed : Bool) (bonds options : List ℕ) where
      abbrev code-option : ℕ → ℕ
      code-option = option_values side strike listed bonds options table-part discount-part (node_count b (suc i))

      option-value-is : (k : ℕ) → k < node_count b i → code-option k ≡ option_step side strike listed b discounts i bonds options k
      option-value-is k l =
          ap₂ (λ (x y : ℕ). held_or_exercised listed x (exercise side strike y)) (rolled-is options k l) (rolled-is bonds k l)

      pub option-row-is :
          (bond option : List ℕ) (top : ℕ) → FilledRows bond option (length discount-part) (code-bond bonds) code-option top →
          FilledRows bond option (node_count b i) (bond_step b discounts flow i bonds)
          (option_step side strike listed b discounts i bonds options) top
      option-row-is bond option top s =
          record {
            bond-held = λ k l. s.bond-held k (rw discount-part-length l) ∙ bond-value-is bonds k l;
            option-held = λ k l. s.option-held k (rw discount-part-length l) ∙ option-value-is k l;
            found =
                s.found
                ∙ rw discount-part-length (greatest-cong (node_count b i) _ _ (λ k l. ap₂ max (bond-value-is bonds k l) (option-value-is k l)));
          }

  -- a row of one option beside the kept rows of the bond, as the code gives it
  module _ (side : Side) (strike : ℕ) (listed : Bool) (kept options : List ℕ) where
    abbrev code-strike : ℕ → ℕ
    code-strike =
        strike_values side strike listed (take (node_count b i) (drop (row_start b i) kept)) options table-part discount-part (node_count b (suc i))

    strike-value-is : (k : ℕ) → k < node_count b i → code-strike k ≡ strike_step side strike listed b discounts i kept options k
    strike-value-is k l =
        ap₂ (λ (x y : ℕ). held_or_exercised listed x (exercise side strike y)) (rolled-is options k l)
        (part-value kept (row_start b i) (node_count b i) k l)

    pub strike-row-is :
        (after : List ℕ) (top : ℕ) → FilledRow after (length discount-part) code-strike top →
        FilledRow after (node_count b i) (strike_step side strike listed b discounts i kept options) top
    strike-row-is after top s =
        record {
          held = λ k l. s.held k (rw discount-part-length l) ∙ strike-value-is k l;
          found = s.found ∙ rw discount-part-length (greatest-cong (node_count b i) _ _ strike-value-is);
        }

-- the flow of a row
pub flow-none : (flows : List ℕ) (i : ℕ) → i ≡ 0 → flow_at flows i ≡ 0
unfolding flow_at
flow-none flows i e = rw e

pub flow-later : (flows : List ℕ) (i : ℕ) → (i ≡ 0 → ⊥) → flow_at flows i ≡ values flows (i - 1)
unfolding flow_at
flow-later flows zero n = absurd (n refl)
flow-later flows (suc t) n = let e : t ≡ suc t - 1 = omega arith in ap (values flows) e

pub flow-within : (n : ℕ) (flows : List ℕ) → AcceptedFlows n flows → (i : ℕ) → i ≤ n → flow_at flows i ≤ 2000000000
unfolding flow_at
flow-within n flows a zero h = omega arith
flow-within n flows a (suc t) h = a.flowing t h
