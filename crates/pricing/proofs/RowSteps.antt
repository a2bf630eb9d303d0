-- One row as the code rolls it: where branches lead, and the state of the loop over the row's nodes.
-- Assumes nothing.
use mathlib.Core.Path.{◌≡◌, refl, sym, ap, ap₂, ◌∙◌}
use mathlib.Core.Bool.{Bool}
use mathlib.Core.List.{List}
use Prim.Native.Nat.{ℕ, ◌+◌, ◌≤◌, ◌<◌, max}
use native.Mathlib.Nat.{not-suc-le-zero}
use native.Mathlib.Omega.{arith}
use lib.ListN.{length, set}
use Rattle.arithmetic.specs.Row.{values}
use Rattle.arithmetic.specs.Sum.{greatest}
use Rattle.arithmetic.proofs.SumLaws.{greatest-none, greatest-next}
use Rattle.arithmetic.proofs.RowLaws.{Filled, filled_next}
use Rattle.arithmetic.proofs.Implied.{Implied, lastly, ◌▸◌}
use Rattle.tree.specs.Tree.{probability_total}
use Rattle.limits.specs.Limits.{most_discount}
use Rattle.pricing_laws.specs.Pricer.{Side, exercise, held_or_exercised}
use Rattle.row_branches.specs.declared.RowBranch.{RowBranch}
use Rattle.row_branches.specs.RowBranches.{opposite, row_branch}
use Rattle.row_branches.specs.inside.Transitions.{branch_total}
use Rattle.row_branches.proofs.BranchLaws.{branch-filled}
use Rattle.pricing.specs.declared.rows.Span.{Span}
use Rattle.pricing.specs.inside.Rows.{branch_roll, rolled_row, option_values, span_branch, Rollable, Leads, Limited, Later, FilledRow, FilledRows}

-- a node of a span: what its branch asks, and that it is the row's
module _ (downs discounts : List ℕ) (span : Span) (k : ℕ) (r : Rollable downs discounts span.next) (l : Leads downs span (length discounts))
    (from : span.from ≤ k) (to : k < span.to) where
  within : k < length discounts
  within = omega (arith, l.ends)

  pub span-inside : k < length downs
  span-inside = omega (arith, within, r.paired)

  pub span-shifted : span.shift ≤ k
  span-shifted = omega (arith, l.shifted)

  pub span-whole : values downs k + opposite downs k ≤ probability_total
  span-whole = (branch-filled downs span.next k (r.total k within)).0

  -- what `span_branch` asks
  pub span-asks : (k < length downs) × (span.shift ≤ k) × (values downs k + opposite downs k ≤ probability_total)
  span-asks = (span-inside, span-shifted, span-whole)

  pub span-is : (b : RowBranch) → b ≡ span_branch downs span.shift k → b ≡ row_branch downs span.next k
  span-is b e =
      e ∙ ap (λ (x : ℕ). record { low = x; probabilities = (span_branch downs span.shift k).probabilities }) (sym (l.leads k from to))
      ∙ (branch-filled downs span.next k (r.total k within)).1

-- what the roll of a node asks of its branch
module _ {downs discounts later : List ℕ} {next k : ℕ} (r : Rollable downs discounts next) (l : Later later next) (hk : k < length discounts)
    (b : RowBranch) (e : b ≡ row_branch downs next k) where
  low-is : b.low ≡ (row_branch downs next k).low
  low-is = ap (λ (x : RowBranch). x.low) e

  pub branch-inside : b.low + 2 < length later
  branch-inside = omega (arith, low-is, r.inside k hk, l.room)

  pub branch-whole : branch_total b ≡ probability_total
  branch-whole = rw e (r.total k hk)

  pub branch-limited : Limited later (b.low + 3)
  branch-limited j h = l.limited j (omega (arith, low-is, r.inside k hk))

  -- what `roll_node` asks
  pub branch-asks : (b.low + 2 < length later) × (branch_total b ≡ probability_total) × Limited later (b.low + 3) × (values discounts k ≤ most_discount)
  branch-asks = (branch-inside, branch-whole, branch-limited, r.discounted k hk)

  pub branch-rolled : (x : ℕ) → x ≡ branch_roll b (values later) (values discounts k) → x ≡ rolled_row later downs discounts next k
  unfolding rolled_row
  branch-rolled x h = h ∙ ap (λ (y : RowBranch). branch_roll y (values later) (values discounts k)) e

-- The loop over a row: k nodes done, and the greatest of them.
pub record Row-state (row₀ row : List ℕ) (f : ℕ → ℕ) (top k : ℕ) : Type 0 where
  pub filled : Filled row₀ row f k
  pub found : top ≡ greatest k f

pub row-none : (row : List ℕ) (f : ℕ → ℕ) → FilledRow row 0 f 0
row-none row f = record { held = λ k h. absurd (not-suc-le-zero h); found = sym (greatest-none f) }

-- behind nodes that are done
pub row-resume : (row : List ℕ) (f : ℕ → ℕ) (top k : ℕ) → FilledRow row k f top → Row-state row row f top k
row-resume row f top k s = record { filled = record { same = refl; done = s.held; rest = λ j h. refl }; found = s.found }

pub row_next :
    (row₀ row : List ℕ) (f : ℕ → ℕ) (top k x top' : ℕ) → Row-state row₀ row f top k → k < length row → x ≡ f k → top' ≡ max top x →
    Row-state row₀ (set row k x) f top' (k + 1)
row_next row₀ row f top k x top' s h e t =
    record {
      filled = filled_next s.filled h e;
      found = omega (arith, t, e, s.found, greatest-next k f);
    }

pub row_done :
    {row₀ row : List ℕ} {f : ℕ → ℕ} {top k n : ℕ} → Row-state row₀ row f top k → k ≡ n → FilledRow row n f top
row_done {f} s e =
    record { held = λ j h. s.filled.done j (omega arith); found = s.found ∙ ap (λ (m : ℕ). greatest m f) e }

-- The loop over both rows.
pub record Rows-state (bond₀ bond option₀ option : List ℕ) (f g : ℕ → ℕ) (top k : ℕ) : Type 0 where
  pub bond-filled : Filled bond₀ bond f k
  pub option-filled : Filled option₀ option g k
  pub found : top ≡ greatest k (λ j. max (f j) (g j))

pub rows_none : (bond option : List ℕ) (f g : ℕ → ℕ) → FilledRows bond option 0 f g 0
rows_none bond option f g =
    record {
      bond-held = λ k h. absurd (not-suc-le-zero h);
      option-held = λ k h. absurd (not-suc-le-zero h);
      found = sym (greatest-none (λ j. max (f j) (g j)));
    }

-- behind nodes that are done
pub rows-resume : {bond option : List ℕ} {f g : ℕ → ℕ} {top k : ℕ} →
    FilledRows bond option k f g top → Rows-state bond bond option option f g top k
rows-resume s =
    record {
      bond-filled = record { same = refl; done = s.bond-held; rest = λ j h. refl };
      option-filled = record { same = refl; done = s.option-held; rest = λ j h. refl };
      found = s.found;
    }

pub rows_next :
    (bond₀ bond option₀ option : List ℕ) (f g : ℕ → ℕ) (top k x y z top' : ℕ) → Rows-state bond₀ bond option₀ option f g top k →
    k < length bond → k < length option → x ≡ f k → y ≡ g k → z ≡ max x y → top' ≡ max top z →
    Rows-state bond₀ (set bond k x) option₀ (set option k y) f g top' (k + 1)
rows_next bond₀ bond option₀ option f g top k x y z top' s hb ho ex ey ez t =
    record {
      bond-filled = filled_next s.bond-filled hb ex;
      option-filled = filled_next s.option-filled ho ey;
      found =
          t ∙ ap₂ max s.found (ez ∙ ap₂ max ex ey) ∙ sym (greatest-next k (λ j. max (f j) (g j)));
    }

pub rows-done :
    {bond₀ bond option₀ option : List ℕ} {f g : ℕ → ℕ} {top k n : ℕ} → Rows-state bond₀ bond option₀ option f g top k → k ≡ n →
    FilledRows bond option n f g top
rows-done {f} {g} s e =
    record {
      bond-held = λ j h. s.bond-filled.done j (omega arith);
      option-held = λ j h. s.option-filled.done j (omega arith);
      found = s.found ∙ ap (λ (m : ℕ). greatest m (λ j. max (f j) (g j))) e;
    }

-- the option's value from the two rolls, as the code has them
pub option-from-roll :
    (side : Side) (strike : ℕ) (listed : Bool) {bonds options downs discounts : List ℕ} {next k bond roll r : ℕ} →
    Implied (bonds ▸ options ▸ downs ▸ discounts ▸ next ▸ lastly k) →
    bond ≡ rolled_row bonds downs discounts next k → roll ≡ rolled_row options downs discounts next k →
    r ≡ held_or_exercised listed roll (exercise side strike bond) →
    r ≡ option_values side strike listed bonds options downs discounts next k
option-from-roll side strike listed _ eb eo er =
    er ∙ ap₂ (λ (x y : ℕ). held_or_exercised listed x (exercise side strike y)) eo eb
