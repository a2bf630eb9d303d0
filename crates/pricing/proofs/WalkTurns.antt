-- One turn of each walk, in the code's terms: a row is stepped back and held to the limit.
-- Assumes nothing.
use mathlib.Core.Path.{◌≡◌, refl, sym, ◌∙◌, subst}
use mathlib.Core.List.{List}
use Prim.Native.Nat.{ℕ, ◌+◌, ◌-◌, ◌≤◌, ◌<◌}
use native.Mathlib.Omega.{arith}
use lib.ListN.{length}
use Rattle.arithmetic.specs.Row.{values}
use Rattle.arithmetic.specs.Sum.{greatest}
use Rattle.arithmetic.proofs.SumLaws.{greatest-cong}
use Rattle.limits.specs.Limits.{value_limit}
use Rattle.lattice.specs.Shape.{node_count}
use Rattle.pricing_laws.specs.Pricer.{exercise}
use Rattle.pricing_laws.specs.inside.Marks.{marked}
use Rattle.exercise.specs.declared.Terms.{Terms}
use Rattle.exercise.specs.Terms.{side}
use Rattle.pricing.specs.declared.walk.OptionStep.{OptionStep}
use Rattle.price_laws.specs.Prices.{flow_at}
use Rattle.pricing.specs.inside.Rows.{Limited, Holds, FilledRow, FilledRows}
use Rattle.pricing.specs.inside.Trees.{Ready, Steppable, Exercisable, option_step_at, bond_step, option_step, BondRolled, BothRolled}
use Rattle.pricing.proofs.TreeRows.{flow-within}
use Rattle.pricing.proofs.WalkStates as walk
use Rattle.pricing.proofs.WalkStates.{Bonds, Options, passed, stood}

-- both rows and their greatest value, as the code leaves them
abbrev pub Both-filled : OptionStep → List ℕ → List ℕ → List ℕ → List ℕ → List ℕ → ℕ → Type 0
Both-filled right discounts bonds options bond option top =
    FilledRows bond option (node_count right.reversion right.row)
    (bond_step right.reversion discounts right.flow right.row bonds)
    (option_step (side right.call) right.strike right.listed right.reversion discounts right.row bonds options) top

module _ {n b : ℕ} {downs discounts flows : List ℕ} (ready : Ready n b downs discounts flows)
    (r : ℕ) (row : List ℕ) (some : 0 < r) (s : Bonds n b discounts flows r row) (flow : ℕ) (ef : flow ≡ flow_at flows (r - 1)) where
  inside : r - 1 < n
  inside = omega (arith, walk.bonds-inside b discounts flows row s)

  pub turn-steppable : Steppable n b (r - 1) flow downs discounts
  turn-steppable =
      record {
        tree = ready.tree;
        table = ready.table;
        inside = inside;
        flow-most = omega (arith, ef, flow-within n flows ready.paid (r - 1) (omega (arith, inside)));
      }

  pub turn-limited : Limited row (node_count b (r - 1 + 1))
  turn-limited = let e : r - 1 + 1 ≡ r = omega arith in rw e (walk.bonds-limited n b discounts flows ready.tree ready.paid r row s)

  module _ (after : List ℕ) (top : ℕ) (h : FilledRow after (node_count b (r - 1)) (bond_step b discounts flow (r - 1) row) top) where
    filled : FilledRow after (node_count b (r - 1)) (bond_step b discounts (flow_at flows (r - 1)) (r - 1) row) top
    filled = subst (λ (x : ℕ). FilledRow after (node_count b (r - 1)) (bond_step b discounts x (r - 1) row) top) ef h

    found : top ≡ greatest (node_count b (r - 1)) (values after)
    found = filled.found ∙ greatest-cong (node_count b (r - 1)) _ _ (λ k l. sym (filled.held k l))

    pub turn-over : (last : ℕ) (l : List ℕ) → last < r → value_limit < top → BondRolled n b discounts flows last 12 l
    turn-over last l hl o =
        walk.bond-refused n b discounts flows ready.tree ready.paid last r l hl (walk.bonds-inside b discounts flows row s)
        (walk.bonds-over n b discounts flows ready.tree ready.paid r row some s after filled.held top found o)

    pub turn-next : top ≤ value_limit → Bonds n b discounts flows (r - 1) after
    turn-next o = walk.bonds-next n b discounts flows ready.tree ready.paid r row some s after filled.held top found o

-- bond and option at row r stand in two lists
pub record Both (n b : ℕ) (discounts flows : List ℕ) (terms : Terms) (marks : List ℕ) (r : ℕ) (bond option : List ℕ) : Type 0 where
  pub upto : r ≤ terms.last
  pub bonds : Bonds n b discounts flows r bond
  pub options : Options n b discounts flows (side terms.call) terms.strike (marked terms.last marks) r option

module _ {n b : ℕ} {downs discounts flows : List ℕ} (ready : Ready n b downs discounts flows)
    (terms : Terms) (marks : List ℕ) (x : Exercisable terms n marks) where
  -- on the last row: the exercise values
  pub both_first : (bond option : List ℕ) → BondRolled n b discounts flows terms.last 0 bond →
      Holds option (node_count b terms.last) (λ k. exercise (side terms.call) terms.strike (values bond k - flow_at flows terms.last)) →
      Both n b discounts flows terms marks terms.last bond option
  unfolding marked
  both_first bond option rolled h =
      let held = walk.bonds-from n b discounts flows ready.tree ready.paid terms.last bond x.last-inside rolled in
      record {
        upto = omega arith;
        bonds = held;
        options = walk.options-first n b discounts flows ready.tree ready.paid (side terms.call) terms.strike (marked terms.last marks)
            x.last-inside bond option x.strike-most held h;
      }

  -- on row 0: the answer
  pub both-done : (r : ℕ) (bond option : List ℕ) → r ≡ 0 → Both n b discounts flows terms marks r bond option →
      BothRolled n b discounts flows (side terms.call) terms.strike (marked terms.last marks) (stood bond option)
  unfolding marked
  both-done r bond option e s =
      walk.both-rolled n b discounts flows ready.tree ready.paid (side terms.call) terms.strike (marked terms.last marks)
      x.last-inside r bond option e s.bonds s.options

  -- what a step to the row before asks: a flow and a mark
  pub both-before : (r : ℕ) (bond option : List ℕ) → 0 < r → Both n b discounts flows terms marks r bond option →
      (r - 1 ≤ length flows) × (r - 1 < length marks)
  both-before r bond option some s =
      (omega (arith, ready.paid.count, s.upto, x.last-inside), omega (arith, s.upto, x.marked-rows))

  module _ (r : ℕ) (bond option : List ℕ) (some : 0 < r) (s : Both n b discounts flows terms marks r bond option)
      (right : OptionStep) (ea : right ≡ option_step_at n b flows terms marks (r - 1)) where
    pub turn-both-ready : Steppable right.steps right.reversion right.row right.flow downs discounts
        × Limited bond (node_count right.reversion (right.row + 1)) × Limited option (node_count right.reversion (right.row + 1))
    unfolding marked
    turn-both-ready =
        let e : r - 1 + 1 ≡ r = omega arith in
        subst
        (λ (y : OptionStep). Steppable y.steps y.reversion y.row y.flow downs discounts
        × Limited bond (node_count y.reversion (y.row + 1)) × Limited option (node_count y.reversion (y.row + 1)))
        (sym ea) (
          turn-steppable ready r bond some s.bonds _ refl,
          turn-limited ready r bond some s.bonds _ refl,
          rw e (walk.options-limited n b discounts flows ready.tree ready.paid (side terms.call) terms.strike
              (marked terms.last marks) x.last-inside r option s.options),
        )

    module _ (bond' option' : List ℕ) (top : ℕ) (h : Both-filled right discounts bond option bond' option' top) where
      pub turn-both-over : value_limit < top →
          BothRolled n b discounts flows (side terms.call) terms.strike (marked terms.last marks) passed
      unfolding marked
      turn-both-over o =
          walk.both-over n b discounts flows ready.tree ready.paid (side terms.call) terms.strike (marked terms.last marks)
          x.last-inside r bond option some s.bonds s.options _ refl bond' option' top
          (subst (λ (y : OptionStep). Both-filled y discounts bond option bond' option' top) ea h) o

      pub turn-both-next : top ≤ value_limit → Both n b discounts flows terms marks (r - 1) bond' option'
      unfolding marked
      turn-both-next o =
          let next = walk.both-next n b discounts flows ready.tree ready.paid (side terms.call) terms.strike (marked terms.last marks)
          x.last-inside r bond option some s.bonds s.options _ refl bond' option' top
          (subst (λ (y : OptionStep). Both-filled y discounts bond option bond' option' top) ea h) o in
          record { upto = omega (arith, s.upto); bonds = next.0; options = next.1 }
