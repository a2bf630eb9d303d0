-- The walks of a strip, in the code's terms: the bond whose rows are kept, and one option beside the kept rows.
-- Assumes nothing.
use mathlib.Core.Path.{◌≡◌, refl, sym, ap, ap₂, ◌∙◌, subst}
use mathlib.Core.List.{List}
use Prim.Native.Nat.{ℕ, ◌+◌, ◌-◌, ◌≤◌, ◌<◌}
use native.Mathlib.Omega.{arith}
use lib.ListN.{length, take, drop}
use Rattle.arithmetic.specs.Row.{values}
use Rattle.arithmetic.specs.Answers.{refused, answered}
use Rattle.arithmetic.specs.declared.Answer.{Answer}
use Rattle.arithmetic.proofs.Numbers.{by_equal}
use Rattle.arithmetic.proofs.PartLaws.{part-value, part_length}
use Rattle.limits.specs.Limits.{value_limit, most_nodes, most_discounts}
use Rattle.limits.proofs.LimitLaws.{limit-accepted}
use Rattle.lattice.specs.declared.RowShape.{RowShape}
use Rattle.lattice.specs.Shape.{node_count, row_start}
use Rattle.lattice.specs.Entries.{row_shape_answer}
use Rattle.lattice.proofs.Sizes.{row_ends}
use Rattle.pricing_laws.specs.Pricer.{Side, Schedule, exercise}
use Rattle.pricing_laws.specs.inside.Marks.{marked}
use Rattle.exercise.specs.declared.Terms.{Terms}
use Rattle.exercise.specs.Terms.{side}
use Rattle.pricing.specs.declared.walk.OptionStep.{OptionStep}
use Rattle.price_laws.specs.Prices.{flow_at, bond_peak}
use Rattle.pricing.specs.inside.Rows.{Limited, Holds, FilledRow}
use Rattle.pricing.specs.inside.Trees.{Ready, Steppable, Exercisable, option_step_at, BondRolled, BothRolled}
use Rattle.pricing.specs.inside.Strips.{bare_value, KeptFrom, Laid, BondKept, strike_step, beside_bond}
use Rattle.pricing.proofs.TreeRows.{flow-within}
use Rattle.pricing.proofs.StepParts as parts
use Rattle.pricing.proofs.WalkStates as walk
use Rattle.pricing.proofs.WalkStates.{Bonds, Options}

-- ---- the bond

module _ {n b : ℕ} {downs discounts flows : List ℕ} (ready : Ready n b downs discounts flows) where
  -- no row before row n is kept yet
  pub kept-none : (kept : List ℕ) → KeptFrom n b discounts flows n kept
  kept-none kept i k h l m = let none : ⊥ = omega arith in absurd none

  -- one row more
  module _ (r : ℕ) (some : 0 < r) (before after bond : List ℕ) (rows : KeptFrom n b discounts flows r before)
      (s : Bonds n b discounts flows (r - 1) bond) (flow : ℕ) (ef : flow ≡ flow_at flows (r - 1))
      (laid : Laid before after (row_start b (r - 1)) (node_count b (r - 1)) (λ k. values bond k - flow)) where
    row_here : (k : ℕ) → k < node_count b (r - 1) → values after (row_start b (r - 1) + k) ≡ bare_value n b discounts flows (r - 1) k
    row_here k h =
        laid.done k h ∙ ap₂ (λ (x y : ℕ). x - y) (walk.bonds-held n b discounts flows ready.tree ready.paid (r - 1) bond s k h) ef

    pub kept_next : KeptFrom n b discounts flows (r - 1) after
    kept_next i k h l m =
        by_equal i (r - 1)
        (λ same.
        subst (λ (x : ℕ). k < node_count b x → values after (row_start b x + k) ≡ bare_value n b discounts flows x k) (sym same) (row_here k) m)
        (λ other.
        let later : r ≤ i = omega arith in
        laid.rest (row_start b i + k) (omega (arith, row_ends b (r - 1) i (omega arith))) ∙ rows i k later l m)

  -- the answers
  pub kept-refused : (kept l : List ℕ) → BondRolled n b discounts flows 0 12 l → BondKept n b discounts flows 12 kept
  unfolding bond_peak
  kept-refused kept l s = record { cause = s.cause; rows = λ z. absurd (none z) }
    where
      none : ◌≡◌ {A = ℕ} 12 0 → ⊥
      none z = omega arith

  pub kept_whole :
      (r : ℕ) (kept bond : List ℕ) → r ≡ 0 → Bonds n b discounts flows r bond → KeptFrom n b discounts flows r kept →
      BondKept n b discounts flows 0 kept
  unfolding bond_peak
  kept_whole r kept bond e s rows =
      let rolled = walk.bond-rolled n b discounts flows ready.tree ready.paid 0 r bond e s in
      record { cause = rolled.cause; rows = λ z. subst (λ (x : ℕ). KeptFrom n b discounts flows x kept) e rows }

-- a bond that was not refused
pub kept-through :
    {n b : ℕ} {discounts flows : List ℕ} {number : ℕ} {kept : List ℕ} → BondKept n b discounts flows number kept → number ≡ 0 →
    BondKept n b discounts flows 0 kept
kept-through {n} {b} {discounts} {flows} {kept} s z = subst (λ (x : ℕ). BondKept n b discounts flows x kept) z s

-- ---- one option

-- the option at row r stands in a list
pub record Alone (n b : ℕ) (discounts flows : List ℕ) (terms : Terms) (marks : List ℕ) (r : ℕ) (option : List ℕ) : Type 0 where
  pub upto : r ≤ terms.last
  pub options : Options n b discounts flows (side terms.call) terms.strike (marked terms.last marks) r option

module _ {n b : ℕ} {downs discounts flows : List ℕ} (ready : Ready n b downs discounts flows)
    (terms : Terms) (marks : List ℕ) (x : Exercisable terms n marks) (before-end : terms.last < n)
    (kept : List ℕ) (whole : BondKept n b discounts flows 0 kept) (long : most_discounts ≤ length kept) where
  within : bond_peak n b discounts flows ≤ value_limit
  within = limit-accepted _ (sym whole.cause)

  -- on the last row: the exercise values of the kept row
  module _ (shape : RowShape) (es : shape ≡ row_shape_answer b n terms.last) where
    pub last-room : shape.start + shape.count ≤ length kept
    last-room = parts.kept-room n b terms.last discounts ready.tree before-end shape es kept long

    module _ (bare : List ℕ) (eb : bare ≡ take shape.count (drop shape.start kept)) where
      pub last-long : length bare ≡ node_count b terms.last
      last-long =
          ap length eb
          ∙ part_length kept shape.start shape.count last-room
          ∙ parts.count-is n b terms.last discounts ready.tree before-end shape es

      pub last-short : length bare ≤ most_nodes
      last-short =
          omega (
            arith,
            ap length eb,
            part_length kept shape.start shape.count last-room,
            parts.shape-within n b terms.last discounts ready.tree before-end shape es,
          )

      last-bare : (k : ℕ) → k < node_count b terms.last → values bare k ≡ bare_value n b discounts flows terms.last k
      last-bare k h =
          ap (λ (l : List ℕ). values l k) eb
          ∙ part-value kept shape.start shape.count k
          (omega (arith, parts.count-is n b terms.last discounts ready.tree before-end shape es))
          ∙ ap (λ (y : ℕ). values kept (y + k)) (parts.start_is n b terms.last discounts ready.tree before-end shape es)
          ∙ whole.rows refl terms.last k (omega arith) before-end h

      pub alone-start :
          (option : List ℕ) → Holds option (length bare) (λ k. exercise (side terms.call) terms.strike (values bare k)) →
          Alone n b discounts flows terms marks terms.last option
      unfolding marked
      alone-start option h =
          record {
            upto = omega arith;
            options =
                walk.alone-first n b discounts flows ready.tree ready.paid (side terms.call) terms.strike (marked terms.last marks)
                x.last-inside within bare option x.strike-most last-bare (rw last-long at h);
          }

  -- what a step to the row before asks: a flow and a mark
  pub alone-before : (r : ℕ) (option : List ℕ) → 0 < r → Alone n b discounts flows terms marks r option →
      (r - 1 ≤ length flows) × (r - 1 < length marks)
  alone-before r option some s =
      (omega (arith, ready.paid.count, s.upto, x.last-inside), omega (arith, s.upto, x.marked-rows))

  module _ (r : ℕ) (option : List ℕ) (some : 0 < r) (s : Alone n b discounts flows terms marks r option)
      (right : OptionStep) (ea : right ≡ option_step_at n b flows terms marks (r - 1)) where
    pub alone-ready : Steppable right.steps right.reversion right.row right.flow downs discounts
        × Limited option (node_count right.reversion (right.row + 1))
    unfolding marked
    alone-ready =
        let e : r - 1 + 1 ≡ r = omega arith in
        let inside : r - 1 < n = omega (arith, s.upto) in
        subst
        (λ (y : OptionStep). Steppable y.steps y.reversion y.row y.flow downs discounts
        × Limited option (node_count y.reversion (y.row + 1)))
        (sym ea) (
          record {
            tree = ready.tree;
            table = ready.table;
            inside = inside;
            flow-most = omega (arith, flow-within n flows ready.paid (r - 1) (omega arith));
          },
          rw e (walk.options-limited n b discounts flows ready.tree ready.paid (side terms.call) terms.strike
              (marked terms.last marks) x.last-inside r option s.options),
        )

    module _ (after : List ℕ) (top : ℕ)
        (h : FilledRow after (node_count right.reversion right.row)
        (strike_step (side right.call) right.strike right.listed right.reversion discounts right.row kept option) top) where
      filled : FilledRow after (node_count b (r - 1))
          (strike_step (side terms.call) terms.strike (option_step_at n b flows terms marks (r - 1)).listed b discounts (r - 1) kept option) top
      filled =
          subst
          (λ (y : OptionStep). FilledRow after (node_count y.reversion y.row)
          (strike_step (side y.call) y.strike y.listed y.reversion discounts y.row kept option) top)
          ea h

      pub turn-alone-over : value_limit < top →
          BothRolled n b discounts flows (side terms.call) terms.strike (marked terms.last marks) (beside_bond n b discounts flows (refused 12))
      unfolding marked
      turn-alone-over o =
          walk.alone-over n b discounts flows ready.tree ready.paid (side terms.call) terms.strike (marked terms.last marks)
          x.last-inside within r option kept some s.options (whole.rows refl) _ refl after top filled o

      pub turn-alone-next : top ≤ value_limit → Alone n b discounts flows terms marks (r - 1) after
      unfolding marked
      turn-alone-next o =
          record {
            upto = omega (arith, s.upto);
            options =
                walk.alone-next n b discounts flows ready.tree ready.paid (side terms.call) terms.strike (marked terms.last marks)
                x.last-inside within r option kept some s.options (whole.rows refl) _ refl after top filled o;
          }

  -- on row 0: the answer
  pub alone-done : (r : ℕ) (option : List ℕ) → r ≡ 0 → Alone n b discounts flows terms marks r option →
      BothRolled n b discounts flows (side terms.call) terms.strike (marked terms.last marks)
      (beside_bond n b discounts flows (answered (values option 0)))
  unfolding marked
  alone-done r option e s =
      walk.alone-rolled n b discounts flows ready.tree ready.paid (side terms.call) terms.strike (marked terms.last marks)
      x.last-inside within r option e s.options

-- what a walk came to, as the code answers it
pub beside-answer : {n b : ℕ} {discounts flows : List ℕ} {side : Side} {strike : ℕ} {rows : Schedule} {found : Answer} (r : Answer) → r ≡ found →
    BothRolled n b discounts flows side strike rows (beside_bond n b discounts flows found) →
    BothRolled n b discounts flows side strike rows (beside_bond n b discounts flows r)
beside-answer {n} {b} {discounts} {flows} {side} {strike} {rows} r e s =
    subst (λ (x : Answer). BothRolled n b discounts flows side strike rows (beside_bond n b discounts flows x)) (sym e) s
