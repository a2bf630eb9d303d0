use Rattle.std.proofs.Common.{◌≡◌, sym, ◌∙◌, refl, ◌-◌, arith}
use Rattle.arithmetic.proofs.RefusalLaws.{refusal-some, answer-ok}
use Rattle.lattice.specs.Shape.{discounts_needed}
use Rattle.shelf_laws.specs.Shelf.{ask_number}
use Rattle.shelf_laws.proofs.SlotLaws.{answer-value, answer-cause, ends-before}
use Rattle.shelf_laws.proofs.NameLaws.{Asked, asked}
use Rattle.shelf_laws.proofs.EntryLaws.{ask-slots-left, ask-memory-left, ask-slots, ask-memory}
use Rattle.shelf.proofs.ask.Goals as goal
use Rattle.shelf.proofs.ask.Goals.{After-unwrap-needed, In_default}

-- what an accepted asking tells
zero : (c : In_default) → let a = c.args in ask_number a.shelf.slots a.name a.steps a.reversion ≡ 0
zero c = sym (rw c.in_default.is at c.ask_cause.ensures)

told : (c : In_default) → let a = c.args in Asked a.shelf.slots a.name a.steps a.reversion
told c = asked _ _ _ _ (zero c)

pub returns-in-Err : goal.returns-in-Err
returns-in-Err c =
    let number = c.in-Err.ensures in
    let after = c.refused.ensures in
    let cause = refusal-some _ in
    record { number = after.0 ∙ number; slots = after.1 ∙ ask-slots-left _ _ _ _ number cause; memory = ask-memory-left _ _ _ _ number _ cause }

pub overflow_sub-name : goal.overflow_sub-name
overflow_sub-name c = omega (arith, (told c).name-known.low)

pub nodes_before-at-requires : goal.nodes_before-at-requires
nodes_before-at-requires c = omega (arith, (told c).name-known.high)

pub unwrap-needed-requires : goal.unwrap-needed-requires
unwrap-needed-requires c =
    answer-ok _ (answer-cause _ _ _ c.discounts_needed.ensures ∙ (told (goal.at.unwrap-needed-requires c).In_default).shape)

-- as many nodes as are asked for
counted : (c : After-unwrap-needed) → let a = c.args in c.unwrap-needed.result ≡ discounts_needed a.steps a.reversion
counted c = answer-value _ _ _ (rw c.unwrap-needed.ensures at c.discounts_needed.ensures) refl

pub open_part-requires : goal.open_part-requires
open_part-requires c =
    let a = c.args in
    let t = told (goal.at.open_part-requires c).In_default in
    omega (
      arith,
      t.space,
      c.nodes_before-at.ensures,
      counted (goal.at.open_part-requires c).After-unwrap-needed,
      ends-before a.shelf.slots (a.name - 1) 8 (omega (arith, t.name-known.high, t.name-known.low)),
    )

pub overflow_sub-name-2 : goal.overflow_sub-name-2
overflow_sub-name-2 c = omega (arith, (told (goal.at.overflow_sub-name-2 c).In_default).name-known.low)

pub replaced-requires : goal.replaced-requires
replaced-requires c =
    let t = told (goal.at.replaced-requires c).In_default in
    omega (arith, t.name-known.low, t.name-known.high)

pub returns : goal.returns
returns c =
    let none = zero (goal.at.returns c).In_default in
    let after = c.replaced.ensures in record {
      number = after.0 ∙ sym none;
      slots = ask-slots _ _ _ _ (sym none) refl _ _ c.awaiting_slot-slot.ensures after.1;
      memory = ask-memory _ _ _ _ (sym none) refl _ _ _ _ c.nodes_before-at.ensures
          (counted (goal.at.returns c).After-unwrap-needed) c.open_part.ensures;
    }
