use mathlib.Core.Path.{◌≡◌, sym, ap, ◌∙◌}
use Prim.Native.Nat.{ℕ, ◌-◌, ◌+◌}
use mathlib.Core.List.{List}
use lib.ListN.{length, take, drop}
use native.Mathlib.Omega.{arith}
use Rattle.arithmetic.specs.Row.{place}
use Rattle.arithmetic.proofs.RowLaws.{length-row}
use Rattle.shelf_laws.specs.Parts.{zeros, opened}
use Rattle.shelf_laws.proofs.Moves.{opened-is}
use Rattle.shelf_laws.proofs.PartLaws.{part-back-to, lent-count}
use Rattle.shelf.proofs.Cleared.{cleared}
use Rattle.shelf.proofs.parts.open_part.Goals as goal

pub returns : goal.returns
unfolding opened
returns c =
    let a = c.args in
    let m = a.memory.now in
    let moved = c.move_up.new.memory in
    let e : a.at + a.count - a.at ≡ a.count = omega arith in
    part-back-to moved a.at (a.at + a.count) (zeros a.count) c.fill.new.self (omega arith)
    (cleared _ _ a.count (c.fill.ensures.after (λ y same. same)) (lent-count moved a.at a.count (omega arith)))
    (length-row a.count _ ∙ sym e)
    ∙ ap (λ (l : List ℕ). place l a.at (zeros a.count)) c.move_up.ensures
    ∙ opened-is m a.at a.count (drop a.at (take (length m - a.count) m)) (omega arith)
