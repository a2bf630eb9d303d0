use mathlib.Core.Path.{◌≡◌, sym, ap, ◌∙◌}
use Prim.Native.Nat.{ℕ, ◌-◌, ◌+◌}
use mathlib.Core.List.{List, ◌++◌}
use lib.ListN.{length, take, drop, length-drop}
use native.Mathlib.Omega.{arith}
use borrow.Rule.Slice.PartMut.{mid_len}
use Rattle.arithmetic.specs.Row.{place}
use Rattle.arithmetic.proofs.RowLaws.{length-row}
use Rattle.shelf_laws.specs.Parts.{zeros, closed}
use Rattle.shelf_laws.proofs.Moves.{closed_is, rest-length}
use Rattle.shelf_laws.proofs.PartLaws.{part-back-to}
use Rattle.shelf.proofs.Cleared.{cleared}
use Rattle.shelf.proofs.parts.close_part.Goals as goal

pub returns : goal.returns
unfolding closed
returns c =
    let a = c.args in
    let m = a.memory.now in
    let moved = c.move_down.new.memory in
    let same : length moved ≡ length m = omega arith in
    let e : length moved - (length moved - a.count) ≡ a.count = omega arith in
    let f : length moved - a.count ≡ length m - a.count = omega arith in
    part-back-to moved (length moved - a.count) (length moved) (zeros a.count) c.fill.new.self (omega arith)
    (cleared _ _ a.count (c.fill.ensures.after (λ y same. same))
    (mid_len (length moved - a.count) (length moved) moved (omega arith) ∙ e))
    (length-row a.count _ ∙ sym e)
    ∙ ap (λ (n : ℕ). place moved n (zeros a.count)) f
    ∙ ap (λ (l : List ℕ). place l (length m - a.count) (zeros a.count)) c.move_down.ensures
    ∙ closed_is (take a.at m ++ drop (a.at + a.count) m) (drop (length m - a.count) m) (length m - a.count) a.count
    (rest-length m a.at a.count (omega arith)) (simp length-drop (omega arith))
