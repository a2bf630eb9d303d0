use Rattle.std.proofs.Common.{◌≡◌, ◌++◌, ◌+◌, ◌-◌, ◌≤◌, ◌∙◌, ℕ, List, length, take, drop, arith, sym, ap}
use Rattle.std.proofs.lemmas.List.{drop-take}
use Rattle.std.proofs.Math.ListN.{drop_of_length-le}
use mathlib.Core.List.{append-nil}
use Rattle.shelf.proofs.parts.move_up.Goals as goal

-- what was moved up ends where the memory does
moved-up : (m front : List ℕ) (at count n end : ℕ) → at + n ≡ length m - count → length m ≤ end →
    (front ++ take n (drop at m)) ++ drop end m ≡ front ++ drop at (take (length m - count) m)
moved-up m front at count n end e past =
    ap (λ (l : List ℕ). (front ++ take n (drop at m)) ++ l) (drop_of_length-le m {i = end} past)
    ∙ append-nil (front ++ take n (drop at m))
    ∙ ap (λ (l : List ℕ). front ++ l) (sym (drop-take at n m) ∙ ap (λ (k : ℕ). drop at (take k m)) e)

pub returns : goal.returns
returns c =
    let a = c.args in
    let rest = length a.memory.now - a.count - a.at in
    c.copy_within.ensures.after
    ∙ moved-up a.memory.now (take (a.at + a.count) a.memory.now) a.at a.count rest (a.at + a.count + rest) (omega arith) (omega arith)
