use Rattle.std.proofs.Common.{◌∙◌, ℕ, List, ◌++◌, drop, sym, ap}
use lib.Seq.{length-take-le}
use Rattle.arithmetic.specs.Row.{row}
use Rattle.fitting.proofs.tables.clear_front.Goals as goal

pub slice_bounds-clear-end-2 : goal.slice_bounds-clear-end-2
slice_bounds-clear-end-2 c = sym (length-take-le c.args.count c.args.memory.now c.requires)

pub returns : goal.returns
returns c =
    let zeros = c.clear.ensures ∙ ap (λ (n : ℕ). row n (λ j. 0)) (length-take-le c.args.count c.args.memory.now c.requires) in
    ap (λ (x : List ℕ). x ++ drop c.args.count c.args.memory.now) zeros
