use Rattle.lattice.specs.Shape.{node_count}
use Prim.Native.Nat.{ℕ, ◌+◌, ◌*◌, ◌≤◌}
use Rattle.lattice.proofs.Sizes.{half-within}
use mathlib.Core.Path.{ap, ◌∙◌}
use native.Mathlib.Omega.{arith}
use Rattle.lattice.proofs.EntryLaws as entry
use Rattle.lattice.proofs.node_count.Goals as goal
use Rattle.lattice.proofs.node_count.Goals.{After-half_width_of}

small : (c : After-half_width_of) → c.half_width_of.result ≤ 60
small c = omega (arith, half-within c.before.before.args.reversion c.before.clipped.result)

pub overflow_mul-half_width_of : goal.overflow_mul-half_width_of
overflow_mul-half_width_of c = omega (arith, small c)

pub overflow_add-half_width_of : goal.overflow_add-half_width_of
overflow_add-half_width_of c = omega (arith, small c)

pub returns : goal.returns
unfolding node_count
returns c =
    let count = ap (λ (x : ℕ). 2 * x + 1) c.before.half_width_of.ensures in
    c.about_row.ensures ∙ entry.row-answer _ _ (node_count _) _ _ c.before.before.clipped.ensures count
