use Prim.Native.Nat.{◌+◌, ◌≤◌}
use native.Mathlib.Omega.{arith}
use Rattle.lattice.proofs.Sizes.{half-within, half-later}
use Rattle.lattice.proofs.ShapeLaws.{shape-built}
use Rattle.lattice.proofs.shape_of.Goals as goal
use Rattle.lattice.proofs.shape_of.Goals.{After-row_start_of}

-- no row is wider than its number
narrow : (c : After-row_start_of) → (c.before.before.half_width_of-half.result ≤ 60) × (c.before.half_width_of-next.result ≤ 60)
narrow c =
    let s = c.before.before.before in
    (omega (arith, half-within s.args.reversion s.args.row), omega (arith, half-within s.args.reversion (s.args.row + 1)))

pub overflow_mul-result : goal.overflow_mul-result
overflow_mul-result c = omega (arith, narrow c)

pub overflow_add-result : goal.overflow_add-result
overflow_add-result c = omega (arith, narrow c)

pub overflow_mul-result-2 : goal.overflow_mul-result-2
overflow_mul-result-2 c = omega (arith, narrow c)

pub overflow_add-result-2 : goal.overflow_add-result-2
overflow_add-result-2 c = omega (arith, narrow c)

pub overflow_sub-result : goal.overflow_sub-result
overflow_sub-result c =
    let s = c.before.before.before.before in
    omega (arith, half-later s.args.reversion s.args.row s.args.widest s.requires.1)

pub returns : goal.returns
returns c =
    shape-built _ _ _ c.before.before.before.half_width_of-half.ensures c.before.before.half_width_of-next.ensures
    c.before.row_start_of.ensures c.half_width_of.ensures
