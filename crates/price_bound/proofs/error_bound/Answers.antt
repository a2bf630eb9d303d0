use Rattle.std.proofs.Common.{◌≡◌, ◌∙◌, sym, ap, arith}
use Rattle.price_bound.proofs.BoundLaws.{bound_at, bound-first, bound-fits, bound-next}
use Rattle.price_bound.proofs.error_bound.Goals as goal

pub loop-row-init : goal.loop-row-init
loop-row-init c = sym (bound-first c.args.steps c.args.rows)

pub offset_bounds-rows-row : goal.offset_bounds-rows-row
offset_bounds-rows-row c = omega (arith, c.requires.steps-within-limit)

pub bounds-rows-row : goal.bounds-rows-row
bounds-rows-row c = omega (arith, c.requires.steps-within-limit)

pub overflow_mul-bound : goal.overflow_mul-bound
overflow_mul-bound c =
    omega (arith, bound-fits c.args.steps c.args.rows c.requires c.loop-row.row c.loop-row.bound (omega arith) (omega arith) c.loop-row.invariant)

pub overflow_add-bound : goal.overflow_add-bound
overflow_add-bound c =
    omega (arith, bound-fits c.args.steps c.args.rows c.requires c.loop-row.row c.loop-row.bound (omega arith) (omega arith) c.loop-row.invariant)

pub overflow_add-bound-in-loop-row : goal.overflow_add-bound-in-loop-row
overflow_add-bound-in-loop-row c =
    omega (arith, bound-fits c.args.steps c.args.rows c.requires c.loop-row.row c.loop-row.bound (omega arith) (omega arith) c.loop-row.invariant)

pub loop-row-preserved : goal.loop-row-preserved
loop-row-preserved c =
    bound-next c.args.steps c.args.rows c.loop-row.row c.loop-row.bound (omega arith) (omega arith) c.loop-row.invariant

pub returns : goal.returns
returns c =
    let end : c.loop-row.row ≡ 0 = omega arith in
    c.loop-row.invariant ∙ ap (bound_at c.args.steps c.args.rows) end
