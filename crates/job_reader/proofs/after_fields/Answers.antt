use Prim.Native.Nat.{◌+◌, ◌*◌, ◌≤◌}
use native.Mathlib.Nat.{mul-le-mul}
use native.Mathlib.Omega.{arith}
use mathlib.Core.Path.{refl}
use Rattle.job_record.specs.inside.Widths.{most_width}
use Rattle.job_record.specs.Form.{most_job_steps}
use Rattle.job_reader.proofs.after_fields.Goals as goal
use Rattle.job_reader.proofs.after_fields.Goals.{Start}

-- the fields take no more bytes than the most and widest
near : (c : Start) → (c.args.width + 3) * c.args.count ≤ (most_width + 3) * most_job_steps
near c = mul-le-mul {n₁ = c.args.width + 3} {m₁ = c.args.count} {n₂ = most_width + 3} {m₂ = most_job_steps} (omega arith) (omega arith)

pub overflow_mul-result : goal.overflow_mul-result
overflow_mul-result c = omega (arith, near c)

pub overflow_add-result-2 : goal.overflow_add-result-2
overflow_add-result-2 c = omega (arith, near c)

pub returns : goal.returns
returns c = (refl, omega (arith, near c))
