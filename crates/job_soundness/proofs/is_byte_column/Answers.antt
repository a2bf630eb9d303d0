use native.Mathlib.Omega.{arith}
use mathlib.Core.Path.{◌∙◌}
use Rattle.writer_laws.specs.Sound.{most_in}
use Rattle.writer_laws.proofs.ColumnTests.{column-by-type}
use Rattle.job_soundness.proofs.is_byte_column.Goals as goal

pub returns : goal.returns
returns c =
    let a = c.args in
    c.all_zero.ensures ∙ column-by-type a.column.now a.count (most_in 1) (λ k. omega (arith, c.type_inv.column k))
