use borrow.Author.Rules.{rules}
use mathlib.Core.Path.{◌≡◌, ap, ◌∙◌}
use Prim.Native.Nat.{ℕ}
use native.Mathlib.Omega.{arith}
use Rattle.arithmetic.proofs.RowLaws.{filled-start, filled_next}
use Rattle.job_record.specs.Bytes.{number_at}
use Rattle.job_record.specs.Form.{data_at}
use Rattle.arithmetic.proofs.PaddedLaws.{filled-padded}
use Rattle.job_record.proofs.Columns.{field-within}
use Rattle.job_reader.proofs.data_from.Goals as goal

pub loop-i-init : goal.loop-i-init
loop-i-init c = filled-start _ _

pub number-requires : goal.number-requires
number-requires c =
    let start = c.args in
    omega (arith, c.after_fields.ensures.0, field-within start.from start.width c.loop-i.i start.count (omega arith))

pub loop-i-preserved : goal.loop-i-preserved
loop-i-preserved c =
    let start = c.args in
    let read = ap (λ (place : ℕ). number_at start.bytes.now (data_at place) start.width) c.after_fields.ensures.0 in
    filled_next c.loop-i.invariant (search rules) (c.number.ensures.0 ∙ read)

pub returns : goal.returns
returns c =
    let end : c.loop-i.i ≡ c.args.count = omega arith in
    filled-padded _ _ _ _ (rw end at c.loop-i.invariant)
