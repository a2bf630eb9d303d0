use borrow.Author.Rules.{rules}
use mathlib.Core.Path.{◌≡◌, ap}
use Prim.Native.Nat.{ℕ}
use native.Mathlib.Omega.{arith}
use lib.ListN.{get_or}
use Rattle.arithmetic.proofs.RowLaws.{filled-start, filled_next}
use Rattle.arithmetic.proofs.PaddedLaws.{filled-padded}
use Rattle.job_record.proofs.Columns.{field-within}
use Rattle.job_reader.proofs.tags_from.Goals as goal

pub loop-i-init : goal.loop-i-init
loop-i-init c = filled-start _ _

pub bounds-bytes-after_fields : goal.bounds-bytes-after_fields
bounds-bytes-after_fields c =
    let start = c.args in
    let i = c.loop-i.i in
    omega (arith, c.after_fields.ensures.0, field-within start.from start.width i start.count (omega arith))

pub loop-i-preserved : goal.loop-i-preserved
loop-i-preserved c =
    let read = ap (λ (place : ℕ). get_or c.args.bytes.now place 0) c.after_fields.ensures.0 in
    filled_next c.loop-i.invariant (search rules) read

pub returns : goal.returns
returns c =
    let end : c.loop-i.i ≡ c.args.count = omega arith in
    filled-padded _ _ _ _ (rw end at c.loop-i.invariant)
