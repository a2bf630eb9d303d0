use Rattle.std.proofs.Common.{arith, sym, ◌≡◌, ◌∙◌, ℕ, ◌+◌, ◌*◌, ◌^◌, ◌<◌, get_or}
use Rattle.std.proofs.lemmas.List.Edits.{get_or-between, length-between}
use Rattle.job_record.specs.Bytes.{number_at}
use Rattle.job_record.proofs.Numbers.{number-nothing, number_more, number_bound, byte_more}
use Rattle.job_reader.proofs.number.Goals as goal
use Rattle.job_reader.proofs.number.Goals.{In-loop-byte, After-from}

pub loop-byte-init : goal.loop-byte-init
loop-byte-init c = sym (number-nothing _ _)

-- the value with one byte more fits
small : (c : In-loop-byte) (b : ℕ) → b < 256 → c.loop-byte.value * 256 + b < 2 ^ 64
small c b hb =
    byte_more c.loop-byte.byte-index c.loop-byte.value b (omega (arith, length-between c.args.bytes.now c.args.at (c.args.at + c.args.width)))
    (rw c.loop-byte.invariant (number_bound _ (λ i. omega (arith, c.type_inv.bytes i)) _ _)) hb

pub overflow_mul-value : goal.overflow_mul-value
overflow_mul-value c = omega (arith, small (goal.at.overflow_mul-value c).In-loop-byte 0 (omega arith))

-- the loop's byte, by its place
byte : (c : After-from) → c.from.result ≡ get_or c.args.bytes.now (c.args.at + c.loop-byte.byte-index) 0
byte c =
    let end = c.args.at + c.args.width in
    c.from.ensures
    ∙ get_or-between c.args.bytes.now c.args.at end c.loop-byte.byte-index 0 (omega (arith, length-between c.args.bytes.now c.args.at end))

pub overflow_add-value : goal.overflow_add-value
overflow_add-value c =
    let b = c.type_inv.bytes (c.args.at + c.loop-byte.byte-index) in
    omega (arith, small (goal.at.overflow_add-value c).In-loop-byte c.from.result (rw (byte (goal.at.overflow_add-value c).After-from) (omega (arith, b))))

pub loop-byte-preserved : goal.loop-byte-preserved
loop-byte-preserved c = rw (number_more, ← byte (goal.at.loop-byte-preserved c).After-from, c.loop-byte.invariant)

pub returns : goal.returns
returns c =
    let end : c.loop-byte.byte-index ≡ c.args.width = omega (arith, length-between c.args.bytes.now c.args.at (c.args.at + c.args.width)) in
    let same : c.loop-byte.value ≡ number_at c.args.bytes.now c.args.at c.args.width = rw end at c.loop-byte.invariant in
    (same, rw same (number_bound _ (λ i. omega (arith, c.type_inv.bytes i)) _ _))
