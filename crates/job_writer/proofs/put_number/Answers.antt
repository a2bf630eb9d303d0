use Rattle.std.proofs.Common.{arith, ◌≡◌, ◌∙◌, ◌+◌, ◌-◌, ℕ}
use Rattle.writer_laws.proofs.PutLaws.{number-none, number-last}
use Rattle.job_writer.proofs.put_number.Goals as goal

pub loop-place-init : goal.loop-place-init
loop-place-init c = let e : c.args.at + c.args.width - c.args.at ≡ c.args.width = omega arith in (omega arith, rw e)

pub loop-place-preserved : goal.loop-place-preserved
loop-place-preserved c =
    let loop = c.loop-place in
    let at = c.args.at in
    let left : ℕ = loop.place - at in
    let here : loop.place - 1 ≡ at + (left - 1) = omega arith in
    let less : at + (left - 1) - at ≡ left - 1 = omega arith in
    (omega arith, rw (here, less) (number-last loop.out at left loop.rest (omega arith) (omega arith) ∙ loop.invariant.1))

pub returns : goal.returns
returns c =
    let loop = c.loop-place in
    number-none loop.out c.args.at (loop.place - c.args.at) loop.rest (omega arith) ∙ loop.invariant.1
