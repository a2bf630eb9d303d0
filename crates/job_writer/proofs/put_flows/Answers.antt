use Rattle.std.proofs.Common.{arith, ◌≡◌, ◌∙◌, ◌<◌, length-take-le}
use Rattle.std.proofs.Math.Seq.{get_or-take}
use Rattle.job_record.proofs.Reread.{number_size}
use Rattle.writer_laws.proofs.PutLaws.{fields-none, fields-more}
use Rattle.job_writer.proofs.put_flows.Goals as goal

pub loop-i-init : goal.loop-i-init
loop-i-init c = fields-none _ _ _

pub loop-i-preserved : goal.loop-i-preserved
loop-i-preserved c =
    let below : c.loop-i.i < c.args.count = omega (arith, length-take-le c.args.count c.args.flows.now c.requires.1) in
    fields-more _ _ _ _ 7 _ _ _ (λ k. number_size 7 4 _) (omega arith) (omega arith) c.loop-i.invariant
    (rw (get_or-take c.args.count c.args.flows.now c.loop-i.i 0 below) at c.put_field.ensures)

pub returns : goal.returns
returns c =
    let end : c.loop-i.i ≡ c.args.count = omega (arith, length-take-le c.args.count c.args.flows.now c.requires.1) in
    c.loop-i.invariant ∙ rw end
