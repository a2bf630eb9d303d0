use Rattle.std.proofs.Common.{arith, ◌≡◌, ◌∙◌}
use Rattle.job_record.proofs.Reread.{number_size}
use Rattle.writer_laws.proofs.PutLaws.{fields-none, fields-more}
use Rattle.job_writer.proofs.put_quotes.Goals as goal

pub loop-i-init : goal.loop-i-init
loop-i-init c = fields-none _ _ _

pub loop-i-preserved : goal.loop-i-preserved
loop-i-preserved c = fields-more _ _ _ _ 11 _ _ _ (λ k. number_size _ 8 _) (omega arith) (omega arith) c.loop-i.invariant c.put_field.ensures

pub returns : goal.returns
returns c =
    let end : c.loop-i.i ≡ c.args.count = omega arith in
    c.loop-i.invariant ∙ rw end
