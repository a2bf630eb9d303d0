use Rattle.writer_laws.proofs.PutLaws.{head-placed}
use Rattle.job_writer.proofs.put_head.Goals as goal

pub returns : goal.returns
returns c =
    head-placed c.args.out.now _ _ _ _ c.requires c.put_field.ensures c.put_field-2.ensures c.put_field-3.ensures
    c.put_field-4.ensures
