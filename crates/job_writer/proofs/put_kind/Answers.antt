use Rattle.writer_laws.proofs.PutLaws.{kind-placed}
use Rattle.job_writer.proofs.put_kind.Goals as goal

pub returns : goal.returns
returns c =
    kind-placed _ c.args.at _ _ _ c.requires c.put_tag.auto.out c.put_tag.ensures c.put_number.ensures
    c.put_number-2.ensures c.put_number-3.ensures
