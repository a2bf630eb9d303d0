use Rattle.writer_laws.proofs.PutLaws.{list-placed}
use Rattle.job_writer.proofs.put_list.Goals as goal

pub returns : goal.returns
returns c =
    list-placed _ c.args.at _ _ _ c.requires c.put_tag.auto.out c.put_tag.ensures c.put_number.ensures
    c.put_number-2.ensures c.put_dates.ensures
