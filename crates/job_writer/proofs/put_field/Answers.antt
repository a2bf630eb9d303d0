use Rattle.job_record.proofs.Places.{digits-length}
use native.Mathlib.Omega.{arith}
use Rattle.writer_laws.proofs.PutLaws.{field-placed}
use Rattle.job_writer.proofs.put_field.Goals as goal

pub returns : goal.returns
returns c =
    let a = c.args in
    field-placed _ _ _ _ c.put_tag.ensures (digits-length a.width a.value) c.put_number.ensures (omega arith)
