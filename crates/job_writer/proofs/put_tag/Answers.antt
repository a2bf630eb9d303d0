use native.Mathlib.Omega.{arith}
use mathlib.Core.Path.{◌∙◌}
use lib.ListN.{length-set}
use Rattle.writer_laws.proofs.PutLaws.{tag-placed}
use Rattle.job_writer.proofs.put_tag.Goals as goal

pub put_number-requires : goal.put_number-requires
put_number-requires c = simp length-set (omega arith)

pub shape_of-out : goal.shape_of-out
shape_of-out c = c.put_number.auto.out ∙ simp length-set

pub returns : goal.returns
returns c = tag-placed _ _ _ _ c.requires c.put_number.ensures
