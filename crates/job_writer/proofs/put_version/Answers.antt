use native.Mathlib.Omega.{arith}
use mathlib.Core.Path.{sym}
use Rattle.writer_laws.proofs.PutLaws.{place_none}
use Rattle.writer_laws.proofs.SizeLaws.{version-absent, version-there, quotes-behind}
use Rattle.job_writer.proofs.put_version.Goals as goal

pub put_field-requires : goal.put_field-requires
put_field-requires c =
    (omega arith, omega (arith, c.requires, quotes-behind c.args.version c.if-version-ne0.true))

pub returns-then-version-ne0 : goal.returns-then-version-ne0
returns-then-version-ne0 c =
    rw (version-there c.args.version c.if-version-ne0.true) c.put_field.ensures

pub returns-else-version-ne0 : goal.returns-else-version-ne0
returns-else-version-ne0 c = rw (version-absent c.args.version c.if-version-ne0.false) (sym (place_none _ _))
