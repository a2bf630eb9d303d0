use Rattle.job_reader.proofs.has_tag.Goals as goal

pub returns-in-AnyKind : goal.returns-in-AnyKind
returns-in-AnyKind c = rw c.in-AnyKind.is c.is_kind.ensures

pub returns-in-Only : goal.returns-in-Only
returns-in-Only c = rw c.in-Only.is
