use native.Mathlib.Omega.{arith}
use Rattle.book_laws.proofs.FileLaws.{head-short, head-other, head-sound}
use Rattle.book_laws.specs.Files.{field_size}
use Rattle.book_report.proofs.head_of.Goals as goal

pub returns-then-bytes-lt3 : goal.returns-then-bytes-lt3
returns-then-bytes-lt3 c = record { value = head-short _ c.if-bytes-lt3.true; size_bound = omega arith }

pub returns-then-bytes-ne16 : goal.returns-then-bytes-ne16
returns-then-bytes-ne16 c = record { value = head-other _ c.if-bytes-lt3.false c.if-bytes-ne16.true; size_bound = omega arith }

pub returns : goal.returns
unfolding field_size
returns c =
    record { value = rw (c.from.ensures, c.from-2.ensures) (head-sound _ c.if-bytes-lt3.false c.if-bytes-ne16.false); size_bound = omega arith }
