use native.Mathlib.Omega.{arith}
use Rattle.writer_laws.proofs.SizeLaws.{option-size-few}
use Rattle.job_writer.proofs.job_size.Goals as goal

pub overflow_add-result-3 : goal.overflow_add-result-3
overflow_add-result-3 c =
    omega (arith, c.quotes_from.ensures.1, option-size-few c.args.tag c.args.count c.requires.1)
