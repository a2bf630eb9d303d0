use Rattle.std.proofs.Common.{arith, ◌≡◌, ◌+◌, ◌-◌, length}
use Rattle.std.proofs.lemmas.List.{drop-drop}
use Rattle.arithmetic.specs.Row.{place}
use Rattle.job_writer.proofs.put_dates.Goals as goal

pub returns : goal.returns
unfolding place
returns c =
    let from = c.args.from in
    let size = length c.args.dates.now in
    let e : from + (from + size - from) ≡ from + size = omega arith in
    rw (drop-drop (from + size - from) from c.args.out.now, e, c.copy_from_slice.ensures.after)
