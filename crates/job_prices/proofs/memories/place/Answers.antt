use Rattle.std.proofs.Common.{◌≡◌, ◌+◌, ◌++◌, List, ℕ, ap, arith, drop, length}
use Rattle.arithmetic.specs.Row.{place}
use Rattle.job_prices.proofs.memories.place.Goals as goal

pub returns : goal.returns
unfolding place
returns c =
    let end : 0 + length c.args.part.now ≡ length c.args.part.now = omega arith in
    rw end (ap (λ (l : List ℕ). l ++ drop (length c.args.part.now) c.args.memory.now) c.copy_from_slice.ensures.after)
