use native.Mathlib.Omega.{arith}
use Rattle.bands.proofs.VerdictLaws.{pairs-accepted, pairs-uncovered, pairs-overlapping, failing-price-fits}
use Rattle.bands.proofs.judge_pairs.Goals as goal

pub returns-in_default : goal.returns-in_default
returns-in_default c = pairs-accepted _ _ c.in_default.ensures (omega arith)

pub stop_at-stop-requires : goal.stop_at-stop-requires
stop_at-stop-requires c =
    let pair = c.in-Some.ensures in
    let fits = failing-price-fits _ _ _ pair.0 pair.1 pair.2 in
    ((omega arith, omega arith, omega arith), omega arith)

pub returns-then-covering-eq0 : goal.returns-then-covering-eq0
returns-then-covering-eq0 c =
    let pair = c.in-Some.ensures in
    pairs-uncovered _ _ _ pair.0 pair.1 pair.2 _ c.stop_at-stop.ensures.counted c.if-covering-eq0.true

pub returns : goal.returns
returns c =
    let pair = c.in-Some.ensures in
    pairs-overlapping _ _ _ pair.0 pair.1 pair.2 _ c.stop_at-stop.ensures.counted c.if-covering-eq0.false
