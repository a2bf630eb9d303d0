use Rattle.std.proofs.Common.{arith}
use Rattle.pair_laws.proofs.Squares.{changed-first, changed-more, exercised-not, exercised-on}
use Rattle.pair_pricing.proofs.squares.exercise_square.Goals as goal

pub returns-then-not-listed : goal.returns-then-not-listed
returns-then-not-listed c = let s = c.args in λ t h. exercised-not s.listed s.call s.strike s.flow _ _ c.if-not-listed.true

pub loop-k-init : goal.loop-k-init
loop-k-init c = changed-first _ _

pub loop-k-preserved : goal.loop-k-preserved
loop-k-preserved c =
    let l = c.loop-k in
    let s = c.args in
    changed-more _ _ l.square l.k _ (omega arith) l.invariant
    (exercised-on s.listed s.call s.strike s.flow _ _ _ _ c.if-not-listed.false c.expiry_value-now.ensures c.larger.ensures)

pub returns : goal.returns
returns c = λ t h. c.loop-k.invariant.done t (omega arith)
