use Prim.Native.Nat.{◌/◌, ◌%◌}
use native.Mathlib.Omega.{arith}
use lib.ListN.{length-set}
use borrow.Author.Rules.{rules}
use Rattle.text_laws.specs.Decimal.{digit, natural}
use Rattle.text_laws.proofs.DecimalLaws.{natural-small, natural-step, length-natural-small, length-natural-step}
use Rattle.text_laws.proofs.PutLaws.{put_last, put_front}
use Rattle.text.proofs.put_natural.Goals as goal

pub overflow_sub-start : goal.overflow_sub-start
overflow_sub-start c = omega (arith, length-natural-step c.loop-rest.rest (omega arith))

pub bounds-out-start : goal.bounds-out-start
bounds-out-start c = omega (arith, length-natural-step c.loop-rest.rest (omega arith))

pub loop-rest-preserved : goal.loop-rest-preserved
loop-rest-preserved c =
    let l = c.loop-rest in
    let n = length-natural-step l.rest (omega arith) in (
      omega arith,
      omega arith,
      simp length-set (search rules),
      put_last l.out (natural (l.rest / 10)) (natural l.rest) _ l.start (digit (l.rest % 10))
          (natural-step l.rest (omega arith)) (omega arith) (omega arith) l.invariant.3,
    )

pub overflow_sub-start-2 : goal.overflow_sub-start-2
overflow_sub-start-2 c = omega (arith, length-natural-small c.loop-rest.rest (omega arith))

pub bounds-out-start-2 : goal.bounds-out-start-2
bounds-out-start-2 c = omega (arith, length-natural-small c.loop-rest.rest (omega arith))

pub shape_of-out : goal.shape_of-out
shape_of-out c = simp length-set (search rules)

pub returns : goal.returns
returns c =
    let l = c.loop-rest in
    let n = length-natural-small l.rest (omega arith) in
    put_front l.out c.args.out.now (natural c.args.number) (natural l.rest) l.start (digit l.rest) c.args.end
    (omega arith) (omega arith) (natural-small l.rest (omega arith)) (omega arith) c.requires.1 l.invariant.3
