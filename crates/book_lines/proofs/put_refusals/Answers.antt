use Rattle.std.proofs.Common.{refl, arith}
use Rattle.book_laws.proofs.ReportLaws.{standing-first, standing-ok, standing-next, standing-all}
use Rattle.book_lines.proofs.put_refusals.Goals as goal

pub loop-index-init : goal.loop-index-init
loop-index-init c = rw c.requires.0 (standing-first c.args.counts.now c.args.out.now c.args.end c.requires.2)

pub unwrap-start-requires : goal.unwrap-start-requires
unwrap-start-requires c =
    standing-ok c.args.counts.now c.args.out.now c.args.end c.loop-index.invariant c.requires.1 (omega arith) _ c.pair_line.result
    (c.pair_line.ensures.value, c.pair_line.ensures.out_after)

pub loop-index-preserved : goal.loop-index-preserved
loop-index-preserved c =
    standing-next c.args.counts.now c.args.out.now c.args.end c.loop-index.invariant c.requires.1 (omega arith) _ _ (omega arith) refl
    (c.type_inv.counts _).fits (rw c.unwrap-start.ensures at c.pair_line.ensures.value, c.pair_line.ensures.out_after)

pub returns : goal.returns
returns c = record {
  put = standing-all c.args.counts.now c.args.out.now c.args.end c.loop-index.invariant (omega arith);
  end_bound = omega (arith, c.loop-index.invariant.near);
}
