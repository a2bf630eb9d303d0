use Rattle.std.proofs.Common.{◌∙◌, sym, arith}
use Rattle.pair_laws.proofs.CauseLaws.{combined-refused, combined-passed, passed-more}
use Rattle.pair_causes.proofs.combined_cause.Goals as goal

pub is_discounted-requires : goal.is_discounted-requires
is_discounted-requires c = (c.requires, omega arith)

pub returns-then-not-is_discounted : goal.returns-then-not-is_discounted
returns-then-not-is_discounted c =
    combined-refused _ _ _ _ c.loop-row.row (omega arith) (sym c.is_discounted.ensures ∙ c.if-not-is_discounted.true)

pub loop-row-preserved : goal.loop-row-preserved
loop-row-preserved c = passed-more _ c.loop-row.row _ c.loop-row.invariant c.is_discounted.ensures c.if-not-is_discounted.false

pub returns : goal.returns
returns c = combined-passed _ _ _ _ (λ i h. c.loop-row.invariant i (omega arith))
