use Rattle.std.proofs.Common.{◌∙◌}
use Rattle.arithmetic.proofs.RefusalLaws.{number-cause, value-or}
use Rattle.pricing.proofs.EntryLaws.{tree-bounded}
use Rattle.pricing.proofs.tree_bound.Goals as goal

pub returns : goal.returns
returns c =
    let bound = c.price_error_bound-bound.result in
    let least = rw (← number-cause bound) at c.lowest_refusal-cause.ensures in
    rw (c.unwrap_or.ensures, value-or bound)
    (tree-bounded c.price_error_bound-bound.ensures c.flows_cause.ensures (c.cause.ensures ∙ least))
