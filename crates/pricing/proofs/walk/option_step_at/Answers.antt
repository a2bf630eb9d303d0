use mathlib.Core.Path.{ap}
use Prim.Native.Nat.{ℕ}
use lib.Dec.{eqb}
use lib.ListN.{get_or}
use Rattle.pricing.specs.declared.walk.OptionStep.{OptionStep}
use Rattle.pricing.proofs.walk.option_step_at.Goals as goal

pub returns : goal.returns
returns c =
    let a = c.args in
    ap {B = OptionStep}
    (λ (flow : ℕ). record {
      steps = a.tree.steps;
      reversion = a.tree.reversion;
      row = a.row;
      flow = flow;
      call = a.terms.call;
      strike = a.terms.strike;
      listed = eqb (get_or a.marks.now a.row 0) 1;
    })
    c.flow_of.ensures
