use mathlib.Core.Path.{◌≡◌, ap, ◌∙◌}
use Prim.Native.Nat.{ℕ, ◌-◌}
use native.Mathlib.Omega.{arith}
use Rattle.arithmetic.specs.Row.{values}
use Rattle.lattice.specs.Shape.{node_count}
use Rattle.lattice.proofs.Sizes.{count-within}
use Rattle.pricing_laws.specs.Pricer.{exercise}
use Rattle.exercise.specs.Terms.{side}
use Rattle.lattice.proofs.TreeEntries.{row-ok}
use Rattle.pricing.proofs.EntryLaws.{answer-value}
use Rattle.pricing.proofs.walk.exercise_step.Goals as goal
use Rattle.pricing.proofs.walk.exercise_step.Goals.{After-flow_of}

pub unwrap-count-requires : goal.unwrap-count-requires
unwrap-count-requires c = row-ok _ _ _ _ c.node_count.ensures c.requires.0 c.requires.1

pub flow_of-requires : goal.flow_of-requires
flow_of-requires c = c.requires.2

-- the nodes of the option's last row
nodes : (c : After-flow_of) →
    let a = c.args in c.unwrap-count.result ≡ node_count a.reversion a.terms.last
nodes c = answer-value _ _ c.requires.1 c.requires.0 _ _ (rw c.unwrap-count.ensures at c.node_count.ensures)

pub exercise_row-requires : goal.exercise_row-requires
exercise_row-requires c =
    let few = count-within c.args.reversion c.args.terms.last c.requires.1 in
    (omega (arith, nodes (goal.at.exercise_row-requires c).After-flow_of, few), omega (arith, nodes (goal.at.exercise_row-requires c).After-flow_of, few))

pub returns : goal.returns
returns c =
    let terms = c.args.terms in
    λ k h. c.exercise_row.ensures k (omega (arith, nodes (goal.at.returns c).After-flow_of))
    ∙ ap (λ (x : ℕ). exercise (side terms.call) terms.strike (values c.args.bond.now k - x)) c.flow_of.ensures
