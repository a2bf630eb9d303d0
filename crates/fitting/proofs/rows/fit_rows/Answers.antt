use Rattle.std.proofs.Common.{◌≡◌, length, arith}
use Rattle.fitting.proofs.Progress as laws
use Rattle.fitting.proofs.StepRows.{never}
use Rattle.fitting.proofs.rows.fit_rows.Goals as goal

pub bounds-state_prices-0 : goal.bounds-state_prices-0
bounds-state_prices-0 c = laws.state-prices-some c.requires

pub loop-row-init : goal.loop-row-init
loop-row-init c = laws.begun c.requires

pub tree_row-requires : goal.tree_row-requires
tree_row-requires c = laws.row-asks (laws.stored-ready c.requires) c.loop-row.invariant (omega arith) _ c.loop-row.auto.sums

pub returns-then-not-tree_row : goal.returns-then-not-tree_row
returns-then-not-tree_row c =
    let ready = laws.stored-ready c.requires in
    let rejected = c.if-not-tree_row.true in
    record {
      tested = laws.refused ready c.loop-row.invariant (omega arith) c.tree_row.ensures rejected;
      fitted = λ e. never e;
      kept = laws.past-stored (laws.refused-past ready c.loop-row.invariant (omega arith) c.tree_row.ensures rejected);
    }

pub loop-row-preserved : goal.loop-row-preserved
loop-row-preserved c =
    laws.progressed (laws.stored-ready c.requires) c.loop-row.invariant (omega arith) c.tree_row.ensures c.if-not-tree_row.false

pub returns : goal.returns
returns c =
    let done = c.loop-row.invariant in
    let all : c.loop-row.row ≡ length c.args.quotes.now = omega arith in
    record {
      tested = laws.complete-accepted c.args.state_prices.now all done;
      fitted = λ _. laws.complete c.args.state_prices.now all done;
      kept = laws.complete-past c.args.state_prices.now all done;
    }
