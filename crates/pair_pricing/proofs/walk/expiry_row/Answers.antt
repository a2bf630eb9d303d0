use Rattle.std.proofs.Common.{refl, arith}
use Rattle.pair_laws.proofs.SquareRows.{row_fits, expiry-from}
use Rattle.pair_pricing.proofs.walk.expiry_row.Goals as goal

pub exercise_square-requires : goal.exercise_square-requires
exercise_square-requires c =
    (omega (arith, c.lines_of.ensures, row_fits c.args.trees.rate c.args.row c.requires.1), omega arith, omega arith)

pub returns : goal.returns
returns c =
    expiry-from c.args.trees.rate c.args.trees.spread c.args.row _ c.args.terms.call c.args.terms.strike c.args.flow _ c.fill.new.self
    c.args.bond.now c.requires.1 c.lines_of.ensures (λ k h. c.fill.ensures.clones k 0 (omega arith) refl) c.exercise_square.ensures
