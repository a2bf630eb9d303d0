use native.Mathlib.Omega.{arith}
use borrow.Author.Rules.{rules}
use Rattle.pair_laws.specs.inside.Accepted.{roll_of}
use Rattle.pair_laws.specs.inside.Square.{square}
use Rattle.pair_laws.proofs.SquareRows.{row_fits, option-from}
use Rattle.pair_pricing.proofs.walk.option_row.Goals as goal

pub exercise_square-requires : goal.exercise_square-requires
exercise_square-requires c = (
  omega (
    arith,
    c.lines_of.ensures,
    row_fits c.args.trees.rate c.args.row (omega (arith, c.requires.0.few, c.requires.2)),
  ),
  search rules,
  search rules,
)

pub returns : goal.returns
returns c =
    let t = c.args.trees in
    let m = c.args.terms in
    record {
      rolled = option-from t.rate t.spread c.args.row _ c.args.listed m.call m.strike c.args.flow _
          c.roll_row.new.memory
          c.args.bond.now
          (roll_of t.rate t.spread c.args.rates.now c.args.spreads.now c.args.row (square c.args.option.now))
          (omega (arith, c.requires.0.few, c.requires.2)) c.lines_of.ensures c.exercise_square.ensures c.roll_row.ensures;
      found = c.greatest_of_row.ensures;
    }
