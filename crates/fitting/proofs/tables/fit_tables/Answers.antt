use mathlib.Core.Path.{◌∙◌}
use native.Mathlib.Omega.{arith}
use Rattle.fitting.proofs.TableFit as laws
use Rattle.fitting.proofs.tables.fit_tables.Goals as goal

pub fill_factors-requires : goal.fill_factors-requires
fill_factors-requires c =
    (omega (arith, laws.widest-small c.requires.0), c.requires.0.spacing-within-one, c.requires.1)

pub unwrap-requires : goal.unwrap-requires
unwrap-requires c = laws.downs-ok c.requires.0 c.args.downs.now c.requires.2 c.down_probabilities.result c.down_probabilities.ensures.number

pub fit_or_clear-requires : goal.fit_or_clear-requires
fit_or_clear-requires c =
    let ready = c.requires.0 in
    record {
      tables = laws.tables-of ready _ c.requires.1 c.fill_factors.ensures c.args.downs.now c.requires.2
          c.down_probabilities.ensures.memory;
      quotes-least = ready.quotes-least;
      quotes-most = ready.quotes-most;
      room-discounts = ready.room-discounts;
      room-state-prices = ready.room-state-prices;
      room-sums = c.requires.3;
    }

pub returns : goal.returns
returns c =
    record {
      tested = c.fit_or_clear.ensures.tested ∙ laws.accepted-same c.requires.0 _ c.requires.1 c.fill_factors.ensures;
      memories = laws.fitted-same c.requires.0 _ c.requires.1 c.fill_factors.ensures c.fit_or_clear.ensures.memories;
    }
