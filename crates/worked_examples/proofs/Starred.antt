-- Every starred figure holds.
-- Assumes nothing.
use mathlib.Core.Path.{refl}
use Rattle.lattice.specs.Shape.{highest_node}
use Rattle.lattice.specs.Branching.{branching, z_of, up_formula, middle_formula, down_formula, up_probability, middle_probability, down_probability}
use Rattle.spacing.proofs.Examples as spacings
use Rattle.factor.proofs.Examples as factors
use Rattle.figure.proofs.Examples as floats
use Rattle.quotes.proofs.Examples as quotes
use Rattle.step_rate.proofs.Examples as rates
use Rattle.text_laws.proofs.Examples as text
use Rattle.worked_examples.specs.Examples.{Examples}

pub examples : Examples
unfolding highest_node branching z_of up_formula middle_formula down_formula up_probability middle_probability down_probability
examples =
    record {
      highest-at-1840 = refl;
      highest-at-1841 = refl;
      highest-at-1000 = refl;
      ordinary-node = refl;
      edge-node = refl;
      spacing-yearly = spacings.spacing-yearly;
      spacing-monthly = spacings.spacing-monthly;
      spacing-none = spacings.spacing-none;
      factor-below = factors.factor-below-at-one;
      factor-above = factors.factor-above-at-one;
      negative-float = floats.negative-figure;
      half-float = floats.half-figure;
      rate-discount = quotes.rate-discount;
      small-rate = rates.small-rate;
      small-rate-printed = text.small-rate-figure;
    }
