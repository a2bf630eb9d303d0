-- Every worked figure of request (ix) of document 02 holds.
-- Assumes nothing.
use mathlib.Core.Path.{◌≡◌, refl, ap, ◌∙◌}
use Rattle.arithmetic.specs.Sum.{sum}
use Rattle.lattice.specs.Shape.{highest_node, half_width, node_count, row_start, discounts_needed}
use Rattle.reversion.proofs.ReversionLaws.{working-first}
use Rattle.reversion.proofs.Examples as reversions
use Rattle.spacing.proofs.Examples as spacings
use Rattle.worked_examples.specs.Versions.{Versions}

highest-wide : highest_node 1840 ≡ 2
unfolding highest_node
highest-wide = refl

highest-narrow : highest_node 1841 ≡ 1
unfolding highest_node
highest-narrow = refl

first-size : discounts_needed 60 103 ≡ 1878
unfolding discounts_needed row_start node_count half_width highest_node sum
first-size = refl

second-size : discounts_needed 60 102 ≡ 1960
unfolding discounts_needed row_start node_count half_width highest_node sum
second-size = refl

pub versions : Versions
versions =
    let f = reversions.examples in
    record {
      least = f.least;
      last-same = f.last-same;
      first-less = f.first-less;
      middle = f.middle;
      greatest = f.greatest;
      none-greater = reversions.working-greatest;
      last-wide = f.last-wide;
      first-narrow = f.first-narrow;
      highest-wide = ap highest_node f.last-wide ∙ highest-wide;
      highest-narrow = ap highest_node f.first-narrow ∙ highest-narrow;
      first-size = ap (discounts_needed 60) (working-first 103) ∙ first-size;
      second-size = ap (discounts_needed 60) f.wider-tree ∙ second-size;
      ratio = f.ratio;
      spacing-yearly = spacings.version-yearly;
    }
