-- The promises about two trees are kept.
-- Assumes nothing.
use mathlib.Core.Path.{refl, ◌∙◌}
use mathlib.Core.List.{List}
use Prim.Native.Nat.{ℕ}
use native.Mathlib.Omega.{arith}
use Rattle.tree.specs.Tree.{Tree}
use Rattle.pricing_laws.specs.Pricer.{Side, Schedule, exercise_row}
use Rattle.pricing_laws.specs.TreePricer.{roll_loss}
use Rattle.pricing_laws.proofs.Recurrences.{bond-last, bond-before, bare-bond-before, option-last, listed-before, unlisted-before}
use Rattle.pricing_laws.proofs.Recurrences.{error-bound-last, error-bound-before}
use Rattle.pair_laws.specs.Pair.{combined, pair_roll, exact_pair_roll, pair_engine, exact_pair, greatest_combined}
use Rattle.pair_laws.specs.PairPrices.{pair_bound, pair_bond_value, pair_option_value, exact_pair_bond, exact_pair_dated}
use Rattle.pair_promises.specs.PairPromises.{PairRows, ExactPairRows, PairBoundRows, PricedByPairs, PairPromises}
use Rattle.pair_promises.proofs.Answers.{bond-given, bond-within-bound, dated-given, dated-within-bound, dates-no-less}
use Rattle.pair_promises.proofs.Answers.{bond-bound-a-step, dated-bound-a-step}
use Rattle.pair_promises.proofs.CausesKept.{pair-causes-kept}
use Rattle.pair_promises.proofs.OneTree.{bond-of-rates, dated-of-rates, bond-of-spreads, dated-of-spreads}

module _ (rates spreads : Tree) (rate_discount spreadDiscount : ℕ → ℕ → ℕ) (flow : ℕ → ℕ) (n : ℕ) (side : Side) (strike : ℕ) (rows : Schedule) where
  engine-rows : PairRows rates spreads rate_discount spreadDiscount flow n side strike rows
  unfolding pair_roll combined exercise_row
  engine-rows =
      record {
        bond-last = bond-last (pair_engine rates spreads rate_discount spreadDiscount) flow n;
        bond-before = bond-before (pair_engine rates spreads rate_discount spreadDiscount) flow n;
        bare-before = bare-bond-before (pair_engine rates spreads rate_discount spreadDiscount) flow n;
        option-last = option-last (pair_engine rates spreads rate_discount spreadDiscount) flow n side strike rows;
        listed-before = λ i h e k. listed-before (pair_engine rates spreads rate_discount spreadDiscount) flow n side strike rows i h k e;
        unlisted-before = λ i h e k. unlisted-before (pair_engine rates spreads rate_discount spreadDiscount) flow n side strike rows i h k e;
      }

  exact-rows : ExactPairRows rates spreads rate_discount spreadDiscount flow n side strike rows
  unfolding exact_pair_roll combined exercise_row
  exact-rows =
      record {
        bond-last = λ k. bond-last (exact_pair rates spreads rate_discount spreadDiscount) flow n k ∙ omega arith;
        bond-before = bond-before (exact_pair rates spreads rate_discount spreadDiscount) flow n;
        bare-before = bare-bond-before (exact_pair rates spreads rate_discount spreadDiscount) flow n;
        option-last = option-last (exact_pair rates spreads rate_discount spreadDiscount) flow n side strike rows;
        listed-before = λ i h e k. listed-before (exact_pair rates spreads rate_discount spreadDiscount) flow n side strike rows i h k e;
        unlisted-before = λ i h e k. unlisted-before (exact_pair rates spreads rate_discount spreadDiscount) flow n side strike rows i h k e;
      }

bound-rows : (rates spreads : Tree) (rate_discount spreadDiscount : ℕ → ℕ → ℕ) (n : ℕ) → PairBoundRows rates spreads rate_discount spreadDiscount n
unfolding greatest_combined combined
bound-rows rates spreads rate_discount spreadDiscount n =
    record {
      greatest-of-row = λ i. refl;
      last = error-bound-last roll_loss (greatest_combined rates spreads rate_discount spreadDiscount) n;
      before = error-bound-before roll_loss (greatest_combined rates spreads rate_discount spreadDiscount) n;
    }

priced-by-pairs : (n b : ℕ) (rates : List ℕ) (m c : ℕ) (spreads flows : List ℕ) → PricedByPairs n b rates m c spreads flows
unfolding pair_bond_value pair_option_value pair_bound exact_pair_bond exact_pair_dated
priced-by-pairs n b rates m c spreads flows =
    record {
      bond-is = λ h. (bond-given n b rates m c spreads flows h).value;
      bond-bound = λ h. (bond-given n b rates m c spreads flows h).bound;
      dated-is = λ side dates strike h. (dated-given n b rates m c spreads flows side dates strike h).value;
      dated-bound = λ side dates strike h. (dated-given n b rates m c spreads flows side dates strike h).bound;
      exact-bond-is = refl;
      exact-dated-is = λ side dates strike. refl;
    }

pub pair-kept : PairPromises
pair-kept =
    record {
      pair-rows = engine-rows;
      exact-rows = exact-rows;
      bound-rows = bound-rows;
      priced-by-pairs = priced-by-pairs;
      causes = pair-causes-kept;
      bond-accurate = bond-within-bound;
      dated-accurate = dated-within-bound;
      bond-a-step = bond-bound-a-step;
      dated-a-step =
          λ n b rates m c spreads flows side dates strike low. dated-bound-a-step n b rates m c spreads flows low side dates strike;
      bond-of-rates = bond-of-rates;
      dated-of-rates = dated-of-rates;
      bond-of-spreads = bond-of-spreads;
      dated-of-spreads = dated-of-spreads;
      dates-no-less = dates-no-less;
    }
