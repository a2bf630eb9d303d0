-- Engine and exact pricer row by row, and the entries' answers by them.
-- Assumes nothing.
use mathlib.Core.Path.{◌≡◌, refl, sym, ap, ◌∙◌}
use mathlib.Core.List.{List}
use Prim.Native.Nat.{ℕ}
use lib.ListN.{length}
use Rattle.arithmetic.specs.Row.{values}
use Rattle.arithmetic.proofs.PaddedLaws.{padded-length, padded-at, padded-after}
use Rattle.limits.specs.Limits.{most_steps}
use Rattle.tree.specs.Tree.{Tree}
use Rattle.lattice.specs.RateTree.{rate_tree}
use Rattle.lent_tree.specs.LentTree.{stored, discounts_cause}
use Rattle.lent_tree.proofs.LentLaws.{accepted}
use Rattle.pricing_laws.specs.TreePricer.{greatest_discount}
use Rattle.pricing_laws.specs.Pricer.{Side}
use Rattle.pricing_laws.proofs.Recurrences as rows
use Rattle.price_bound.specs.PriceBound.{tree_error_bound, greatest_discounts, tree_bounds_answer}
use Rattle.price_bound.proofs.BoundLaws.{bounds-number, bounds-bound, bounds-greatest}
use Rattle.price_laws.specs.Prices.{bond_value, option_value}
use Rattle.price_laws.specs.Exact.{exact_bond, exact_option, exact_dated, exact_payoff}
use Rattle.price_laws.proofs.Accuracy as prices
use Rattle.promises.specs.Promises.{EngineRows, ExactRows, BoundRows, BoundsKnown, PricedByRows}

module _ (t : Tree) (discount : ℕ → ℕ → ℕ) (flow : ℕ → ℕ) (n : ℕ) (side : Side) (strike expiry : ℕ) where
  pub engine-kept : EngineRows t discount flow n side strike expiry
  engine-kept =
      record {
        bond-last = rows.engine-bond-last t discount flow n;
        bond-before = rows.engine-bond-before t discount flow n;
        bare-before = rows.engine-bare-before t discount flow n;
        option-last = rows.engine-option-last t discount flow n side strike expiry;
        listed-before = rows.engine-listed-before t discount flow n side strike expiry;
        unlisted-before = rows.engine-unlisted-before t discount flow n side strike expiry;
        european-before = rows.engine-european-before t discount flow n side strike expiry;
        american-before = rows.engine-american-before t discount flow n side strike expiry;
      }

  pub exact-kept : ExactRows t discount flow n side strike expiry
  exact-kept =
      record {
        bond-last = rows.exact-bond-last t discount flow n;
        bond-before = rows.exact-bond-before t discount flow n;
        bare-before = rows.exact-bare-before t discount flow n;
        option-last = rows.exact-option-last t discount flow n side strike expiry;
        listed-before = rows.exact-listed-before t discount flow n side strike expiry;
        unlisted-before = rows.exact-unlisted-before t discount flow n side strike expiry;
        european-before = rows.exact-european-before t discount flow n side strike expiry;
        american-before = rows.exact-american-before t discount flow n side strike expiry;
        payoff-last = rows.exact-payoff-last t discount flow n;
        payoff-before = rows.exact-payoff-before t discount flow n;
      }

pub bound-kept : (t : Tree) (discount : ℕ → ℕ → ℕ) (n : ℕ) → BoundRows t discount n
unfolding greatest_discount
bound-kept t discount n =
    record {
      greatest-of-row = λ i. refl;
      last = rows.price-error-bound-last t discount n;
      before = rows.price-error-bound-before t discount n;
    }

pub bounds-kept : (n b : ℕ) (discounts : List ℕ) → (tree_bounds_answer n b discounts).number ≡ 0 → BoundsKnown n b discounts (tree_bounds_answer n b discounts)
unfolding tree_error_bound greatest_discounts
bounds-kept n b discounts z =
    let none : discounts_cause n b discounts ≡ 0 = sym (bounds-number n b discounts) ∙ z in
    let few = (accepted n b discounts none).limits.steps-within-limit in
    let g = greatest_discount (rate_tree b) (stored b discounts) in
    let by_Row = bounds-greatest n b discounts none in
    record {
      bound-is = bounds-bound n b discounts none;
      places = ap length by_Row ∙ padded-length most_steps n g;
      greatest-is = λ i h. ap (λ (l : List ℕ). values l i) by_Row ∙ padded-at most_steps n g i few h;
      none-past = λ i h. ap (λ (l : List ℕ). values l i) by_Row ∙ padded-after most_steps n g i h;
    }

pub priced-kept : (n b : ℕ) (discounts flows : List ℕ) → PricedByRows n b discounts flows
unfolding bond_value option_value tree_error_bound exact_bond exact_option exact_dated exact_payoff
priced-kept n b discounts flows =
    record {
      bond-is = λ z. (prices.bond-given n b discounts flows z).value;
      bond-bound = λ z. (prices.bond-given n b discounts flows z).bound;
      option_is = λ kind expiry strike z. (prices.option-given n b discounts flows kind expiry strike z).value;
      option-bound = λ kind expiry strike z. (prices.option-given n b discounts flows kind expiry strike z).bound;
      dated-is = λ side dates strike z. (prices.dated-given n b discounts flows side dates strike z).value;
      dated-bound = λ side dates strike z. (prices.dated-given n b discounts flows side dates strike z).bound;
      exact-bond-is = refl;
      exact-option-is = λ kind expiry strike. refl;
      exact-dated-is = λ side dates strike. refl;
      exact-payoff-is = λ r payoffs. refl;
    }
