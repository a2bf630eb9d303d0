-- When two trees, their lent discounts and their flows are refused (document 02, request (xiii)). Of the rate tree n, b and rates, of the spread
-- tree m, c and spreads.
-- Assumes nothing.
use Rattle.std.specs.Prelude.{ℕ, zero, suc, min, ◌≤◌, Bool, cond, ◌&&◌, List, eqb, leb, ltb}
use Rattle.arithmetic.specs.Row.{each}
use Rattle.arithmetic.specs.Answers.{lowest_cause, first_cause}
use Rattle.limits.specs.Limits.{most_discount, is_steps}
use Rattle.lattice.specs.Shape.{node_count}
use Rattle.lattice.specs.RateTree.{rate_tree}
use Rattle.lent_tree.specs.LentTree.{stored, discounts_cause, Accepted}
use Rattle.price_causes.specs.Causes.{flows_cause}
use Rattle.pair_laws.specs.Pair.{Pair, at, combined}

-- n of two trees together: 1 to 20
abbrev pub most_pair_steps : ℕ
most_pair_steps = 20

-- 3: either n outside 1 to 60; 19: n above 20, or the trees differ in n
unfoldable pub pair_steps_cause : ℕ → ℕ → ℕ
pair_steps_cause n m = cond (is_steps n && is_steps m) (cond (leb n most_pair_steps && eqb n m) 0 19) 3

-- the discount of a pair of lent trees
abbrev pub pair_discount : ℕ → ℕ → List ℕ → List ℕ → ℕ → Pair → ℕ
pair_discount b c rates spreads = combined (rate_tree b) (rate_tree c) (stored b rates) (stored c spreads)

-- no discount of a pair of row i is 0
unfoldable pub discounted : ℕ → ℕ → List ℕ → List ℕ → ℕ → Bool
discounted b c rates spreads i = each (node_count b i) (λ j. each (node_count c i) (λ l. ltb 0 (pair_discount b c rates spreads i (at j l))))

-- 9: a pair of one row whose discount is 0
unfoldable pub combined_cause : ℕ → ℕ → ℕ → List ℕ → List ℕ → ℕ
combined_cause n b c rates spreads = cond (each n (discounted b c rates spreads)) 0 9

-- 3, 4, 6, 9 of either tree, lowest number first; then 9 of a pair
unfoldable pub pair_discounts_cause : ℕ → ℕ → List ℕ → ℕ → ℕ → List ℕ → ℕ
pair_discounts_cause n b rates m c spreads =
    first_cause (lowest_cause (discounts_cause n b rates) (discounts_cause m c spreads)) (combined_cause n b c rates spreads)

-- 3 and 19; then 4, 6, 9 and 10, lowest number first; 0 where there is none
unfoldable pub pair_cause : ℕ → ℕ → List ℕ → ℕ → ℕ → List ℕ → List ℕ → ℕ
pair_cause n b rates m c spreads flows =
    first_cause (pair_steps_cause n m) (lowest_cause (pair_discounts_cause n b rates m c spreads) (flows_cause n flows))

-- the least of the first n values, or 1,100,000,000 where they are all above it
unfoldable pub least : ℕ → (ℕ → ℕ) → ℕ
least zero f = most_discount
least (suc n) f = min (least n f) (f n)

-- both trees after the causes were tested
pub record AcceptedTrees (n b c : ℕ) (rates spreads : List ℕ) : Type 0 where
  pub rate-tree : Accepted n b rates
  pub spread-tree : Accepted n c spreads
  pub few : n ≤ most_pair_steps
