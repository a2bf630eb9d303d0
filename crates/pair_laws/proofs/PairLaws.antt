-- Two trees together: the roll is close to the exact one, keeps order and is local, and with discounts of one on either side it follows the
-- other tree.
-- Assumes nothing.
use mathlib.Core.Path.{◌≡◌, ap, ap₂, ◌∙◌}
use Prim.Native.Nat.{ℕ, suc, ◌+◌, ◌*◌, ◌/◌, ◌^◌, ◌≤◌, ◌<◌}
use native.Mathlib.Nat.{mul_assoc, mul-le-mul, mul-le-mul_right, le_trans, le_refl, le_antisymm}
use native.Mathlib.Omega.{arith}
use lib.Dec.{lit≤}
use Rattle.limits.specs.Limits.{most_nodes}
use Rattle.arithmetic.specs.Rounding.{one, Rounds}
use Rattle.arithmetic.specs.Sum.{greatest}
use Rattle.arithmetic.specs.Within.{Within}
use Rattle.arithmetic.proofs.SumLaws.{greatest-ge, greatest-le}
use Rattle.tree.specs.Tree.{Tree, Transition, Sound, Inside, outgoing, probability_total}
use Rattle.tree.proofs.StepLaws.{outgoing-le, outgoing-same}
use Rattle.pricing_laws.specs.Pricer.{bond, Side, Schedule, option}
use Rattle.pricing_laws.specs.TreePricer.{roll_rounding, roll_loss, node_roll, roll}
use Rattle.pricing_laws.proofs.Near.{near-average, near-discount}
use Rattle.pricing_laws.proofs.Accuracy.{Close, bond-within, option-within, loss-a-step}
use Rattle.pricing_laws.proofs.Backward.{Local}
use Rattle.pricing_laws.proofs.Rights.{Monotone, monotone-local}
use Rattle.pricing_laws.proofs.PriceLaws.{Discounts-at-most, roll-rounds}
use Rattle.pricing_laws.proofs.Ceiling.{ceiling, error-bound-ceiling}
use Rattle.pricing_laws.proofs.Follows.{Follows}
use Rattle.pair_laws.specs.Pair.{Pair, at, Stands, pair_unit, combined, pair_roll, exact_pair_roll, pair_engine, exact_pair, greatest_combined, pair_error_bound}

-- a node's sum is decided by the values that its branches reach
pub outgoing-cong :
    (t : Transition) (n m : ℕ) → Inside t n m → (v w : ℕ → ℕ) (k : ℕ) → k < n → ((j : ℕ) → j < m → v j ≡ w j) → outgoing t v k ≡ outgoing t w k
outgoing-cong t n m inside v w k hk h =
    le_antisymm
    (outgoing-le t n m inside v w k hk (λ j hj. rw (h j hj) (le_refl _)))
    (outgoing-le t n m inside w v k hk (λ j hj. rw (h j hj) (le_refl _)))

-- what the three roundings of a roll cost, in half billionths times one: two averages are discounted, the discounting is not
abbrev pub pair-cost : ℕ → (ℕ → ℕ) → ℕ → ℕ
pair-cost halves greatest i = greatest i * (2 * halves) + one * halves

module _ (rates spreads : Tree) (rate_discount spreadDiscount : ℕ → ℕ → ℕ) where
  abbrev pub discount-at : ℕ → Pair → ℕ
  discount-at = combined rates spreads rate_discount spreadDiscount

  abbrev pub greatest-at : ℕ → ℕ
  greatest-at = greatest_combined rates spreads rate_discount spreadDiscount

  -- the discount of a pair is at most the greatest of its row
  pub combined-greatest : (i : ℕ) (k : Pair) → Stands rates spreads i k → discount-at i k ≤ greatest-at i
  unfolding greatest_combined
  combined-greatest i k s =
      le_trans
      (greatest-ge (spreads.nodes i) (λ b. discount-at i (at k.rate b)) k.spread s.on-spreads)
      (greatest-ge (rates.nodes i) (λ a. greatest (spreads.nodes i) (λ b. discount-at i (at a b))) k.rate s.on-rates)

  -- and the greatest is at most what each is
  pub greatest-combined-most :
      (g i : ℕ) → ((k : Pair) → Stands rates spreads i k → discount-at i k ≤ g) → greatest-at i ≤ g
  unfolding greatest_combined
  greatest-combined-most g i h =
      greatest-le (rates.nodes i) _ g
      (λ a ha. greatest-le (spreads.nodes i) _ g (λ b hb. h (at a b) (record { on-rates = ha; on-spreads = hb })))

  -- discounts of at most 1.1 each give at most 1.21
  pub combined-most :
      (n : ℕ) → Discounts-at-most 1100000000 rates rate_discount n → Discounts-at-most 1100000000 spreads spreadDiscount n →
      (i : ℕ) → i < n → greatest-at i ≤ 1210000000
  unfolding combined
  combined-most n hr hs i hi =
      greatest-combined-most 1210000000 i
      (λ k s. omega (arith, mul-le-mul (hr i k.rate hi s.on-rates) (hs i k.spread hi s.on-spreads)))

module _ (divide : ℕ → ℕ → ℕ) (over under : ℕ) (rounds : Rounds divide over under) (rates spreads : Tree) (sound-rates : Sound rates)
    (sound-spreads : Sound spreads) (rate_discount spreadDiscount : ℕ → ℕ → ℕ) where
  abbrev rolled : ℕ → (Pair → ℕ) → Pair → ℕ
  rolled = pair_roll rates spreads rate_discount spreadDiscount divide

  -- One roll step, under any rounding: values near the exact ones give values near the exact ones.
  pub pair-close :
      (n : ℕ) →
      Close n pair_unit (Stands rates spreads) rolled (exact_pair_roll rates spreads rate_discount spreadDiscount)
      (greatest-at rates spreads rate_discount spreadDiscount)
      (pair-cost over (greatest-at rates spreads rate_discount spreadDiscount)) (pair-cost under (greatest-at rates spreads rate_discount spreadDiscount))
  unfolding pair_roll exact_pair_roll
  pair-close n =
      record {
        roll-near = λ i hi v x l u l' u' M hl hu near k hk.
            let e : M * probability_total * probability_total * one ≡ M * pair_unit
            = mul_assoc (M * probability_total) probability_total one ∙ mul_assoc M probability_total (probability_total * one) in
            rw (← e)
            (near-discount divide over under rounds (l + over + over) (u + under + under) l' u' (M * probability_total * probability_total) _ _
            (discount-at rates spreads rate_discount spreadDiscount i k) _
            (combined-greatest rates spreads rate_discount spreadDiscount i k hk) (omega arith) (omega arith)
            (near-average divide over under rounds (spreads.step i) (spreads.nodes i) (spreads.nodes (suc i)) (sound-spreads.inside i)
            (sound-spreads.total i) _ _ (l + over) (u + under) (M * probability_total)
            (λ b hb.
            near-average divide over under rounds (rates.step i) (rates.nodes i) (rates.nodes (suc i)) (sound-rates.inside i) (sound-rates.total i)
            (λ a. v (at a b)) (λ a. x (at a b)) l u M (λ a ha. near (at a b) (record { on-rates = ha; on-spreads = hb })) k.rate hk.on-rates)
            k.spread hk.on-spreads));
      }

  pub pair-monotone : Monotone (Stands rates spreads) rolled
  unfolding pair_roll
  pair-monotone =
      record {
        roll-le = λ i v w h k hk.
            rounds.monotone _ _ one (omega arith)
            (mul-le-mul_right (discount-at rates spreads rate_discount spreadDiscount i k)
            (rounds.monotone _ _ probability_total (omega arith)
            (outgoing-le (spreads.step i) (spreads.nodes i) (spreads.nodes (suc i)) (sound-spreads.inside i) _ _ k.spread hk.on-spreads
            (λ b hb. rounds.monotone _ _ probability_total (omega arith)
            (outgoing-le (rates.step i) (rates.nodes i) (rates.nodes (suc i)) (sound-rates.inside i) (λ a. v (at a b)) (λ a. w (at a b))
            k.rate hk.on-rates (λ a ha. h (at a b) (record { on-rates = ha; on-spreads = hb })))))));
      }

  pub pair-local : Local (Stands rates spreads) rolled
  pair-local = monotone-local (Stands rates spreads) rolled pair-monotone

  -- A tree whose discounts are all one changes nothing, on either side.
  module _ (n : ℕ) where
    pub follows-rates :
        ((i k : ℕ) → i < n → k < spreads.nodes i → spreadDiscount i k ≡ one) →
        Follows n (Stands rates spreads) (λ k. k.rate) rolled (roll rates rate_discount divide)
    unfolding pair_roll roll node_roll combined
    follows-rates ones =
        record {
          roll-follows = λ i hi v w h k hk.
              let q : ℕ = divide (outgoing (rates.step i) w k.rate) probability_total in
              let c : rate_discount i k.rate * spreadDiscount i k.spread / one ≡ rate_discount i k.rate
              = rw (ones i k.spread hi hk.on-spreads) (omega arith) in
              ap₂ (λ (x y : ℕ). divide (x * y) one)
              (ap (λ (x : ℕ). divide x probability_total)
              (outgoing-same (spreads.step i) (spreads.nodes i) (spreads.nodes (suc i)) (sound-spreads.inside i) (sound-spreads.total i) _ q
              k.spread hk.on-spreads
              (λ b hb. ap (λ (x : ℕ). divide x probability_total)
              (outgoing-cong (rates.step i) (rates.nodes i) (rates.nodes (suc i)) (sound-rates.inside i) (λ a. v (at a b)) w k.rate
              hk.on-rates (λ a ha. h (at a b) (record { on-rates = ha; on-spreads = hb })))))
              ∙ rounds.exact q probability_total (omega arith))
              c;
        }

    pub follows-spreads :
        ((i k : ℕ) → i < n → k < rates.nodes i → rate_discount i k ≡ one) →
        Follows n (Stands rates spreads) (λ k. k.spread) rolled (roll spreads spreadDiscount divide)
    unfolding pair_roll roll node_roll combined
    follows-spreads ones =
        record {
          roll-follows = λ i hi v w h k hk.
              let c : rate_discount i k.rate * spreadDiscount i k.spread / one ≡ spreadDiscount i k.spread
              = rw (ones i k.rate hi hk.on-rates) (omega arith) in
              ap₂ (λ (x y : ℕ). divide (x * y) one)
              (ap (λ (x : ℕ). divide x probability_total)
              (outgoing-cong (spreads.step i) (spreads.nodes i) (spreads.nodes (suc i)) (sound-spreads.inside i) _ w k.spread
              hk.on-spreads
              (λ b hb.
              ap (λ (x : ℕ). divide x probability_total)
              (outgoing-same (rates.step i) (rates.nodes i) (rates.nodes (suc i)) (sound-rates.inside i) (sound-rates.total i)
              (λ a. v (at a b)) (w b) k.rate hk.on-rates (λ a ha. h (at a b) (record { on-rates = ha; on-spreads = hb })))
              ∙ rounds.exact (w b) probability_total (omega arith))))
              c;
        }

-- The accuracy of prices: to nearest, 2 a step.
module _ (rates spreads : Tree) (sound-rates : Sound rates) (sound-spreads : Sound spreads) (rate_discount spreadDiscount : ℕ → ℕ → ℕ) (n : ℕ)
    (hr : Discounts-at-most 1100000000 rates rate_discount n) (hs : Discounts-at-most 1100000000 spreads spreadDiscount n) where
  pub pair-root : Stands rates spreads 0 (at 0 0)
  pair-root = record { on-rates = omega (arith, sound-rates.root); on-spreads = omega (arith, sound-spreads.root) }

  pair-cost-covered : (i : ℕ) → i < n → pair-cost 1 (greatest-at rates spreads rate_discount spreadDiscount) i ≤ one * (2 * roll_loss)
  pair-cost-covered i hi = omega (arith, combined-most rates spreads rate_discount spreadDiscount n hr hs i hi)

  pub pair-bond-accurate :
      (flow : ℕ → ℕ) →
      Within (pair_error_bound rates spreads rate_discount spreadDiscount n 0) (pair_unit ^ n)
      (bond (pair_engine rates spreads rate_discount spreadDiscount) flow n 0 (at 0 0))
      (bond (exact_pair rates spreads rate_discount spreadDiscount) flow n 0 (at 0 0))
  pair-bond-accurate flow =
      bond-within n pair_unit roll_loss (Stands rates spreads)
      (pair-close roll_rounding 1 1 roll-rounds rates spreads sound-rates sound-spreads rate_discount spreadDiscount n) pair-cost-covered
      pair-cost-covered flow (at 0 0) pair-root

  pub pair-option-accurate :
      (flow : ℕ → ℕ) (side : Side) (strike : ℕ) (rows : Schedule) → rows.last ≤ n →
      Within (pair_error_bound rates spreads rate_discount spreadDiscount n 0) (pair_unit ^ n)
      (option (pair_engine rates spreads rate_discount spreadDiscount) flow n side strike rows 0 (at 0 0))
      (option (exact_pair rates spreads rate_discount spreadDiscount) flow n side strike rows 0 (at 0 0))
  pair-option-accurate flow side strike rows h =
      option-within n pair_unit roll_loss (Stands rates spreads)
      (pair-close roll_rounding 1 1 roll-rounds rates spreads sound-rates sound-spreads rate_discount spreadDiscount n) pair-cost-covered
      pair-cost-covered flow side strike rows h (at 0 0) pair-root

  -- the error bound of every row of at most 20 steps is small
  ceiling-20 : ceiling most_nodes 20 ≤ 1000000
  unfolding ceiling
  ceiling-20 = lit≤ tt

  pub pair-bound-small : n ≤ 20 → (i : ℕ) → i ≤ n → pair_error_bound rates spreads rate_discount spreadDiscount n i ≤ 1000000
  pair-bound-small few i h =
      le_trans
      (error-bound-ceiling most_nodes (greatest-at rates spreads rate_discount spreadDiscount) n
      (combined-most rates spreads rate_discount spreadDiscount n hr hs) (omega arith) 20 few i h)
      ceiling-20

-- where no discount of a pair is above one: at most 2 a step
pub pair-bound-a-step :
    (rates spreads : Tree) (rate_discount spreadDiscount : ℕ → ℕ → ℕ) (n : ℕ) →
    ((i : ℕ) (k : Pair) → i < n → Stands rates spreads i k → combined rates spreads rate_discount spreadDiscount i k ≤ one) →
    pair_error_bound rates spreads rate_discount spreadDiscount n 0 ≤ 2 * n
pair-bound-a-step rates spreads rate_discount spreadDiscount n h =
    loss-a-step roll_loss _ n (λ i hi. greatest-combined-most rates spreads rate_discount spreadDiscount one i (λ k s. h i k hi s))
