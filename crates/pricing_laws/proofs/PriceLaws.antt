-- The engine's prices against the exact ones, on every sound tree with discounts of at most 1,100,000,000.
-- Assumes nothing.
use mathlib.Core.Path.{◌≡◌, ap}
use Prim.Native.Nat.{ℕ, suc, ◌+◌, ◌*◌, ◌^◌, ◌≤◌, ◌<◌}
use native.Mathlib.Nat.{mul_assoc, mul-le-mul_right, le_trans}
use native.Mathlib.Omega.{arith}
use lib.Dec.{lit≤}
use Rattle.arithmetic.specs.Rounding.{one, Rounds}
use Rattle.arithmetic.specs.Within.{Within}
use Rattle.arithmetic.specs.Sum.{greatest}
use Rattle.arithmetic.proofs.RoundingLaws.{nearest-rounds}
use Rattle.arithmetic.proofs.SumLaws.{greatest-ge, greatest-le, greatest-cong}
use Rattle.tree.specs.Tree.{Tree, Sound, outgoing, probability_total, unit}
use Rattle.tree.proofs.StepLaws.{outgoing-le}
use Rattle.pricing_laws.specs.Pricer.{bond, Side, Schedule, option}
use Rattle.pricing_laws.specs.TreePricer.{roll_rounding, roll_loss, node_roll, roll, exact_roll, engine, exact, greatest_discount, price_error_bound}
use Rattle.pricing_laws.proofs.Near.{near-average, near-discount}
use Rattle.pricing_laws.proofs.Accuracy.{Close, bond-within, option-within, loss-a-step}
use Rattle.pricing_laws.proofs.Ceiling.{ceiling, error-bound-ceiling}
use Rattle.pricing_laws.proofs.Backward.{Greatest, Local}
use Rattle.pricing_laws.proofs.Rights.{Monotone, monotone-local}

-- node k is one of row i
abbrev pub On : Tree → ℕ → ℕ → Type 0
On t i k = k < t.nodes i

-- the discounts of a tree of n steps are at most g
abbrev pub Discounts-at-most : ℕ → Tree → (ℕ → ℕ → ℕ) → ℕ → Type 0
Discounts-at-most g t discount n = (i k : ℕ) → i < n → k < t.nodes i → discount i k ≤ g

-- what the two roundings of a roll cost, in half billionths times one
abbrev pub cost : ℕ → (ℕ → ℕ) → ℕ → ℕ
cost halves greatest i = greatest i * halves + one * halves

-- the rounding of the engine's rolls, in half billionths: at most 1 from the exact quotient, either way
pub roll-rounds : Rounds roll_rounding 1 1
roll-rounds = nearest-rounds

-- One roll step, under any rounding: values near the exact ones give values near the exact ones.
pub roll-close :
    (divide : ℕ → ℕ → ℕ) (over under : ℕ) → Rounds divide over under → (t : Tree) → Sound t → (discount : ℕ → ℕ → ℕ) (n : ℕ) →
    Close n unit (On t) (roll t discount divide) (exact_roll t discount) (greatest_discount t discount)
    (cost over (greatest_discount t discount)) (cost under (greatest_discount t discount))
unfolding roll node_roll exact_roll greatest_discount
roll-close divide over under rounds t sound discount n =
    record {
      roll-near = λ i hi v x l u l' u' M hl hu near k hk.
          let e : M * probability_total * one ≡ M * unit = mul_assoc M probability_total one in
          rw (← e)
          (near-discount divide over under rounds (l + over) (u + under) l' u' (M * probability_total) _ _ (discount i k) _
          (greatest-ge (t.nodes i) (discount i) k hk) (omega arith) (omega arith)
          (near-average divide over under rounds (t.step i) (t.nodes i) (t.nodes (suc i)) (sound.inside i) (sound.total i) v x l u M near k hk));
    }

-- the sum over the branches of a node keeps order
expected-monotone : (t : Tree) → Sound t → Monotone (On t) (λ i v k. outgoing (t.step i) v k)
expected-monotone t sound =
    record { roll-le = λ i v w h k hk. outgoing-le (t.step i) (t.nodes i) (t.nodes (suc i)) (sound.inside i) v w k hk h }

-- so does the roll, under any rounding
pub roll-monotone :
    (divide : ℕ → ℕ → ℕ) (over under : ℕ) → Rounds divide over under → (t : Tree) → Sound t → (discount : ℕ → ℕ → ℕ) →
    Monotone (On t) (roll t discount divide)
unfolding roll node_roll
roll-monotone divide over under rounds t sound discount =
    record {
      roll-le = λ i v w h k hk.
          let sums = (expected-monotone t sound).roll-le i v w h k hk in
          rounds.monotone _ _ one (omega arith)
          (mul-le-mul_right (discount i k) (rounds.monotone _ _ probability_total (omega arith) sums));
    }

-- and so the engine's, whatever its rounding
pub engine-monotone : (t : Tree) → Sound t → (discount : ℕ → ℕ → ℕ) → Monotone (On t) (engine t discount).roll
engine-monotone t sound discount = roll-monotone roll_rounding _ _ roll-rounds t sound discount

-- a roll depends on the values of the next row's nodes alone
pub roll-same :
    (t : Tree) → Sound t → (discount : ℕ → ℕ → ℕ) (divide : ℕ → ℕ → ℕ) (i : ℕ) (v w : ℕ → ℕ) → ((j : ℕ) → j < t.nodes (suc i) → v j ≡ w j) →
    (k : ℕ) → k < t.nodes i → roll t discount divide i v k ≡ roll t discount divide i w k
unfolding roll node_roll
roll-same t sound discount divide i v w h k hk =
    ap (λ (s : ℕ). divide (divide s probability_total * discount i k) one) ((monotone-local (On t) _ (expected-monotone t sound)).roll-same i v w h k hk)

-- a loss a step covers the two roundings, where 2,100,000,000 times the rounding's halves are at most twice the loss in billionths
cost-covered :
    (t : Tree) (discount : ℕ → ℕ → ℕ) (n loss halves : ℕ) → Discounts-at-most 1100000000 t discount n → 2100000000 * halves ≤ one * (2 * loss) →
    (i : ℕ) → i < n → cost halves (greatest_discount t discount) i ≤ one * (2 * loss)
unfolding greatest_discount
cost-covered t discount n loss halves hd h i hi =
    omega (arith, mul-le-mul_right halves (greatest-le (t.nodes i) (discount i) 1100000000 (λ k l. hd i k hi l)))

module _ (t : Tree) (sound : Sound t) (discount : ℕ → ℕ → ℕ) (n : ℕ) (hd : Discounts-at-most 1100000000 t discount n) (flow : ℕ → ℕ) where
  -- the bond's price is within its error bound
  pub bond-accurate :
      Within (price_error_bound t discount n 0) (unit ^ n) (bond (engine t discount) flow n 0 0) (bond (exact t discount) flow n 0 0)
  bond-accurate =
      bond-within n unit roll_loss (On t) (roll-close roll_rounding 1 1 roll-rounds t sound discount n)
      (cost-covered t discount n roll_loss 1 hd (omega arith)) (cost-covered t discount n roll_loss 1 hd (omega arith)) flow 0
      (omega (arith, sound.root))

  -- the option's price is within the same error bound, whatever its schedule
  pub option-accurate :
      (side : Side) (strike : ℕ) (rows : Schedule) → rows.last ≤ n →
      Within (price_error_bound t discount n 0) (unit ^ n)
      (option (engine t discount) flow n side strike rows 0 0) (option (exact t discount) flow n side strike rows 0 0)
  option-accurate side strike rows h =
      option-within n unit roll_loss (On t) (roll-close roll_rounding 1 1 roll-rounds t sound discount n)
      (cost-covered t discount n roll_loss 1 hd (omega arith)) (cost-covered t discount n roll_loss 1 hd (omega arith)) flow side strike rows h 0
      (omega (arith, sound.root))

-- what the laws of a walk back use: the greatest value of a row, and that a roll is local
pub row-greatest : (t : Tree) → Greatest (On t) (λ i v. greatest (t.nodes i) v)
row-greatest t =
    record {
      at_most = λ i v k hk. greatest-ge (t.nodes i) v k hk;
      bounded = λ i v g h. greatest-le (t.nodes i) v g h;
      same = λ i v w h. greatest-cong (t.nodes i) v w h;
    }

pub roll-local : (t : Tree) → Sound t → (discount : ℕ → ℕ → ℕ) (divide : ℕ → ℕ → ℕ) → Local (On t) (roll t discount divide)
roll-local t sound discount divide = record { roll-same = λ i v w h k hk. roll-same t sound discount divide i v w h k hk }

ceiling-60 : ceiling 110 60 ≤ 1000000
unfolding ceiling
ceiling-60 = lit≤ tt

-- the error bound of every row of at most 60 steps is small
pub error-bound-small :
    (t : Tree) (discount : ℕ → ℕ → ℕ) (n : ℕ) → Discounts-at-most 1100000000 t discount n → n ≤ 60 → (i : ℕ) → i ≤ n →
    price_error_bound t discount n i ≤ 1000000
unfolding greatest_discount
error-bound-small t discount n hd few i h =
    le_trans
    (error-bound-ceiling 110 (greatest_discount t discount) n
    (λ r hr. greatest-le (t.nodes r) (discount r) 1100000000 (λ k l. hd r k hr l)) (omega arith) 60 few i h)
    ceiling-60

-- where no discount is above one: at most 2 a step
pub error-bound-a-step :
    (t : Tree) (discount : ℕ → ℕ → ℕ) (n : ℕ) → Discounts-at-most one t discount n → price_error_bound t discount n 0 ≤ 2 * n
unfolding greatest_discount
error-bound-a-step t discount n h =
    loss-a-step 2 (greatest_discount t discount) n (λ i hi. greatest-le (t.nodes i) (discount i) one (λ k l. h i k hi l))
