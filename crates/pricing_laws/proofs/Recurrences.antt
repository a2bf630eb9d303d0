-- The definitions row by row, in document 01's words: for any pricer, then for the engine and for the exact pricer.
-- Assumes nothing.
use mathlib.Core.Path.{◌≡◌, refl, ◌∙◌}
use mathlib.Core.Bool.{true, false}
use mathlib.Core.List.{[], ◌∷◌}
use Prim.Native.Nat.{ℕ, zero, suc, ◌+◌, ◌-◌, ◌*◌, ◌^◌, ◌≤◌, ◌<◌, max}
use native.Mathlib.Nat.{sub_self}
use native.Mathlib.Omega.{arith}
use lib.ListN.{length}
use Rattle.arithmetic.specs.Rounding.{one, nearest, round_up}
use Rattle.arithmetic.specs.Row.{values}
use Rattle.arithmetic.proofs.RowLaws.{length-row, values-row}
use Rattle.tree.specs.Tree.{Tree, outgoing, unit}
use Rattle.pricing_laws.specs.Pricer.{Pricer, bond_from, bare_bond_from, bond, bare_bond, error_bound_from, error_bound}
use Rattle.pricing_laws.specs.Pricer.{Side, call, put, exercise, exercise_row, Schedule, held_or_exercised}
use Rattle.pricing_laws.specs.Pricer.{option_from, option, payoff_value}
use Rattle.pricing_laws.specs.Schedule.{european, american, numbered_side, every_row, side_of, kind_dates, kind_side, schedule_of}
use Rattle.pricing_laws.specs.TreePricer.{node_roll, roll, exact_roll, engine, exact, greatest_discount, price_error_bound}
use Rattle.pricing_laws.proofs.Dates.{european-last, european-listed, american-last, american-listed}

module _ {Node : Type 0} (p : Pricer Node) (flow : ℕ → ℕ) (n : ℕ) where
  -- row n is its flow
  pub bond-last : (k : Node) → bond p flow n n k ≡ p.scaled 0 (flow n)
  unfolding bond bond_from
  bond-last k = rw sub_self

  -- an earlier row is the rolled value plus its flow
  pub bond-before : (i : ℕ) → i < n → (k : Node) → bond p flow n i k ≡ p.roll i (bond p flow n (suc i)) k + p.scaled (n - i) (flow i)
  unfolding bond bond_from
  bond-before i h k = let e : n - i ≡ suc (n - suc i) = omega arith in rw e

  -- without its flow: the rolled value
  pub bare-bond-before : (i : ℕ) → i < n → (k : Node) → bare_bond p flow n i k ≡ p.roll i (bond p flow n (suc i)) k
  unfolding bare_bond bare_bond_from bond
  bare-bond-before i h k = let e : n - i ≡ suc (n - suc i) = omega arith in rw e

  -- with its flow it is the bond, at row n too, where nothing is left without it
  bare-bond-at : (s i : ℕ) (k : Node) → n - i ≡ s → bond p flow n i k ≡ bare_bond p flow n i k + p.scaled (n - i) (flow i)
  unfolding bare_bond bare_bond_from bond bond_from
  bare-bond-at zero i k e = rw e (omega arith)
  bare-bond-at (suc s) i k e = rw e

  pub bond-of-bare : (i : ℕ) (k : Node) → bond p flow n i k ≡ bare_bond p flow n i k + p.scaled (n - i) (flow i)
  bond-of-bare i k = bare-bond-at (n - i) i k refl

  module _ (side : Side) (strike : ℕ) (rows : Schedule) where
    -- at expiry: the exercise value
    pub option-last : (k : Node) → option p flow n side strike rows rows.last k ≡ exercise_row p flow n side strike rows.last k
    unfolding option option_from
    option-last k = rw (sub_self rows.last)

    -- earlier: the larger on listed rows, the roll on others
    pub option-before :
        (i : ℕ) → i < rows.last → (k : Node) →
        option p flow n side strike rows i k
        ≡ held_or_exercised (rows.listed i) (p.roll i (option p flow n side strike rows (suc i)) k) (exercise_row p flow n side strike i k)
    unfolding option option_from
    option-before i h k = let e : rows.last - i ≡ suc (rows.last - suc i) = omega arith in rw e

    module _ (i : ℕ) (h : i < rows.last) (k : Node) where
      -- a listed row takes the larger
      pub listed-before :
          rows.listed i ≡ true →
          option p flow n side strike rows i k ≡ max (p.roll i (option p flow n side strike rows (suc i)) k) (exercise_row p flow n side strike i k)
      unfolding held_or_exercised
      listed-before e = option-before i h k ∙ rw e

      -- any other the roll
      pub unlisted-before : rows.listed i ≡ false → option p flow n side strike rows i k ≡ p.roll i (option p flow n side strike rows (suc i)) k
      unfolding held_or_exercised
      unlisted-before e = option-before i h k ∙ rw e

module _ (loss : ℕ) (greatest : ℕ → ℕ) (n : ℕ) where
  pub error-bound-last : error_bound loss greatest n n ≡ 0
  unfolding error_bound error_bound_from
  error-bound-last = rw sub_self

  pub error-bound-before : (i : ℕ) → i < n → error_bound loss greatest n i ≡ round_up (greatest i * error_bound loss greatest n (suc i)) one + loss
  unfolding error_bound error_bound_from
  error-bound-before i h = let e : n - i ≡ suc (n - suc i) = omega arith in rw e

-- kinds 1 European call, 2 European put, 3 American call, 4 American put
pub sides : (side_of 1 ≡ call) × (side_of 2 ≡ put) × (side_of 3 ≡ call) × (side_of 4 ≡ put)
unfolding side_of
sides = (refl, refl, refl, refl)

pub schedules :
    (expiry : ℕ) →
    (schedule_of 1 expiry ≡ european expiry) × (schedule_of 2 expiry ≡ european expiry)
    × (schedule_of 3 expiry ≡ american expiry) × (schedule_of 4 expiry ≡ american expiry)
unfolding schedule_of kind_dates european american
schedules expiry = (refl, refl, refl, refl)

-- their lists: expiry alone, or every row from 0 to it; and their sides as a dated option has them, 1 call, 2 put
pub kind-lists :
    (expiry : ℕ) →
    (kind_dates 1 expiry ≡ expiry ∷ []) × (kind_dates 2 expiry ≡ expiry ∷ []) × (kind_dates 3 expiry ≡ every_row expiry) × (kind_dates 4 expiry ≡ every_row expiry)
unfolding kind_dates
kind-lists expiry = (refl, refl, refl, refl)

pub kind-sides : (kind_side 1 ≡ 1) × (kind_side 2 ≡ 2) × (kind_side 3 ≡ 1) × (kind_side 4 ≡ 2)
unfolding kind_side
kind-sides = (refl, refl, refl, refl)

pub numbered-sides : (numbered_side 1 ≡ call) × (numbered_side 2 ≡ put)
unfolding numbered_side
numbered-sides = (refl, refl)

pub every-row-is : (expiry : ℕ) → (length (every_row expiry) ≡ suc expiry) × ((i : ℕ) → i ≤ expiry → values (every_row expiry) i ≡ i)
every-row-is expiry = (length-row (suc expiry) (λ i. i), λ i h. values-row (suc expiry) i (λ i. i) (omega arith))

-- exercise value: bond less strike, or strike less bond, at least 0
pub exercise-values : (strike price : ℕ) → (exercise call strike price ≡ price - strike) × (exercise put strike price ≡ strike - price)
unfolding exercise
exercise-values strike price = (refl, refl)

-- The engine: sum of probability × later value, divided by 600,000,000, nearest; then × discount / one, nearest.
module _ (t : Tree) (discount : ℕ → ℕ → ℕ) (flow : ℕ → ℕ) (n : ℕ) where
  pub engine-bond-last : (k : ℕ) → bond (engine t discount) flow n n k ≡ flow n
  engine-bond-last k = bond-last (engine t discount) flow n k

  pub engine-bond-before :
      (i : ℕ) → i < n → (k : ℕ) →
      bond (engine t discount) flow n i k
      ≡ nearest (nearest (outgoing (t.step i) (bond (engine t discount) flow n (suc i)) k) 600000000 * discount i k) one + flow i
  unfolding roll node_roll
  engine-bond-before i h k = bond-before (engine t discount) flow n i h k

  pub engine-bare-before :
      (i : ℕ) → i < n → (k : ℕ) →
      bare_bond (engine t discount) flow n i k
      ≡ nearest (nearest (outgoing (t.step i) (bond (engine t discount) flow n (suc i)) k) 600000000 * discount i k) one
  unfolding roll node_roll
  engine-bare-before i h k = bare-bond-before (engine t discount) flow n i h k

  module _ (side : Side) (strike expiry : ℕ) where
    pub engine-option-last :
        (rows : Schedule) (k : ℕ) →
        option (engine t discount) flow n side strike rows rows.last k ≡ exercise side strike (bare_bond (engine t discount) flow n rows.last k)
    unfolding exercise_row
    engine-option-last rows k = option-last (engine t discount) flow n side strike rows k

    pub engine-listed-before :
        (rows : Schedule) (i : ℕ) → i < rows.last → rows.listed i ≡ true → (k : ℕ) →
        option (engine t discount) flow n side strike rows i k
        ≡ max (nearest (nearest (outgoing (t.step i) (option (engine t discount) flow n side strike rows (suc i)) k) 600000000 * discount i k) one)
        (exercise side strike (bare_bond (engine t discount) flow n i k))
    unfolding roll node_roll exercise_row
    engine-listed-before rows i h e k = listed-before (engine t discount) flow n side strike rows i h k e

    pub engine-unlisted-before :
        (rows : Schedule) (i : ℕ) → i < rows.last → rows.listed i ≡ false → (k : ℕ) →
        option (engine t discount) flow n side strike rows i k
        ≡ nearest (nearest (outgoing (t.step i) (option (engine t discount) flow n side strike rows (suc i)) k) 600000000 * discount i k) one
    unfolding roll node_roll
    engine-unlisted-before rows i h e k = unlisted-before (engine t discount) flow n side strike rows i h k e

    -- so European rolls before expiry, American takes the larger
    pub engine-european-before :
        (i : ℕ) → i < expiry → (k : ℕ) →
        option (engine t discount) flow n side strike (european expiry) i k
        ≡ nearest (nearest (outgoing (t.step i) (option (engine t discount) flow n side strike (european expiry) (suc i)) k) 600000000 * discount i k) one
    engine-european-before i h k =
        engine-unlisted-before (european expiry) i (omega (arith, european-last expiry)) (european-listed expiry i h) k

    pub engine-american-before :
        (i : ℕ) → i < expiry → (k : ℕ) →
        option (engine t discount) flow n side strike (american expiry) i k
        ≡ max
        (nearest (nearest (outgoing (t.step i) (option (engine t discount) flow n side strike (american expiry) (suc i)) k) 600000000 * discount i k) one)
        (exercise side strike (bare_bond (engine t discount) flow n i k))
    engine-american-before i h k =
        engine-listed-before (american expiry) i (omega (arith, american-last expiry)) (american-listed expiry i (omega arith)) k

-- The exact pricer: sum of probability × value, divided by 600,000,000, times discount, divided by one. Row i is held times m^(n - i).
module _ (t : Tree) (discount : ℕ → ℕ → ℕ) (flow : ℕ → ℕ) (n : ℕ) where
  pub exact-bond-last : (k : ℕ) → bond (exact t discount) flow n n k ≡ flow n
  exact-bond-last k = bond-last (exact t discount) flow n k ∙ omega arith

  pub exact-bond-before :
      (i : ℕ) → i < n → (k : ℕ) →
      bond (exact t discount) flow n i k
      ≡ discount i k * outgoing (t.step i) (bond (exact t discount) flow n (suc i)) k + flow i * unit ^ (n - i)
  unfolding exact_roll
  exact-bond-before i h k = bond-before (exact t discount) flow n i h k

  pub exact-bare-before :
      (i : ℕ) → i < n → (k : ℕ) →
      bare_bond (exact t discount) flow n i k ≡ discount i k * outgoing (t.step i) (bond (exact t discount) flow n (suc i)) k
  unfolding exact_roll
  exact-bare-before i h k = bare-bond-before (exact t discount) flow n i h k

  module _ (side : Side) (strike expiry : ℕ) where
    pub exact-option-last :
        (rows : Schedule) (k : ℕ) →
        option (exact t discount) flow n side strike rows rows.last k
        ≡ exercise side (strike * unit ^ (n - rows.last)) (bare_bond (exact t discount) flow n rows.last k)
    unfolding exercise_row
    exact-option-last rows k = option-last (exact t discount) flow n side strike rows k

    pub exact-listed-before :
        (rows : Schedule) (i : ℕ) → i < rows.last → rows.listed i ≡ true → (k : ℕ) →
        option (exact t discount) flow n side strike rows i k
        ≡ max (discount i k * outgoing (t.step i) (option (exact t discount) flow n side strike rows (suc i)) k)
        (exercise side (strike * unit ^ (n - i)) (bare_bond (exact t discount) flow n i k))
    unfolding exact_roll exercise_row
    exact-listed-before rows i h e k = listed-before (exact t discount) flow n side strike rows i h k e

    pub exact-unlisted-before :
        (rows : Schedule) (i : ℕ) → i < rows.last → rows.listed i ≡ false → (k : ℕ) →
        option (exact t discount) flow n side strike rows i k
        ≡ discount i k * outgoing (t.step i) (option (exact t discount) flow n side strike rows (suc i)) k
    unfolding exact_roll
    exact-unlisted-before rows i h e k = unlisted-before (exact t discount) flow n side strike rows i h k e

    pub exact-european-before :
        (i : ℕ) → i < expiry → (k : ℕ) →
        option (exact t discount) flow n side strike (european expiry) i k
        ≡ discount i k * outgoing (t.step i) (option (exact t discount) flow n side strike (european expiry) (suc i)) k
    exact-european-before i h k =
        exact-unlisted-before (european expiry) i (omega (arith, european-last expiry)) (european-listed expiry i h) k

    pub exact-american-before :
        (i : ℕ) → i < expiry → (k : ℕ) →
        option (exact t discount) flow n side strike (american expiry) i k
        ≡ max (discount i k * outgoing (t.step i) (option (exact t discount) flow n side strike (american expiry) (suc i)) k)
        (exercise side (strike * unit ^ (n - i)) (bare_bond (exact t discount) flow n i k))
    exact-american-before i h k =
        exact-listed-before (american expiry) i (omega (arith, american-last expiry)) (american-listed expiry i (omega arith)) k

  -- payoffs on a row: the value on that row, and one row before
  pub exact-payoff-last : (payoff : ℕ → ℕ) (i k : ℕ) → payoff_value (exact t discount) payoff 0 i k ≡ payoff k
  unfolding payoff_value
  exact-payoff-last payoff i k = omega arith

  pub exact-payoff-before :
      (payoff : ℕ → ℕ) (s i k : ℕ) →
      payoff_value (exact t discount) payoff (suc s) i k ≡ discount i k * outgoing (t.step i) (payoff_value (exact t discount) payoff s (suc i)) k
  unfolding payoff_value exact_roll
  exact-payoff-before payoff s i k = refl

-- The error bound: 0 at row n, then G × later bound / one, up, plus 2.
module _ (t : Tree) (discount : ℕ → ℕ → ℕ) (n : ℕ) where
  pub price-error-bound-last : price_error_bound t discount n n ≡ 0
  price-error-bound-last = error-bound-last 2 (greatest_discount t discount) n

  pub price-error-bound-before :
      (i : ℕ) → i < n → price_error_bound t discount n i ≡ round_up (greatest_discount t discount i * price_error_bound t discount n (suc i)) one + 2
  price-error-bound-before i h = error-bound-before 2 (greatest_discount t discount) n i h
