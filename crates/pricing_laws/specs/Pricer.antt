-- Prices by backward induction (document 01, Prices). One definition serves the engine and the exact pricer: a pricer is a roll and the way
-- in which it holds amounts of money.
-- Assumes nothing.
use Rattle.std.specs.Prelude.{ℕ, zero, suc, ◌+◌, ◌-◌, ◌*◌, ◌^◌, max, Bool, true, false}
use Rattle.arithmetic.specs.Rounding.{one, round_up}

-- roll i v k: the value at node k of row i of values v on the next row.
-- scaled s x: the amount x on a row from which s rows are left to the last one.
pub record Pricer (Node : Type 0) : Type 0 where
  pub roll : ℕ → (Node → ℕ) → Node → ℕ
  pub scaled : ℕ → ℕ → ℕ

-- whole billionths
abbrev pub rounded : {Node : Type 0} → (ℕ → (Node → ℕ) → Node → ℕ) → Pricer Node
rounded roll = record { roll = roll; scaled = λ s x. x }

-- exact fractions: each roll multiplies the denominator by unit
abbrev pub fractions : {Node : Type 0} → ℕ → (ℕ → (Node → ℕ) → Node → ℕ) → Pricer Node
fractions unit roll = record { roll = roll; scaled = λ s x. x * unit ^ s }

-- Bond: the flow at row n; before, the roll plus the row's flow. Row 0 has none: flow 0 is 0.
module _ {Node : Type 0} (p : Pricer Node) (flow : ℕ → ℕ) where
  -- with the flow of its row, at row i with s rows left
  unfoldable pub bond_from : ℕ → ℕ → Node → ℕ
  bond_from zero i = λ k. p.scaled 0 (flow i)
  bond_from (suc s) i = λ k. p.roll i (bond_from s (suc i)) k + p.scaled (suc s) (flow i)

  -- without the flow of its row; at row n the bond is then repaid
  unfoldable pub bare_bond_from : ℕ → ℕ → Node → ℕ
  bare_bond_from zero i = λ k. 0
  bare_bond_from (suc s) i = p.roll i (bond_from s (suc i))

  -- with and without the flow of row i, of a bond that ends at row n
  unfoldable pub bond : ℕ → ℕ → Node → ℕ
  bond n i = bond_from (n - i) i

  unfoldable pub bare_bond : ℕ → ℕ → Node → ℕ
  bare_bond n i = bare_bond_from (n - i) i

-- Payoffs on a row, rolled back without flows: the value at row i of payoffs on row i + s.
module _ {Node : Type 0} (p : Pricer Node) (payoff : Node → ℕ) where
  unfoldable pub payoff_value : ℕ → ℕ → Node → ℕ
  payoff_value zero i = λ k. p.scaled 0 (payoff k)
  payoff_value (suc s) i = p.roll i (payoff_value s (suc i))

pub data Side : Type 0 where
  call put : Side

-- exercise value: bond less strike, or strike less bond, at least 0
unfoldable pub exercise : Side → ℕ → ℕ → ℕ
exercise call strike bond = bond - strike
exercise put strike bond = strike - bond

-- The rows on which an option may be exercised: its last row (expiry), and which of those before it.
pub record Schedule : Type 0 where
  pub last : ℕ
  pub listed : ℕ → Bool

-- before expiry: on a row that is listed the larger of roll and exercise, on any other the roll
unfoldable pub held_or_exercised : Bool → ℕ → ℕ → ℕ
held_or_exercised true roll now = max roll now
held_or_exercised false roll now = roll

-- The option on a bond that ends at row n.
module _ {Node : Type 0} (p : Pricer Node) (flow : ℕ → ℕ) (n : ℕ) (side : Side) (strike : ℕ) where
  -- the exercise value at row i: on the bond without the flow of its row, which stays with the seller (document 02, request (ii))
  unfoldable pub exercise_row : ℕ → Node → ℕ
  exercise_row i = λ k. exercise side (p.scaled (n - i) strike) (bare_bond p flow n i k)

  -- at row i, with s rows left to expiry
  unfoldable pub option_from : (ℕ → Bool) → ℕ → ℕ → Node → ℕ
  option_from listed zero i = exercise_row i
  option_from listed (suc s) i = λ k. held_or_exercised (listed i) (p.roll i (option_from listed s (suc i)) k) (exercise_row i k)

  unfoldable pub option : Schedule → ℕ → Node → ℕ
  option rows i = option_from rows.listed (rows.last - i) i

-- The error bound of prices (document 01: price allowance), with the greatest discount of each row: 0 at row n, then greatest × later bound
-- / one, up, plus a loss for each step.
module _ (loss : ℕ) (greatest : ℕ → ℕ) where
  unfoldable pub error_bound_from : ℕ → ℕ → ℕ
  error_bound_from zero i = 0
  error_bound_from (suc s) i = round_up (greatest i * error_bound_from s (suc i)) one + loss

  unfoldable pub error_bound : ℕ → ℕ → ℕ
  error_bound n i = error_bound_from (n - i) i
