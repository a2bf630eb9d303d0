-- The state of a loop that goes back row by row, for any pricer in whole billionths: what the code holds of bond and option, and that no
-- value so far is above the limit. v is what the code holds at a node.
-- Assumes nothing.
use mathlib.Core.Path.{◌≡◌, sym, ap, ap₂, ◌∙◌}
use Prim.Native.Nat.{ℕ, suc, ◌+◌, ◌-◌, ◌≤◌, ◌<◌}
use native.Mathlib.Nat.{le_refl}
use native.Mathlib.Omega.{arith}
use Rattle.pricing_laws.specs.Pricer.{rounded, bond, bare_bond, Side, exercise, exercise_row, Schedule, held_or_exercised, option}
use Rattle.limits.specs.Limits.{value_limit}
use Rattle.pricing_laws.specs.Peak.{peak}
use Rattle.pricing_laws.proofs.Peaks.{peak-last, peak-before, row-in-peak}
use Rattle.pricing_laws.proofs.Recurrences.{bond-last, bond-before, bare-bond-before, bond-of-bare, option-last, option-before}

-- What the laws use of the greatest value of a row.
pub record Greatest {Node : Type 0} (Stands : ℕ → Node → Type 0) (top : ℕ → (Node → ℕ) → ℕ) : Type 0 where
  pub at_most : (i : ℕ) (v : Node → ℕ) (k : Node) → Stands i k → v k ≤ top i v
  pub bounded : (i : ℕ) (v : Node → ℕ) (g : ℕ) → ((k : Node) → Stands i k → v k ≤ g) → top i v ≤ g
  pub same : (i : ℕ) (v w : Node → ℕ) → ((k : Node) → Stands i k → v k ≡ w k) → top i v ≡ top i w

-- What they use of a roll: it depends on the values of the next row's nodes alone.
pub record Local {Node : Type 0} (Stands : ℕ → Node → Type 0) (roll : ℕ → (Node → ℕ) → Node → ℕ) : Type 0 where
  pub roll-same :
      (i : ℕ) (v w : Node → ℕ) → ((k : Node) → Stands (suc i) k → v k ≡ w k) → (k : Node) → Stands i k → roll i v k ≡ roll i w k

-- The states carry no proof, so that a loop's invariant can name them.
module _ {Node : Type 0} (n : ℕ) (Stands : ℕ → Node → Type 0) (top : ℕ → (Node → ℕ) → ℕ) (roll : ℕ → (Node → ℕ) → Node → ℕ) (flow : ℕ → ℕ) where
  -- the bond at row i
  pub record Bond-state (i : ℕ) (v : Node → ℕ) : Type 0 where
    pub in_tree : i ≤ n
    pub held : (k : Node) → Stands i k → v k ≡ bond (rounded roll) flow n i k
    pub within-limit : peak (λ r. top r (bond (rounded roll) flow n r)) n i ≤ value_limit

  -- the option at row i
  pub record Option-state (side : Side) (strike : ℕ) (rows : Schedule) (i : ℕ) (v : Node → ℕ) : Type 0 where
    pub before_last : i ≤ rows.last
    pub held : (k : Node) → Stands i k → v k ≡ option (rounded roll) flow n side strike rows i k
    pub within-limit : peak (λ r. top r (option (rounded roll) flow n side strike rows r)) rows.last i ≤ value_limit

module _ {Node : Type 0} (n : ℕ) (Stands : ℕ → Node → Type 0) (top : ℕ → (Node → ℕ) → ℕ) (great : Greatest Stands top)
    (roll : ℕ → (Node → ℕ) → Node → ℕ) (local : Local Stands roll) (flow : ℕ → ℕ) where
  abbrev pub bond-top : ℕ → ℕ
  bond-top i = top i (bond (rounded roll) flow n i)

  abbrev pub Bonds : ℕ → (Node → ℕ) → Type 0
  Bonds = Bond-state n Stands top roll flow

  -- no value of the row is above the limit
  pub bond-limit : (i : ℕ) (v : Node → ℕ) → Bonds i v → (k : Node) → Stands i k → v k ≤ value_limit
  bond-limit i v s k hk =
      omega (
        arith,
        s.held k hk,
        great.at_most i (bond (rounded roll) flow n i) k hk,
        row-in-peak bond-top n i s.in_tree,
        s.within-limit,
      )

  -- row n
  pub bond-first : (v : Node → ℕ) → flow n ≤ value_limit → ((k : Node) → Stands n k → v k ≡ flow n) → Bonds n v
  bond-first v h e =
      record {
        in_tree = le_refl n;
        held = λ k hk. e k hk ∙ sym (bond-last (rounded roll) flow n k);
        within-limit =
            omega (
              arith,
              peak-last bond-top n,
              great.bounded n (bond (rounded roll) flow n n) value_limit (λ k hk. omega (arith, bond-last (rounded roll) flow n k)),
            );
      }

  -- one row back
  module _ (i : ℕ) (v : Node → ℕ) (hi : i < n) (s : Bonds (suc i) v) (w : Node → ℕ)
      (step : (k : Node) → Stands i k → w k ≡ roll i v k + flow i) (found : ℕ) (ef : found ≡ top i w) where
    pub bond-held : (k : Node) → Stands i k → w k ≡ bond (rounded roll) flow n i k
    bond-held k hk =
        step k hk
        ∙ ap (λ (x : ℕ). x + flow i) (local.roll-same i v (bond (rounded roll) flow n (suc i)) s.held k hk)
        ∙ sym (bond-before (rounded roll) flow n i hi k)

    found-top : found ≡ bond-top i
    found-top = ef ∙ great.same i w _ bond-held

    pub bond-over : value_limit < found → value_limit < peak bond-top n i
    bond-over h = omega (arith, found-top, row-in-peak bond-top n i (omega arith))

    pub bond-step : found ≤ value_limit → Bonds i w
    bond-step h =
        record {
          in_tree = omega arith;
          held = bond-held;
          within-limit = omega (arith, found-top, peak-before bond-top n i hi, s.within-limit);
        }

  -- the option at row i, beside the bond
  module _ (side : Side) (strike : ℕ) (rows : Schedule) where
    abbrev pub option-top : ℕ → ℕ
    option-top i = top i (option (rounded roll) flow n side strike rows i)

    abbrev pub Options : ℕ → (Node → ℕ) → Type 0
    Options = Option-state n Stands top roll flow side strike rows

    pub option-limit : (i : ℕ) (v : Node → ℕ) → Options i v → (k : Node) → Stands i k → v k ≤ value_limit
    option-limit i v s k hk =
        omega (
          arith,
          s.held k hk,
          great.at_most i (option (rounded roll) flow n side strike rows i) k hk,
          row-in-peak option-top rows.last i s.before_last,
          s.within-limit,
        )

    -- the exercise value, from what the code holds: the bond less the row's flow, or the bond before its flow is added
    exercise-held :
        (i : ℕ) (k : Node) (x : ℕ) → x ≡ bare_bond (rounded roll) flow n i k → exercise side strike x ≡ exercise_row (rounded roll) flow n side strike i k
    unfolding exercise_row
    exercise-held i k x e = ap (exercise side strike) e

    exercise-less-flow :
        (i : ℕ) (k : Node) (x : ℕ) → x ≡ bond (rounded roll) flow n i k →
        exercise side strike (x - flow i) ≡ exercise_row (rounded roll) flow n side strike i k
    exercise-less-flow i k x e = exercise-held i k (x - flow i) (omega (arith, e, bond-of-bare (rounded roll) flow n i k))

    -- at expiry: the exercise values, none above the limit
    pub option-first :
        (v w : Node → ℕ) → Bonds rows.last v → ((k : Node) → Stands rows.last k → w k ≡ exercise side strike (v k - flow rows.last)) →
        ((k : Node) → Stands rows.last k → w k ≤ value_limit) → Options rows.last w
    option-first v w s step h =
        let held : (k : Node) → Stands rows.last k → w k ≡ option (rounded roll) flow n side strike rows rows.last k
        = λ k hk. step k hk ∙ exercise-less-flow rows.last k (v k) (s.held k hk) ∙ sym (option-last (rounded roll) flow n side strike rows k) in
        record {
          before_last = le_refl _;
          held = held;
          within-limit =
              omega (
                arith,
                peak-last option-top rows.last,
                great.bounded rows.last (option (rounded roll) flow n side strike rows rows.last) value_limit
                    (λ k hk. omega (arith, held k hk, h k hk)),
              );
        }

    -- one row back, with the bond's later row
    module _ (i : ℕ) (v : Node → ℕ) (hi : i < rows.last) (s : Options (suc i) v) (bonds : Node → ℕ) (bs : Bonds (suc i) bonds) (w : Node → ℕ)
        (step : (k : Node) → Stands i k → w k ≡ held_or_exercised (rows.listed i) (roll i v k) (exercise side strike (roll i bonds k)))
        (found : ℕ) (ef : found ≡ top i w) where
      bare-held : (k : Node) → Stands i k → roll i bonds k ≡ bare_bond (rounded roll) flow n i k
      bare-held k hk =
          local.roll-same i bonds (bond (rounded roll) flow n (suc i)) bs.held k hk
          ∙ sym (bare-bond-before (rounded roll) flow n i (omega (arith, bs.in_tree)) k)

      option-held : (k : Node) → Stands i k → w k ≡ option (rounded roll) flow n side strike rows i k
      option-held k hk =
          step k hk
          ∙ ap₂ (held_or_exercised (rows.listed i))
          (local.roll-same i v (option (rounded roll) flow n side strike rows (suc i)) s.held k hk)
          (exercise-held i k (roll i bonds k) (bare-held k hk))
          ∙ sym (option-before (rounded roll) flow n side strike rows i hi k)

      found-option : found ≡ option-top i
      found-option = ef ∙ great.same i w _ option-held

      pub option-over : value_limit < found → value_limit < peak option-top rows.last i
      option-over h = omega (arith, found-option, row-in-peak option-top rows.last i (omega arith))

      pub option-step : found ≤ value_limit → Options i w
      option-step h =
          record {
            before_last = omega arith;
            held = option-held;
            within-limit = omega (arith, found-option, peak-before option-top rows.last i hi, s.within-limit);
          }
