-- A row's step over parts of the memories: what it asks, and what it leaves in the whole memories.
-- Assumes nothing.
use mathlib.Core.Path.{◌≡◌, refl, sym, ◌∙◌, ap}
use mathlib.Core.Bool.{Bool, true, false}
use mathlib.Core.List.{List, ◌++◌}
use Prim.Native.Nat.{ℕ, ◌+◌, ◌-◌, ◌/◌, ◌≤◌}
use native.Mathlib.Nat.{add-sub_cancel_left}
use native.Mathlib.Omega.{arith}
use lib.ListN.{length, take, drop}
use lib.Seq.{take_at, drop_at, length-take-le, drop-drop}
use Rattle.arithmetic.specs.Row.{row, values, place, each}
use Rattle.arithmetic.proofs.PartLaws.{part-is, part_length}
use Rattle.arithmetic.proofs.RowLaws.{row-cong, values-row, length-row}
use Rattle.tree.specs.Tree.{incoming, probability_total}
use Rattle.row_branches.specs.inside.Transitions.{row_transition}
use Rattle.limits.specs.Limits.{is_discount}
use Rattle.fit_laws.specs.Step.{carried, next_state_price}
use Rattle.fitting.specs.inside.Rows.{RowStepped, RowFitted, part_values, row_discounts}
use Rattle.fitting.specs.inside.Preconditions.{StepReady, RowReady}
use Rattle.fitting.proofs.StepRows.{never}

-- a memory with k places from place a on replaced, as lending a part leaves it
abbrev pub replaced : ℕ → ℕ → List ℕ → List ℕ → List ℕ
replaced a k xs ys = take a xs ++ (ys ++ drop k (drop a xs))

replaced-place : (a n : ℕ) (xs ys : List ℕ) → length ys ≡ n → replaced a (a + n - a) xs ys ≡ place xs a ys
unfolding place
replaced-place a n xs ys e =
    ap (λ (k : ℕ). take a xs ++ (ys ++ drop k (drop a xs))) (add-sub_cancel_left a n)
    ∙ ap (λ (l : List ℕ). take a xs ++ (ys ++ l)) (drop-drop n a xs ∙ ap (λ (k : ℕ). drop (a + k) xs) (sym e))

-- a part of n places from place a on, as lending has it
abbrev pub lent : ℕ → ℕ → List ℕ → List ℕ
lent a n l = take (a + n - a) (drop a l)

lent-part-length : (l : List ℕ) (a n : ℕ) → a + n ≤ length l → length (lent a n l) ≡ n
lent-part-length l a n h = ap length (part-is l a n) ∙ part_length l a n h

-- what lies past the part is as it was
place-past : (m part : List ℕ) (a n : ℕ) → length part ≡ n → a ≤ length m → drop (a + n) (place m a part) ≡ drop (a + n) m
unfolding place
place-past m part a n e h =
    sym (drop-drop n a (take a m ++ (part ++ drop (a + length part) m)))
    ∙ ap (drop n) (drop_at (take a m) (part ++ drop (a + length part) m) a (length-take-le a m h))
    ∙ drop_at part (drop (a + length part) m) n e
    ∙ ap (λ (k : ℕ). drop (a + k) m) e

module _ {at next quote : ℕ} {factors downs discounts state-prices sums : List ℕ}
    (ready : RowReady at next quote factors downs discounts state-prices sums) where
  plain-length : length (take (length factors) (drop at state-prices)) ≡ length factors
  plain-length = part_length state-prices at (length factors) (omega (arith, ready.room-state-prices))

  lent-state-prices : length (lent at (length factors) state-prices) ≡ length factors
  lent-state-prices = lent-part-length state-prices at (length factors) (omega (arith, ready.room-state-prices))

  lent-discounts : length (lent at (length factors) discounts) ≡ length factors
  lent-discounts = lent-part-length discounts at (length factors) ready.room-discounts

  pub front_length : length (take next sums) ≡ next
  front_length = length-take-le next sums ready.room-sums

  asked : StepReady quote (take (length factors) (drop at state-prices)) factors downs (length factors) next
  asked =
      record {
        factors-bounded = rw plain-length ready.factors-bounded;
        downs-length = ready.downs-length ∙ sym plain-length;
        discounts-length = sym plain-length;
        branches-inside = rw plain-length ready.branches-inside;
        branches-total = rw plain-length ready.branches-total;
        row-sum-least = rw plain-length ready.row-sum-least;
        row-sum-most = rw plain-length ready.row-sum-most;
        quote-within-limit = ready.quote-within-limit;
      }

  pub row-asks : StepReady quote (lent at (length factors) state-prices) factors downs (length (lent at (length factors) discounts)) (length (take next sums))
  row-asks = rw (part-is state-prices at (length factors), lent-discounts, front_length) asked

  -- the row's own step, over the parts that were lent
  module _ {d' s' : List ℕ} {r : Bool}
      (step : RowStepped quote (length (take next sums)) (lent at (length factors) state-prices) factors downs d' s' r)
      (long : length d' ≡ length (lent at (length factors) discounts)) where
    row-tested : r ≡ each (length factors) (λ k. is_discount (row_discounts at (length factors) quote (values factors) state-prices k))
    row-tested = step.tested ∙ rw (lent-state-prices, part-is state-prices at (length factors))

    placed : replaced at (at + length factors - at) discounts d' ≡ place discounts at d'
    placed = replaced-place at (length factors) discounts d' (long ∙ lent-discounts)

    row-filled : r ≡ true → replaced at (at + length factors - at) discounts d'
        ≡ place discounts at (row (length factors) (row_discounts at (length factors) quote (values factors) state-prices))
    row-filled t = placed ∙ ap (place discounts at) (step.filled t ∙ rw (lent-state-prices, part-is state-prices at (length factors)))

    row_kept : drop (at + length factors) (replaced at (at + length factors - at) discounts d') ≡ drop (at + length factors) discounts
    row_kept =
        ap (drop (at + length factors)) placed
        ∙ place-past discounts d' at (length factors) (long ∙ lent-discounts) (omega (arith, ready.room-discounts))

    -- a discount was not accepted
    pub row-refused : r ≡ false → RowFitted at (length factors) next quote (values factors) (row_transition downs next)
        discounts state-prices (replaced at (at + length factors - at) discounts d') state-prices false
    row-refused e = record { tested = sym e ∙ row-tested; filled = λ t. never t; kept = row_kept; stepped = refl }

    -- all were
    module _ (t : r ≡ true) where
      sums-known : s' ≡ row next (incoming (row_transition downs next) (length factors)
          (carried (part_values at (length factors) state-prices) (row_discounts at (length factors) quote (values factors) state-prices)))
      sums-known = step.spreads t ∙ rw (front_length, lent-state-prices, part-is state-prices at (length factors))

      sums-length : length s' ≡ next
      sums-length = ap length sums-known ∙ length-row next _

      front-is : take next (s' ++ drop next sums) ≡ s'
      front-is = take_at s' (drop next sums) next sums-length

      pub front-again : length (take next (s' ++ drop next sums)) ≡ next
      front-again = ap length front-is ∙ sums-length

      next-length : length (lent (at + length factors) next state-prices) ≡ next
      next-length = lent-part-length state-prices (at + length factors) next ready.room-state-prices

      pub divide-asks : length (take next (s' ++ drop next sums)) ≡ length (lent (at + length factors) next state-prices)
      divide-asks = front-again ∙ sym next-length

      module _ {p' : List ℕ}
          (divided : p' ≡ row (length (lent (at + length factors) next state-prices))
          (λ j. values (take next (s' ++ drop next sums)) j / probability_total)) where
        next-state-prices : p' ≡ row next
            (next_state_price (row_transition downs next) (length factors) (part_values at (length factors) state-prices)
            (row_discounts at (length factors) quote (values factors) state-prices))
        unfolding next_state_price
        next-state-prices =
            divided ∙ rw (next-length, front-is)
            (row-cong next _ _ (λ j h. ap (λ (x : ℕ). x / probability_total) (ap (λ (l : List ℕ). values l j) sums-known ∙ values-row next j _ h)))

        pub row-accepted : RowFitted at (length factors) next quote (values factors) (row_transition downs next) discounts state-prices
            (replaced at (at + length factors - at) discounts d')
            (replaced (at + length factors) (at + length factors + next - (at + length factors)) state-prices p') true
        row-accepted =
            record {
              tested = sym t ∙ row-tested;
              filled = λ _. row-filled t;
              kept = row_kept;
              stepped =
                  replaced-place (at + length factors) next state-prices p' (ap length divided ∙ length-row _ _ ∙ next-length)
                  ∙ ap (place state-prices (at + length factors)) next-state-prices;
            }
