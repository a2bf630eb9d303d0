-- Laws of lists of entries with zeros after them.
-- Assumes nothing.
use Prim.Native.Nat.{ℕ, ◌≤◌, ◌<◌}
use native.Mathlib.Omega.{arith}
use mathlib.Core.List.{List}
use mathlib.Core.Path.{◌≡◌, sym, ◌∙◌}
use borrow.Author.Tests.{lt-ltb, le-ltb}
use lib.ListN.{length, take, replicate, length-replicate, get_or-eq_default}
use lib.Seq.{get_or-take, length-take-le}
use Rattle.arithmetic.specs.Row.{row, values, overlay, padded}
use Rattle.arithmetic.proofs.Numbers.{by_order}
use Rattle.arithmetic.proofs.RowLaws.{length-row, values-row, row_of, Filled, zeros}

overlay-before : (n k : ℕ) (f g : ℕ → ℕ) → k < n → overlay n f g k ≡ f k
unfolding overlay
overlay-before n k f g h = rw (lt-ltb k n h)

overlay-after : (n k : ℕ) (f g : ℕ → ℕ) → n ≤ k → overlay n f g k ≡ g k
unfolding overlay
overlay-after n k f g h = rw (le-ltb k n h)

-- any number of places
module _ (places : ℕ) where
  -- a list that holds n entries and zeros after them
  pub padded-of :
      (l : List ℕ) (n : ℕ) (f : ℕ → ℕ) → length l ≡ places → ((k : ℕ) → k < n → values l k ≡ f k) → ((k : ℕ) → n ≤ k → values l k ≡ 0)
      → l ≡ padded places n f
  unfolding padded
  padded-of l n f e done rest =
      row_of l places (overlay n f (λ k. 0)) e
      (λ k h. by_order n k (λ a. rest k a ∙ sym (overlay-after n k f (λ j. 0) a)) (λ b. done k b ∙ sym (overlay-before n k f (λ j. 0) b)))

  -- an array of zeros, filled in a loop
  pub filled-padded : (l : List ℕ) (n : ℕ) (f : ℕ → ℕ) → Filled (replicate places 0) l f n → l ≡ padded places n f
  filled-padded l n f h = padded-of l n f (h.same ∙ length-replicate {A = ℕ} places 0) h.done (λ k a. h.rest k a ∙ zeros places k)

  pub padded-length : (n : ℕ) (f : ℕ → ℕ) → length (padded places n f) ≡ places
  unfolding padded
  padded-length n f = length-row places (overlay n f (λ k. 0))

  pub padded-at : (n : ℕ) (f : ℕ → ℕ) (k : ℕ) → n ≤ places → k < n → values (padded places n f) k ≡ f k
  unfolding padded
  padded-at n f k few h = values-row places k (overlay n f (λ j. 0)) (omega arith) ∙ overlay-before n k f (λ j. 0) h

  padded-within : (n : ℕ) (f : ℕ → ℕ) (k : ℕ) → n ≤ k → k < places → values (padded places n f) k ≡ 0
  unfolding padded
  padded-within n f k h inside = values-row places k (overlay n f (λ j. 0)) inside ∙ overlay-after n k f (λ j. 0) h

  pub padded-after : (n : ℕ) (f : ℕ → ℕ) (k : ℕ) → n ≤ k → values (padded places n f) k ≡ 0
  padded-after n f k h =
      by_order places k (λ past. get_or-eq_default (padded places n f) 0 (rw (padded-length n f) past)) (padded-within n f k h)

  -- the entries alone
  pub padded-take : (n : ℕ) (f : ℕ → ℕ) → n ≤ places → take n (padded places n f) ≡ row n f
  padded-take n f few =
      let long : length (take n (padded places n f)) ≡ n = length-take-le n (padded places n f) (rw (padded-length n f) few) in
      row_of (take n (padded places n f)) n f long (λ k below. get_or-take n (padded places n f) k 0 below ∙ padded-at n f k few below)
