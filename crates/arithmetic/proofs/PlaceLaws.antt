-- Laws of a list placed in a memory.
-- Assumes nothing.
use mathlib.Core.Path.{◌≡◌, sym, ap, ◌∙◌}
use mathlib.Core.List.{List}
use Prim.Native.Nat.{ℕ, ◌+◌, ◌-◌, ◌≤◌, ◌<◌}
use native.Mathlib.Nat.{zero-add}
use native.Mathlib.Omega.{arith}
use lib.ListN.{length, take, length-append, length-drop, get_or-append}
use lib.Seq.{take_at, length-take-le, get_or-append-add, get_or-drop, ext_get_or}
use Rattle.arithmetic.specs.Row.{row, values, place}
use Rattle.arithmetic.proofs.Numbers.{by_order}
use Rattle.arithmetic.proofs.RowLaws.{Filled, length-row, values-row}

module _ (memory : List ℕ) (start : ℕ) (part : List ℕ) (fits : start + length part ≤ length memory) where
  front : length (take start memory) ≡ start
  front = length-take-le start memory (omega arith)

  pub length-place : length (place memory start part) ≡ length memory
  unfolding place
  length-place = simp (length-append, length-drop, front) (omega arith)

  pub place_inside : (k : ℕ) → k < length part → values (place memory start part) (start + k) ≡ values part k
  unfolding place
  place_inside k h =
      ap (λ (n : ℕ). values (place memory start part) (n + k)) (sym front)
      ∙ get_or-append-add (take start memory) _ k 0
      ∙ get_or-append part _ 0 k h

  pub place_after : (k : ℕ) → start + length part ≤ k → values (place memory start part) k ≡ values memory k
  unfolding place
  place_after k h =
      let m = k - start - length part in
      let e : start + (length part + m) ≡ k = omega arith in
      let e' : start + length part + m ≡ k = omega arith in
      ap (λ (n : ℕ). values (place memory start part) n) (sym e)
      ∙ ap (λ (n : ℕ). values (place memory start part) (n + (length part + m))) (sym front)
      ∙ get_or-append-add (take start memory) _ (length part + m) 0
      ∙ get_or-append-add part _ m 0
      ∙ get_or-drop (start + length part) memory m 0
      ∙ ap (λ (n : ℕ). values memory n) e'

-- a memory whose first n places were filled holds the row of n values at its start
pub filled-place : (l₀ l : List ℕ) (f : ℕ → ℕ) (n : ℕ) → Filled l₀ l f n → n ≤ length l₀ → l ≡ place l₀ 0 (row n f)
filled-place l₀ l f n s h =
    ext_get_or 0 l (place l₀ 0 (row n f)) (s.same ∙ sym (length-place l₀ 0 (row n f) fits))
    (λ k i. by_order n k (λ p. past k p) (λ p. inside k p))
  where
    long : length (row n f) ≡ n
    long = length-row n f

    fits : 0 + length (row n f) ≤ length l₀
    fits = omega (arith, long)

    inside : (k : ℕ) → k < n → values l k ≡ values (place l₀ 0 (row n f)) k
    inside k p =
        s.done k p
        ∙ sym (values-row n k f p)
        ∙ sym (place_inside l₀ 0 (row n f) fits k (omega (arith, long)))
        ∙ ap (λ (m : ℕ). values (place l₀ 0 (row n f)) m) (zero-add k)

    past : (k : ℕ) → n ≤ k → values l k ≡ values (place l₀ 0 (row n f)) k
    past k p = s.rest k p ∙ sym (place_after l₀ 0 (row n f) fits k (omega (arith, long)))

-- a list placed at the start of a memory is the memory's first part
pub place-front : (memory part : List ℕ) (n : ℕ) → length part ≡ n → take n (place memory 0 part) ≡ part
unfolding place
place-front memory part n e = take_at part _ n e
