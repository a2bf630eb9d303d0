-- One step of each of the two moves, over plain lists, and the zeros that are written afterwards.
-- Assumes nothing.
use mathlib.Core.Path.{◌≡◌, sym, ap, ◌∙◌}
use Prim.Native.Nat.{ℕ, suc, ◌+◌, ◌-◌, ◌≤◌, ◌<◌}
use mathlib.Core.List.{List, [], ◌∷◌, ◌++◌, append-nil}
use native.Mathlib.Omega.{arith}
use native.Mathlib.Numerals.{add-one}
use lib.ListN.{length, take, drop, get_or, set, length-append, length-drop, get_or-append, take-append-drop, drop_of_length-le}
use lib.Seq.{length-take-le, take_all, take-suc, drop-cons, append_snoc, get_or-append-add, set_at, take_at, drop_at, get_or-take, get_or-drop}
use lib.Seq.{take-append-le, take-take}
use Rattle.arithmetic.specs.Row.{place}
use Rattle.arithmetic.proofs.RowLaws.{length-row}
use Rattle.shelf_laws.specs.Parts.{zeros}

-- ---- upwards: `k` is the next place to move from, counted down
module _ (m : List ℕ) (count : ℕ) (fits : count ≤ length m) where
  pub up_start : m ≡ take (length m - count + count) m ++ drop (length m - count) (take (length m - count) m)
  up_start =
      let n : length (take (length m - count) m) ≡ length m - count = length-take-le (length m - count) m (omega arith) in
      let e : length m - count + count ≡ length m = omega arith in
      sym (rw (e, take_all (length m) m (omega arith), drop_of_length-le (take (length m - count) m) {i = length m - count} (omega arith)) (append-nil m))

  pub up_step : (s : List ℕ) (k : ℕ) → k + count < length m → s ≡ take (suc k + count) m ++ drop (suc k) (take (length m - count) m) →
      set s (k + count) (get_or s k 0) ≡ take (k + count) m ++ drop k (take (length m - count) m)
  up_step s k h p =
      let t = take (length m - count) m in
      let long : length t ≡ length m - count = length-take-le (length m - count) m (omega arith) in
      let e : suc k + count ≡ suc (k + count) = omega arith in
      let q : s ≡ take (k + count) m ++ (get_or m (k + count) 0 ∷ drop (suc k) t) =
      p ∙ rw (e, take-suc m (k + count) 0 h) (append_snoc (take (k + count) m) (get_or m (k + count) 0) (drop (suc k) t)) in
      let front : length (take (suc k + count) m) ≡ suc k + count = length-take-le (suc k + count) m (omega arith) in
      let v : get_or s k 0 ≡ get_or m k 0 =
      ap (λ (l : List ℕ). get_or l k 0) p
      ∙ get_or-append (take (suc k + count) m) (drop (suc k) t) 0 k (rw front (omega arith))
      ∙ get_or-take (suc k + count) m k 0 (omega arith) in
      let w : drop k t ≡ get_or m k 0 ∷ drop (suc k) t =
      drop-cons t k 0 (omega arith) ∙ ap (λ (x : ℕ). x ∷ drop (suc k) t) (get_or-take (length m - count) m k 0 (omega arith)) in
      rw (v, q, w)
      (set_at (take (k + count) m) (get_or m (k + count) 0) (drop (suc k) t) (get_or m k 0) (k + count) (length-take-le (k + count) m (omega arith)))

-- ---- downwards: `k` is the next place to move to
module _ (m : List ℕ) (at count : ℕ) (fits : at + count ≤ length m) where
  front : length (take at m) ≡ at
  front = length-take-le at m (omega arith)

  pub rest-length : length (take at m ++ drop (at + count) m) ≡ length m - count
  rest-length = simp (length-append, length-drop, front) (omega arith)

  pub down-start : m ≡ take at (take at m ++ drop (at + count) m) ++ drop at m
  down-start = sym (rw (take_at (take at m) (drop (at + count) m) at front) (take-append-drop at m))

  rest_at : (k : ℕ) → at ≤ k → get_or (take at m ++ drop (at + count) m) k 0 ≡ get_or m (k + count) 0
  rest_at k h =
      let e : at + (k - at) ≡ k = omega arith in
      let e' : at + count + (k - at) ≡ k + count = omega arith in
      ap (λ (n : ℕ). get_or (take at m ++ drop (at + count) m) n 0) (sym e)
      ∙ ap (λ (n : ℕ). get_or (take at m ++ drop (at + count) m) (n + (k - at)) 0) (sym front)
      ∙ get_or-append-add (take at m) (drop (at + count) m) (k - at) 0
      ∙ get_or-drop (at + count) m (k - at) 0
      ∙ ap (λ (n : ℕ). get_or m n 0) e'

  pub down_step : (s : List ℕ) (k : ℕ) → at ≤ k → k + count < length m → s ≡ take k (take at m ++ drop (at + count) m) ++ drop k m →
      set s k (get_or s (k + count) 0) ≡ take (k + 1) (take at m ++ drop (at + count) m) ++ drop (k + 1) m
  down_step s k h l p =
      let t = take at m ++ drop (at + count) m in
      let n : length (take k t) ≡ k = length-take-le k t (rw rest-length (omega arith)) in
      let v : get_or s (k + count) 0 ≡ get_or m (k + count) 0 =
      ap (λ (x : List ℕ). get_or x (k + count) 0) p
      ∙ ap (λ (i : ℕ). get_or (take k t ++ drop k m) (i + count) 0) (sym n)
      ∙ get_or-append-add (take k t) (drop k m) count 0
      ∙ get_or-drop k m count 0 in
      let q : s ≡ take k t ++ (get_or m k 0 ∷ drop (suc k) m) = p ∙ ap (λ (x : List ℕ). take k t ++ x) (drop-cons m k 0 (omega arith)) in
      let w : take (suc k) t ≡ take k t ++ (get_or m (k + count) 0 ∷ []) =
      take-suc t k 0 (rw rest-length (omega arith)) ∙ ap (λ (x : ℕ). take k t ++ (x ∷ [])) (rest_at k h) in
      rw (v, q, add-one, w)
      (set_at (take k t) (get_or m k 0) (drop (suc k) m) (get_or m (k + count) 0) k n
      ∙ sym (append_snoc (take k t) (get_or m (k + count) 0) (drop (suc k) m)))

  pub down-end : (k : ℕ) → k ≡ length m - count → take k (take at m ++ drop (at + count) m) ≡ take at m ++ drop (at + count) m
  down-end k e = take_all k (take at m ++ drop (at + count) m) (rw rest-length (omega arith))

-- ---- zeros written where room was made, and at the end
pub opened-is : (m : List ℕ) (at count : ℕ) (d : List ℕ) → at + count ≤ length m →
    place (take (at + count) m ++ d) at (zeros count) ≡ take at m ++ (zeros count ++ d)
unfolding place
opened-is m at count d fits =
    let n : length (take (at + count) m) ≡ at + count = length-take-le (at + count) m fits in
    let z : length (zeros count) ≡ count = length-row count _ in
    let front : take at (take (at + count) m ++ d) ≡ take at m =
    take-append-le at (take (at + count) m) d (rw n (omega arith)) ∙ take-take at (at + count) m (omega arith) in
    rw (z, front, drop_at (take (at + count) m) d (at + count) n)

pub closed_is : (t d : List ℕ) (at count : ℕ) → length t ≡ at → length d ≡ count → place (t ++ d) at (zeros count) ≡ t ++ zeros count
unfolding place
closed_is t d at count n l =
    let z : length (zeros count) ≡ count = length-row count _ in
    let long : length (t ++ d) ≡ at + count = length-append t d ∙ omega arith in
    rw (z, take_at t d at n, drop_of_length-le (t ++ d) {i = at + count} (omega arith)) (ap (λ (x : List ℕ). t ++ x) (append-nil (zeros count)))
