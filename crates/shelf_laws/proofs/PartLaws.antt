-- What a part of a memory is after another part was opened, closed or written, and what comes back of a part that was lent.
-- Assumes nothing.
use mathlib.Core.Path.{◌≡◌, refl, sym, ap, ◌∙◌}
use Prim.Native.Nat.{ℕ, ◌+◌, ◌-◌, ◌≤◌}
use mathlib.Core.List.{List, ◌++◌, append_assoc}
use native.Mathlib.Omega.{arith}
use lib.ListN.{length, take, drop, length-append, length-take, length-drop, take-append-drop}
use lib.Seq.{length-take-le, take_all, take_at, drop_at, take-append-le, drop-append-le, drop-append-add, take-take, drop-drop, take-add}
use borrow.Rule.Slice.PartMut.{mid_of, put_mid, Post-is, mid_len}
use Rattle.arithmetic.specs.Row.{place}
use Rattle.arithmetic.proofs.RowLaws.{length-row}
use Rattle.arithmetic.proofs.PlaceLaws.{length-place}
use Rattle.shelf_laws.specs.Parts.{zeros, part, opened, closed}

-- ---- parts of a list that is put together
pub part_length : (m : List ℕ) (a n : ℕ) → a + n ≤ length m → length (part m a n) ≡ n
unfolding part
part_length m a n h = simp (length-take, length-drop) (omega arith)

part_left : (p q : List ℕ) (a n : ℕ) → a + n ≤ length p → part (p ++ q) a n ≡ part p a n
unfolding part
part_left p q a n h = rw (drop-append-le a p q (omega arith)) (take-append-le n (drop a p) q (simp length-drop (omega arith)))

part_right : (p q : List ℕ) (k a n : ℕ) → length p ≡ k → part (p ++ q) (k + a) n ≡ part q a n
unfolding part
part_right p q k a n e = rw (← e, drop-append-add)

part-take : (m : List ℕ) (k a n : ℕ) → a + n ≤ k → k ≤ length m → part (take k m) a n ≡ part m a n
unfolding part
part-take m k a n h l =
    take-drop a n (take k m) (rw (length-take-le k m l) (omega arith))
    ∙ ap (drop a) (take-take (a + n) k m h)
    ∙ sym (take-drop a n m (omega arith))
  where
    take-drop : (a count : ℕ) (l : List ℕ) → a ≤ length l → take count (drop a l) ≡ drop a (take (a + count) l)
    take-drop a count l h = sym (ap (drop a) (take-add a count l) ∙ drop_at (take a l) (take count (drop a l)) a (length-take-le a l h))

part-drop : (m : List ℕ) (k a n : ℕ) → part (drop k m) a n ≡ part m (k + a) n
unfolding part
part-drop m k a n = rw drop-drop

part-whole : (m : List ℕ) (n : ℕ) → length m ≡ n → part m 0 n ≡ m
unfolding part
part-whole m n e = take_all n m (omega arith)

-- a part that is written over with itself
pub place-self : (m : List ℕ) (at count : ℕ) → at + count ≤ length m → place m at (part m at count) ≡ m
unfolding part place
place-self m at count h =
    let long : length (take count (drop at m)) ≡ count = part_length m at count h in
    rw (long, ← drop-drop count at m, take-append-drop count (drop at m)) (take-append-drop at m)

module _ (m : List ℕ) (at count : ℕ) (fits : at + count ≤ length m) where
  front : length (take at m) ≡ at
  front = length-take-le at m (omega arith)

  many : length (zeros count) ≡ count
  many = length-row count _

  -- ---- opened
  kept : length (take (length m - count) m) ≡ length m - count
  kept = length-take-le (length m - count) m (omega arith)

  pub length-opened : length (opened m at count) ≡ length m
  unfolding opened
  length-opened = simp (length-append, length-drop, front, many, kept) (omega arith)

  pub part-opened-before : (a n : ℕ) → a + n ≤ at → part (opened m at count) a n ≡ part m a n
  unfolding opened
  part-opened-before a n h = part_left (take at m) _ a n (rw front h) ∙ part-take m at a n h (omega arith)

  pub part-opened-new : part (opened m at count) at count ≡ zeros count
  unfolding opened
  part-opened-new =
      let b = drop at (take (length m - count) m) in
      let e : at + 0 ≡ at = omega arith in
      ap (λ (k : ℕ). part (opened m at count) k count) (sym e)
      ∙ part_right (take at m) (zeros count ++ b) at 0 count front
      ∙ part_left (zeros count) b 0 count (rw many (omega arith))
      ∙ part-whole (zeros count) count many

  pub part-opened-after : (a n : ℕ) → at ≤ a → a + n + count ≤ length m → part (opened m at count) (a + count) n ≡ part m a n
  unfolding opened
  part-opened-after a n h l =
      let t = take (length m - count) m in
      let e : at + (count + (a - at)) ≡ a + count = omega arith in
      let e' : at + (a - at) ≡ a = omega arith in
      ap (λ (k : ℕ). part (opened m at count) k n) (sym e)
      ∙ part_right (take at m) (zeros count ++ drop at t) at (count + (a - at)) n front
      ∙ part_right (zeros count) (drop at t) count (a - at) n many
      ∙ part-drop t at (a - at) n
      ∙ ap (λ (k : ℕ). part t k n) e'
      ∙ part-take m (length m - count) a n (omega arith) (omega arith)

  -- ---- closed
  behind : length (drop (at + count) m) ≡ length m - (at + count)
  behind = length-drop (at + count) m

  pub length-closed : length (closed m at count) ≡ length m
  unfolding closed
  length-closed = simp (length-append, length-drop, front, many) (omega arith)

  pub part-closed-before : (a n : ℕ) → a + n ≤ at → part (closed m at count) a n ≡ part m a n
  unfolding closed
  part-closed-before a n h =
      rw append_assoc (part_left (take at m) _ a n (rw front h) ∙ part-take m at a n h (omega arith))

  pub part-closed-after : (a n : ℕ) → at ≤ a → a + n + count ≤ length m → part (closed m at count) a n ≡ part m (a + count) n
  unfolding closed
  part-closed-after a n h l =
      let d = drop (at + count) m in
      let e : at + (a - at) ≡ a = omega arith in
      let e' : at + count + (a - at) ≡ a + count = omega arith in
      ap (λ (k : ℕ). part (closed m at count) k n) (sym e)
      ∙ ap (λ (x : List ℕ). part x (at + (a - at)) n) (append_assoc (take at m) d (zeros count))
      ∙ part_right (take at m) (d ++ zeros count) at (a - at) n front
      ∙ part_left d (zeros count) (a - at) n (rw behind (omega arith))
      ∙ part-drop m (at + count) (a - at) n
      ∙ ap (λ (k : ℕ). part m k n) e'

-- ---- written
module _ (m : List ℕ) (at : ℕ) (row : List ℕ) (fits : at + length row ≤ length m) where
  before : length (take at m) ≡ at
  before = length-take-le at m (omega arith)

  pub length-written : length (place m at row) ≡ length m
  length-written = length-place m at row fits

  pub part-written : part (place m at row) at (length row) ≡ row
  unfolding part place
  part-written = ap (take (length row)) (drop_at (take at m) _ at before) ∙ take_at row _ (length row) refl

  pub part-written-before : (a n : ℕ) → a + n ≤ at → part (place m at row) a n ≡ part m a n
  unfolding place
  part-written-before a n h = part_left (take at m) _ a n (rw before h) ∙ part-take m at a n h (omega arith)

  pub part-written-after : (a n : ℕ) → at + length row ≤ a → part (place m at row) a n ≡ part m a n
  unfolding place
  part-written-after a n h =
      let e : at + (length row + (a - at - length row)) ≡ a = omega arith in
      let e' : at + length row + (a - at - length row) ≡ a = omega arith in
      ap (λ (k : ℕ). part (place m at row) k n) (sym e)
      ∙ part_right (take at m) (row ++ drop (at + length row) m) at (length row + (a - at - length row)) n before
      ∙ part_right row (drop (at + length row) m) (length row) (a - at - length row) n refl
      ∙ part-drop m (at + length row) (a - at - length row) n
      ∙ ap (λ (k : ℕ). part m k n) e'

-- ---- a part that was lent and has come back
pub part-back-to : (memory : List ℕ) (a e : ℕ) (row last : List ℕ) → a ≤ e → last ≡ row → length row ≡ e - a →
    put_mid a (e - a) memory last ≡ place memory a row
unfolding place
part-back-to memory a e row last h p q =
    let r : a + length row ≡ e = omega arith in
    rw (p, Post-is a e memory h, r)

-- how many numbers were lent
pub lent-count : (memory : List ℕ) (a count : ℕ) → a + count ≤ length memory → length (mid_of a (a + count - a) memory) ≡ count
lent-count memory a count h = let e : a + count - a ≡ count = omega arith in mid_len a (a + count) memory h ∙ e

-- the lent part itself
pub lent-part : (memory : List ℕ) (a count : ℕ) → take (a + count - a) (drop a memory) ≡ part memory a count
unfolding part
lent-part memory a count = let e : a + count - a ≡ count = omega arith in ap (λ (k : ℕ). take k (drop a memory)) e
