-- The causes about lent discounts by the tests that code makes, and what an accepted tree keeps to.
-- Assumes nothing.
use mathlib.Core.Path.{◌≡◌, refl, sym, ap, ◌∙◌}
use mathlib.Core.Bool.{Bool, true, false, cond}
use mathlib.Core.List.{List}
use Prim.Native.Nat.{ℕ, zero, suc, ◌≤◌, ◌<◌}
use native.Mathlib.Omega.{arith}
use lib.Dec.{eqb, leb}
use lib.ListN.{length, take}
use lib.Seq.{length-take-le, get_or-take}
use borrow.Author.Tests.{le-leb, lt-leb, leb-true, ne_eqb, eqb-true}
use Rattle.arithmetic.specs.Row.{values, each, between}
use Rattle.arithmetic.specs.declared.Answer.{Answer}
use Rattle.arithmetic.proofs.RowLaws.{each_holds, each-cong, each-split}
use Rattle.arithmetic.proofs.BetweenLaws.{between-least, between-most}
use Rattle.limits.specs.Limits.{most_discount, is_discount, shape_cause}
use Rattle.limits.proofs.LimitLaws.{shape-accepted}
use Rattle.lattice.specs.Shape.{node_count, row_start, discounts_needed}
use Rattle.lattice.specs.Entries.{about_tree}
use Rattle.lattice.proofs.Sizes.{start_first, start-suc}
use Rattle.lattice.proofs.EntryLaws.{tree-number, tree-result}
use Rattle.lent_tree.specs.LentTree.{stored, accepted_discounts, room_cause, discounts_cause, Accepted}
use Rattle.lent_tree.specs.inside.Lent.{Lent}

-- a test of the first x numbers, made on that part
each_part : (low high x : ℕ) (l : List ℕ) → x ≤ length l →
    each (length (take x l)) (between low high (values (take x l))) ≡ each x (between low high (values l))
each_part low high x l h =
    rw (length-take-le x l h)
    (each-cong x _ _ (λ k m. ap (λ (v : ℕ). between low high (λ (i : ℕ). v) k) (get_or-take x l k 0 m)))

module _ (n b : ℕ) (discounts : List ℕ) (a : Answer) (e : a ≡ about_tree n b (discounts_needed n b)) where
  pub numbers-refused : (a.number ≡ 0 → ⊥) → a.number ≡ discounts_cause n b discounts
  unfolding discounts_cause
  numbers-refused nz = let s = tree-number n b (discounts_needed n b) a e in sym (rw (← s, ne_eqb a.number 0 nz))

  module _ (z : a.number ≡ 0) where
    pub shaped : shape_cause n b ≡ 0
    shaped = sym (tree-number n b (discounts_needed n b) a e) ∙ z

    pub needed-value : a.value ≡ discounts_needed n b
    needed-value = tree-result n b (discounts_needed n b) a e shaped

    pub room-refused : length discounts < a.value → 6 ≡ discounts_cause n b discounts
    unfolding discounts_cause
    room-refused h = sym (rw (shaped, lt-leb (discounts_needed n b) (length discounts) (rw needed-value at h)))

    module _ (room : a.value ≤ length discounts) (r : Bool)
        (er : r ≡ each (length (take a.value discounts)) (between 1 most_discount (values (take a.value discounts)))) where
      judged : accepted_discounts n b discounts ≡ r
      unfolding accepted_discounts
      judged = sym (er ∙ each_part 1 most_discount a.value discounts room ∙ rw needed-value)

      pub discount-refused : r ≡ false → 9 ≡ discounts_cause n b discounts
      unfolding discounts_cause
      discount-refused h = sym (rw (shaped, le-leb (discounts_needed n b) (length discounts) (rw needed-value at room), judged, h))

      pub lent-passed : r ≡ true → 0 ≡ discounts_cause n b discounts
      unfolding discounts_cause
      lent-passed h = sym (rw (shaped, le-leb (discounts_needed n b) (length discounts) (rw needed-value at room), judged, h))

-- the room alone
module _ (n b : ℕ) (discounts : List ℕ) (a : Answer) (e : a ≡ about_tree n b (discounts_needed n b)) where
  pub room-number : (a.number ≡ 0 → ⊥) → a.number ≡ room_cause n b discounts
  unfolding room_cause
  room-number nz = let s = tree-number n b (discounts_needed n b) a e in sym (rw (← s, ne_eqb a.number 0 nz))

  module _ (z : a.number ≡ 0) where
    pub room-short : length discounts < a.value → 6 ≡ room_cause n b discounts
    unfolding room_cause
    room-short h =
        sym (rw (shaped n b discounts a e z, lt-leb (discounts_needed n b) (length discounts) (rw (needed-value n b discounts a e z) at h)))

    pub room-enough : a.value ≤ length discounts → 0 ≡ room_cause n b discounts
    unfolding room_cause
    room-enough h =
        sym (rw (shaped n b discounts a e z, le-leb (discounts_needed n b) (length discounts) (rw (needed-value n b discounts a e z) at h)))

room-found : (p q : Bool) (x : ℕ) → (p ≡ false → x ≡ 0 → ⊥) → ◌≡◌ {A = ℕ} (cond p (cond q 0 6) x) 0 → (p ≡ true) × (q ≡ true)
room-found true true x h e = (refl, refl)
room-found true false x h e = absurd (omega arith)
room-found false q x h e = absurd (h refl e)

both-tests : (n b : ℕ) → eqb (shape_cause n b) 0 ≡ false → eqb (shape_cause n b) 0 ≡ true → ⊥
both-tests n b p q = let z : ◌≡◌ {A = ℕ} 0 1 = cc in omega arith

-- no cause about the room: what is left are the discounts
module _ (n b : ℕ) (discounts : List ℕ) where
  room-parts : room_cause n b discounts ≡ 0 → (eqb (shape_cause n b) 0 ≡ true) × (leb (discounts_needed n b) (length discounts) ≡ true)
  unfolding room_cause
  room-parts none =
      room-found (eqb (shape_cause n b) 0) (leb (discounts_needed n b) (length discounts)) (shape_cause n b) (λ p q. both-tests n b p (rw q)) none

  pub lent : room_cause n b discounts ≡ 0 → Lent n b discounts
  unfolding discounts_needed
  lent none =
      let t = room-parts none in
      let s = shape-accepted n b (eqb-true (shape_cause n b) 0 t.0) in
      record {
        limits = record { steps-positive = s.0; steps-within-limit = s.1; reversion-within-limit = s.2 };
        room = leb-true (discounts_needed n b) (length discounts) t.1;
      }

  pub judged-after-room : room_cause n b discounts ≡ 0 → discounts_cause n b discounts ≡ cond (accepted_discounts n b discounts) 0 9
  unfolding discounts_cause
  judged-after-room none = let t = room-parts none in rw (t.0, t.1)

  pub refused-for-room : (room_cause n b discounts ≡ 0 → ⊥) → room_cause n b discounts ≡ discounts_cause n b discounts
  unfolding room_cause discounts_cause
  refused-for-room some =
      go (eqb (shape_cause n b) 0) (leb (discounts_needed n b) (length discounts)) (accepted_discounts n b discounts) (shape_cause n b) some
    where
      go : (p q r : Bool) (x : ℕ) → (◌≡◌ {A = ℕ} (cond p (cond q 0 6) x) 0 → ⊥) → ◌≡◌ {A = ℕ} (cond p (cond q 0 6) x) (cond p (cond q (cond r 0 9) 6) x)
      go true true r x h = absurd (h refl)
      go true false r x h = refl
      go false q r x h = refl

none_found : (p q r : Bool) (x : ℕ) → (p ≡ false → x ≡ 0 → ⊥) → ◌≡◌ {A = ℕ} (cond p (cond q (cond r 0 9) 6) x) 0 → (p ≡ true) × (q ≡ true) × (r ≡ true)
none_found true true true x h e = (refl, refl, refl)
none_found true true false x h e = absurd (omega arith)
none_found true false r x h e = absurd (omega arith)
none_found false q r x h e = absurd (h refl e)

module _ (n b : ℕ) (discounts : List ℕ) (none : discounts_cause n b discounts ≡ 0) where
  parts : (eqb (shape_cause n b) 0 ≡ true) × (leb (discounts_needed n b) (length discounts) ≡ true) × (accepted_discounts n b discounts ≡ true)
  unfolding discounts_cause
  parts =
      none_found (eqb (shape_cause n b) 0) (leb (discounts_needed n b) (length discounts)) (accepted_discounts n b discounts) (shape_cause n b)
      (λ p q. both p (rw q)) none
    where
      both : eqb (shape_cause n b) 0 ≡ false → eqb (shape_cause n b) 0 ≡ true → ⊥
      both p q = let z : ◌≡◌ {A = ℕ} 0 1 = cc in omega arith

  -- no cause: the numbers are within their limits, the memory is long enough and each discount is accepted
  pub accepted-shape : shape_cause n b ≡ 0
  accepted-shape = eqb-true (shape_cause n b) 0 parts.0

  pub accepted-room : discounts_needed n b ≤ length discounts
  accepted-room = leb-true (discounts_needed n b) (length discounts) parts.1

  pub accepted-all : accepted_discounts n b discounts ≡ true
  accepted-all = parts.2

  pub accepted : Accepted n b discounts
  unfolding accepted_discounts discounts_needed
  accepted =
      let s = shape-accepted n b accepted-shape in
      record {
        limits = record { steps-positive = s.0; steps-within-limit = s.1; reversion-within-limit = s.2 };
        room = accepted-room;
        positive = λ k h. between-least 1 most_discount (values discounts) k (each_holds (row_start b n) k _ accepted-all h);
        discounted = λ k h. between-most 1 most_discount (values discounts) k (each_holds (row_start b n) k _ accepted-all h);
      }

-- the needed part is the rows 0 to n − 1: the discounts are accepted where those of each row are
pub accepted-by-row : (n b : ℕ) (discounts : List ℕ) →
    accepted_discounts n b discounts ≡ each n (λ i. each (node_count b i) (λ k. is_discount (stored b discounts i k)))
unfolding accepted_discounts discounts_needed each stored
accepted-by-row zero b discounts = rw (start_first b)
accepted-by-row (suc n) b discounts =
    rw (start-suc b n, each-split (row_start b n) (node_count b n), accepted-by-row n b discounts)

-- numbers within their limits, room, and accepted discounts: no cause
pub lent-accepted : (n b : ℕ) (discounts : List ℕ) → shape_cause n b ≡ 0 → discounts_needed n b ≤ length discounts →
    accepted_discounts n b discounts ≡ true → discounts_cause n b discounts ≡ 0
unfolding discounts_cause
lent-accepted n b discounts shape room all = rw (shape, le-leb (discounts_needed n b) (length discounts) room, all)

pub accepted-lent : (n b : ℕ) (discounts : List ℕ) → Accepted n b discounts → Lent n b discounts
accepted-lent n b discounts a = record { limits = a.limits; room = a.room }
