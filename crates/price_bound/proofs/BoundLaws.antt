-- The error bound row by row, from the discounts as they are lent.
-- Assumes nothing.
use mathlib.Core.Path.{◌≡◌, refl, sym, ap, ap₂, ◌∙◌}
use mathlib.Core.Bool.{Bool, true, false, cond, ◌&&◌}
use mathlib.Core.List.{List}
use Prim.Native.Nat.{ℕ, zero, suc, ◌+◌, ◌-◌, ◌*◌, ◌/◌, ◌≤◌, ◌<◌, max}
use native.Mathlib.Nat.{mul-le-mul, not-suc-le-zero}
use native.Mathlib.Omega.{arith}
use lib.ListN.{length, take, drop, replicate}
use lib.Dec.{eqb, leb}
use Rattle.std.specs.Prelude.{Option, Some, None, MatchOption}
use borrow.Author.Tests.{eq-eqb, ne_eqb, eqb-true, le-leb, lt-leb}
use Rattle.arithmetic.specs.Rounding.{one, round_up}
use Rattle.arithmetic.specs.Row.{values, each}
use Rattle.arithmetic.specs.Sum.{greatest}
use Rattle.arithmetic.specs.declared.Answer.{Answer}
use Rattle.arithmetic.specs.Answers.{refused, answered}
use Rattle.arithmetic.proofs.Numbers.{by_order, by_equal}
use Rattle.arithmetic.proofs.RowLaws.{Filled, each-cong, each-fails}
use Rattle.arithmetic.proofs.PaddedLaws.{filled-padded, padded-at}
use Rattle.arithmetic.proofs.SumLaws.{greatest-none, greatest-next, greatest-le, greatest-cong}
use Rattle.arithmetic.proofs.PartLaws.{part-is, part-value, part_length}
use Rattle.limits.specs.Limits.{most_steps, most_discount, is_discount}
use Rattle.lattice.specs.Shape.{node_count, row_start}
use Rattle.lattice.specs.RateTree.{rate_tree}
use Rattle.lattice.specs.declared.RowShape.{RowShape}
use Rattle.lattice.specs.Entries.{shape_of, row_shape_answer}
use Rattle.lattice.proofs.Sizes.{row_ends}
use Rattle.lattice.proofs.ShapeLaws.{shape-found}
use Rattle.lent_tree.specs.LentTree.{stored, accepted_discounts, Accepted, room_cause, discounts_cause}
use Rattle.lent_tree.specs.inside.Lent.{Lent}
use Rattle.lent_tree.proofs.LentLaws.{accepted-by-row, judged-after-room, refused-for-room}
use Rattle.pricing_laws.specs.Pricer.{error_bound_from, error_bound}
use Rattle.pricing_laws.specs.TreePricer.{roll_loss, greatest_discount, price_error_bound}
use Rattle.pricing_laws.proofs.PriceLaws.{error-bound-small}
use Rattle.pricing_laws.proofs.Recurrences.{error-bound-last, error-bound-before}
use Rattle.price_bound.specs.declared.TreeErrorBounds.{TreeErrorBounds}
use Rattle.price_bound.specs.inside.Rows.{row_accepted, RowsBounded}
use Rattle.price_bound.specs.PriceBound.{tree_error_bound, price_error_bound_answer, greatest_discounts, refused_bounds, tree_bounds_answer}

pub discount-within :
    (n b i : ℕ) → i < n → (discounts : List ℕ) → Accepted n b discounts → (k : ℕ) → k < node_count b i → stored b discounts i k ≤ most_discount
unfolding stored
discount-within n b i hi discounts a k h = a.discounted (row_start b i + k) (omega (arith, row_ends b i n hi))

-- ---- the error bound from the greatest discounts of the rows, row by row

module _ (n : ℕ) (rows : List ℕ) where
  abbrev pub bound_at : ℕ → ℕ
  bound_at = error_bound roll_loss (values rows) n

  pub bound-first : bound_at n ≡ 0
  bound-first = error-bound-last roll_loss (values rows) n

  pub bound-fits : RowsBounded n rows → (r bound : ℕ) → 0 < r → r ≤ n → bound ≡ bound_at r → values rows (r - 1) * bound ≤ 1100000000000000
  bound-fits k r bound some h e =
      mul-le-mul {n₁ = values rows (r - 1)} {m₁ = bound} {n₂ = most_discount} {m₂ = 1000000} (k.discounted (r - 1) (omega arith))
      (omega (arith, k.bounds-small r h))

  pub bound-next : (r bound : ℕ) → 0 < r → r ≤ n → bound ≡ bound_at r → (values rows (r - 1) * bound + (one - 1)) / one + 2 ≡ bound_at (r - 1)
  unfolding round_up
  bound-next r bound some h e =
      let z : r ≡ suc (r - 1) = omega arith in
      ap (λ (x : ℕ). (values rows (r - 1) * x + (one - 1)) / one + 2) (e ∙ ap bound_at z)
      ∙ sym (error-bound-before roll_loss (values rows) n (r - 1) (omega arith))

-- it depends on the rows of the tree alone
bound-cong : (g h : ℕ → ℕ) (s i : ℕ) → ((k : ℕ) → i ≤ k → k < i + s → g k ≡ h k) → error_bound_from roll_loss g s i ≡ error_bound_from roll_loss h s i
unfolding error_bound_from
bound-cong g h zero i e = refl
bound-cong g h (suc s) i e =
    ap₂ (λ (x y : ℕ). round_up (x * y) one + roll_loss) (e i (omega arith) (omega arith))
    (bound-cong g h s (suc i) (λ k l u. e k (omega arith) (omega arith)))

module _ (n b : ℕ) (discounts : List ℕ) (a : Accepted n b discounts) (rows : List ℕ) (er : rows ≡ greatest_discounts n b discounts) where
  abbrev by_row : ℕ → ℕ
  by_row = greatest_discount (rate_tree b) (stored b discounts)

  rows_are : (k : ℕ) → k < n → values rows k ≡ by_row k
  unfolding greatest_discounts
  rows_are k h = ap (λ (l : List ℕ). values l k) er ∙ padded-at most_steps n by_row k a.limits.steps-within-limit h

  same-bound : (i : ℕ) → i ≤ n → error_bound roll_loss (values rows) n i ≡ price_error_bound (rate_tree b) (stored b discounts) n i
  unfolding error_bound
  same-bound i h = bound-cong (values rows) by_row (n - i) i (λ k l u. rows_are k (omega arith))

  pub rows-bounded : RowsBounded n rows
  unfolding rate_tree greatest_discount
  rows-bounded =
      record {
        steps-within-limit = a.limits.steps-within-limit;
        discounted = λ i h.
            omega (arith, rows_are i h, greatest-le (node_count b i) (stored b discounts i) most_discount (discount-within n b i h discounts a));
        bounds-small = λ i h.
            omega (
              arith,
              same-bound i h,
              error-bound-small (rate_tree b) (stored b discounts) n (λ r k hr hk. discount-within n b r hr discounts a k hk)
                  a.limits.steps-within-limit i h,
            );
      }

  pub bound-is : error_bound roll_loss (values rows) n 0 ≡ tree_error_bound n b discounts
  unfolding tree_error_bound
  bound-is = same-bound 0 (omega arith)

-- one row, from its part of the discounts
module _ (n b i : ℕ) (discounts : List ℕ) (a : Lent n b discounts) (hi : i < n) where
  abbrev row-greatest : ℕ
  row-greatest = greatest_discount (rate_tree b) (stored b discounts) i

  module _ (s : RowShape) (es : s ≡ row_shape_answer b n i) where
    shape : s ≡ shape_of b n i
    shape =
        let few = a.limits.steps-within-limit in
        es ∙ sym (shape-found b n i a.limits.reversion-within-limit few (omega arith) (omega (arith, few)))

    count-is : s.count ≡ node_count b i
    count-is = ap (λ (x : RowShape). x.count) shape

    start_is : s.start ≡ row_start b i
    start_is = ap (λ (x : RowShape). x.start) shape

    pub part_room : s.start + s.count ≤ length discounts
    part_room = omega (arith, start_is, count-is, row_ends b i n hi, a.room)

    pub greatest-part :
        (g : ℕ) (part : List ℕ) → part ≡ take (s.start + s.count - s.start) (drop s.start discounts) →
        g ≡ greatest (length part) (values part) → g ≡ row-greatest
    unfolding greatest_discount rate_tree stored
    greatest-part g part ep e =
        let p : part ≡ take (node_count b i) (drop (row_start b i) discounts)
        = ep ∙ part-is discounts s.start s.count ∙ ap₂ (λ (x y : ℕ). take x (drop y discounts)) count-is start_is in
        let l : length part ≡ node_count b i
        = ap length p ∙ part_length discounts (row_start b i) (node_count b i) (omega (arith, row_ends b i n hi, a.room)) in
        e
        ∙ ap (λ (m : ℕ). greatest m (values part)) l
        ∙ greatest-cong (node_count b i) _ _
        (λ k h. ap (λ (x : List ℕ). values x k) p ∙ part-value discounts (row_start b i) (node_count b i) k h)

    -- whether its discounts are accepted
    pub judged-part :
        (t : Bool) (part : List ℕ) → part ≡ take (s.start + s.count - s.start) (drop s.start discounts) →
        t ≡ each (length part) (λ k. is_discount (values part k)) → t ≡ each (node_count b i) (λ k. is_discount (stored b discounts i k))
    unfolding stored
    judged-part t part ep e =
        let p : part ≡ take (node_count b i) (drop (row_start b i) discounts)
        = ep ∙ part-is discounts s.start s.count ∙ ap₂ (λ (x y : ℕ). take x (drop y discounts)) count-is start_is in
        let l : length part ≡ node_count b i
        = ap length p ∙ part_length discounts (row_start b i) (node_count b i) (omega (arith, row_ends b i n hi, a.room)) in
        e
        ∙ ap (λ (m : ℕ). each m (λ k. is_discount (values part k))) l
        ∙ each-cong (node_count b i) _ _
        (λ k h. ap (λ (v : ℕ). is_discount v) (ap (λ (x : List ℕ). values x k) p ∙ part-value discounts (row_start b i) (node_count b i) k h))

    -- both, as the answer of the part
    pub part-ranged :
        (part : List ℕ) → part ≡ take (s.start + s.count - s.start) (drop s.start discounts) →
        (r : Option ℕ) →
        MatchOption r (each (length part) (λ k. is_discount (values part k)) ≡ false)
        (λ top. (each (length part) (λ k. is_discount (values part k)) ≡ true) × (top ≡ greatest (length part) (values part))) →
        MatchOption r (row_accepted b discounts i ≡ false) (λ top. (row_accepted b discounts i ≡ true) × (top ≡ row-greatest))
    part-ranged part ep None e = sym (judged-part _ part ep refl) ∙ e
    part-ranged part ep (Some top) e = (sym (judged-part _ part ep refl) ∙ e.0, greatest-part top part ep e.1)

-- numbers above 0 are accepted where the greatest is
most-of-two : (x y m : ℕ) → leb (max x y) m ≡ leb x m && leb y m
most-of-two x y m =
    by_order x m
    (λ hx. by_order y m
    (λ hy. rw (le-leb x m hx, le-leb y m hy, le-leb (max x y) m (omega arith)))
    (λ hy. rw (le-leb x m hx, lt-leb y m hy, lt-leb (max x y) m (omega arith))))
    (λ hx. rw (lt-leb x m hx, lt-leb (max x y) m (omega arith)))

pub accepted-by-greatest :
    (n m : ℕ) (f : ℕ → ℕ) → ((k : ℕ) → k < n → 1 ≤ f k) → each n (λ k. leb 1 (f k) && leb (f k) m) ≡ leb (greatest n f) m
unfolding each greatest
accepted-by-greatest zero m f h = sym (le-leb 0 m (omega arith))
accepted-by-greatest (suc n) m f h =
    rw (accepted-by-greatest n m f (λ k l. h k (omega arith)), le-leb 1 (f n) (h n (omega arith)), most-of-two (greatest n f) (f n) m)

-- the loop over a row's discounts: k of them are above 0, and the greatest of these
pub record Ranged (l : List ℕ) (top k : ℕ) : Type 0 where
  pub positive : (j : ℕ) → j < k → 1 ≤ values l j
  pub found : top ≡ greatest k (values l)

pub ranged-start : (l : List ℕ) → Ranged l 0 0
ranged-start l = record { positive = λ j h. absurd (not-suc-le-zero h); found = sym (greatest-none (values l)) }

pub ranged-next : (l : List ℕ) (top k top' : ℕ) → Ranged l top k → 1 ≤ values l k → top' ≡ max top (values l k) → Ranged l top' (k + 1)
ranged-next l top k top' s h e =
    record {
      positive = λ j below. by_equal j k (λ z. rw z h) (λ nz. s.positive j (omega (arith, nz)));
      found = e ∙ ap (λ (x : ℕ). max x (values l k)) s.found ∙ sym (greatest-next k (values l));
    }

pub ranged-done : (l : List ℕ) (top k : ℕ) → Ranged l top k → k ≡ length l → leb top most_discount ≡ each (length l) (λ j. is_discount (values l j))
ranged-done l top k s e =
    ap (λ (x : ℕ). leb x most_discount) s.found
    ∙ sym (accepted-by-greatest k most_discount (values l) s.positive)
    ∙ ap (λ (m : ℕ). each m (λ j. is_discount (values l j))) e

pub ranged-greatest : (l : List ℕ) (top k : ℕ) → Ranged l top k → k ≡ length l → top ≡ greatest (length l) (values l)
ranged-greatest l top k s e = s.found ∙ ap (λ (m : ℕ). greatest m (values l)) e

pub zero-refused : (l : List ℕ) (k : ℕ) → k < length l → values l k < 1 → false ≡ each (length l) (λ j. is_discount (values l j))
zero-refused l k h z = sym (each-fails (length l) k (λ j. is_discount (values l j)) h (rw (lt-leb 1 (values l k) z)))

-- all rows, one after the other
pub rows-refused : (n b : ℕ) (discounts : List ℕ) (i : ℕ) (t : Bool) → i < n → t ≡ row_accepted b discounts i → t ≡ false → false
    ≡ accepted_discounts n b discounts
rows-refused n b discounts i t h e f =
    sym (accepted-by-row n b discounts ∙ each-fails n i (row_accepted b discounts) h (sym e ∙ f))

pub rows-accepted : (n b : ℕ) (discounts : List ℕ) (i : ℕ) → i ≡ n → each i (row_accepted b discounts) ≡ true → true ≡ accepted_discounts n b discounts
rows-accepted n b discounts i z e = sym (accepted-by-row n b discounts ∙ ap (λ (m : ℕ). each m (row_accepted b discounts)) (sym z) ∙ e)

-- the answer, by the cause that was found
module _ (n b : ℕ) (discounts : List ℕ) where
  pub bound-number : (price_error_bound_answer n b discounts).number ≡ discounts_cause n b discounts
  unfolding price_error_bound_answer
  bound-number = go (eqb (discounts_cause n b discounts) 0) refl
    where
      go : (t : Bool) → eqb (discounts_cause n b discounts) 0 ≡ t →
          (cond t (answered (tree_error_bound n b discounts)) (refused (discounts_cause n b discounts))).number ≡ discounts_cause n b discounts
      go true e = sym (eqb-true (discounts_cause n b discounts) 0 e)
      go false e = refl

  -- the error bound with the greatest discounts of the rows
  module _ (c : ℕ) (e : c ≡ discounts_cause n b discounts) where
    pub bounds-refused : (rows : List ℕ) → (c ≡ 0 → ⊥) → rows ≡ replicate most_steps 0 →
        ◌≡◌ {A = TreeErrorBounds} (record { number = c; bound = 0; greatest = rows }) (tree_bounds_answer n b discounts)
    unfolding tree_bounds_answer
    bounds-refused rows z h = rw (h, ← e, ne_eqb c 0 z)

    pub bounds-given : c ≡ 0 → (bound : ℕ) (rows : List ℕ) → bound ≡ tree_error_bound n b discounts → rows ≡ greatest_discounts n b discounts →
        ◌≡◌ {A = TreeErrorBounds} (record { number = 0; bound = bound; greatest = rows }) (tree_bounds_answer n b discounts)
    unfolding tree_bounds_answer
    bounds-given z bound rows eb h = rw (h, eb, eq-eqb (discounts_cause n b discounts) 0 (sym e ∙ z))

  -- judged after the room
  module _ (c : ℕ) (e : c ≡ room_cause n b discounts) where
    pub room-refused : (r : TreeErrorBounds) → (c ≡ 0 → ⊥) → r ≡ refused_bounds c → r ≡ tree_bounds_answer n b discounts
    room-refused r z h =
        h ∙ bounds-refused c (e ∙ refused-for-room n b discounts (λ none. z (e ∙ none))) (replicate most_steps 0) z refl

    module _ (z : c ≡ 0) (t : Bool) (et : t ≡ accepted_discounts n b discounts) where
      cause-is : discounts_cause n b discounts ≡ cond t 0 9
      cause-is = judged-after-room n b discounts (sym e ∙ z) ∙ ap (λ (x : Bool). cond x 0 9) (sym et)

      pub range-refused : (r : TreeErrorBounds) → t ≡ false → r ≡ refused_bounds 9 → r ≡ tree_bounds_answer n b discounts
      range-refused r f h =
          h ∙ bounds-refused 9 (sym (cause-is ∙ ap (λ (x : Bool). cond x 0 9) f)) (replicate most_steps 0)
          (λ none. let no : ⊥ = omega arith in absurd no) refl

      pub range-accepted : t ≡ true → 0 ≡ discounts_cause n b discounts
      range-accepted f = sym (cause-is ∙ ap (λ (x : Bool). cond x 0 9) f)

  -- the error bound alone
  pub alone : (a : TreeErrorBounds) → a ≡ tree_bounds_answer n b discounts →
      ◌≡◌ {A = Answer} (record { number = a.number; value = a.bound }) (price_error_bound_answer n b discounts)
  unfolding tree_bounds_answer price_error_bound_answer
  alone a e =
      ap (λ (x : TreeErrorBounds). record { number = x.number; value = x.bound }) e ∙ go (eqb (discounts_cause n b discounts) 0)
    where
      known : TreeErrorBounds
      known = record { number = 0; bound = tree_error_bound n b discounts; greatest = greatest_discounts n b discounts }

      unknown : TreeErrorBounds
      unknown = record { number = discounts_cause n b discounts; bound = 0; greatest = replicate most_steps 0 }

      go : (t : Bool) →
          ◌≡◌ {A = Answer} (record { number = (cond t known unknown).number; value = (cond t known unknown).bound })
          (cond t (answered (tree_error_bound n b discounts)) (refused (discounts_cause n b discounts)))
      go true = refl
      go false = refl

  pub bounds-number : (tree_bounds_answer n b discounts).number ≡ discounts_cause n b discounts
  unfolding tree_bounds_answer
  bounds-number = go (eqb (discounts_cause n b discounts) 0) refl
    where
      go : (t : Bool) → eqb (discounts_cause n b discounts) 0 ≡ t →
          (cond {A = TreeErrorBounds} t (record { number = 0; bound = tree_error_bound n b discounts; greatest = greatest_discounts n b discounts })
          (record { number = discounts_cause n b discounts; bound = 0; greatest = replicate most_steps 0 })).number
          ≡ discounts_cause n b discounts
      go true e = sym (eqb-true (discounts_cause n b discounts) 0 e)
      go false e = refl

  -- what it says of an accepted tree
  module _ (z : discounts_cause n b discounts ≡ 0) where
    pub bounds-bound : (tree_bounds_answer n b discounts).bound ≡ tree_error_bound n b discounts
    unfolding tree_bounds_answer
    bounds-bound = rw (eq-eqb (discounts_cause n b discounts) 0 z)

    pub bounds-greatest : (tree_bounds_answer n b discounts).greatest ≡ greatest_discounts n b discounts
    unfolding tree_bounds_answer
    bounds-greatest = rw (eq-eqb (discounts_cause n b discounts) 0 z)

pub rows-filled : (n b : ℕ) (discounts l : List ℕ) → Filled (replicate most_steps 0) l (greatest_discount (rate_tree b) (stored b discounts)) n →
    l ≡ greatest_discounts n b discounts
unfolding greatest_discounts
rows-filled n b discounts l h = filled-padded most_steps l n _ h
