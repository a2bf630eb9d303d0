-- The causes about two trees by the tests that the code makes, and what is known where there is none.
-- Assumes nothing.
use mathlib.Core.Path.{◌≡◌, refl, sym, ap, ap₂, ◌∙◌, subst}
use mathlib.Core.Bool.{Bool, true, false, cond, ◌&&◌}
use mathlib.Core.List.{List}
use Prim.Native.Nat.{ℕ, zero, suc, ◌+◌, ◌*◌, ◌/◌, ◌≤◌, ◌<◌, min}
use native.Mathlib.Nat.{mul-le-mul}
use native.Mathlib.Numerals.{add-one}
use native.Mathlib.Omega.{arith}
use lib.Dec.{eqb, leb, ltb}
use borrow.Author.Tests.{lt-leb, le-leb, eq-eqb, ne_eqb, lt-ltb, le-ltb, leb-true, eqb-true}
use Rattle.arithmetic.proofs.CauseLaws.{first_some, first-later, lowest-none, first-none}
use Rattle.arithmetic.specs.Rounding.{one}
use Rattle.arithmetic.specs.Row.{each}
use Rattle.arithmetic.specs.Answers.{lowest_cause}
use Rattle.arithmetic.proofs.Numbers.{by_equal, by_order}
use Rattle.arithmetic.proofs.BetweenLaws.{and_left, and_right}
use Rattle.arithmetic.proofs.RowLaws.{each_all, each-fails}
use Rattle.arithmetic.proofs.Implied.{Implied, lastly, ◌▸◌}
use Rattle.limits.specs.Limits.{most_discount, is_steps}
use Rattle.lattice.specs.Shape.{node_count}
use Rattle.lattice.proofs.Sizes.{count-positive}
use Rattle.lent_tree.specs.LentTree.{stored, Accepted, discounts_cause}
use Rattle.lent_tree.proofs.LentLaws.{accepted}
use Rattle.price_bound.proofs.BoundLaws.{discount-within}
use Rattle.price_causes.specs.Causes.{flows_cause}
use Rattle.price_causes.proofs.CheckLaws.{flows-accepted}
use Rattle.pair_laws.specs.Pair.{combined}
use Rattle.pair_laws.specs.PairCauses.{most_pair_steps, pair_steps_cause, discounted, combined_cause, pair_discounts_cause, pair_cause, least, AcceptedTrees}
use Rattle.pair_laws.specs.inside.States.{AcceptedPair}

-- ---- 3 and 19

module _ (n m : ℕ) where
  pub rate-steps-refused : is_steps n ≡ false → 3 ≡ pair_steps_cause n m
  unfolding pair_steps_cause
  rate-steps-refused e = sym (rw e)

  module _ (known : is_steps n ≡ true) where
    pub spread-steps-refused : is_steps m ≡ false → 3 ≡ pair_steps_cause n m
    unfolding pair_steps_cause
    spread-steps-refused e = sym (rw (known, e))

    module _ (also : is_steps m ≡ true) where
      pub steps-long : most_pair_steps < n → 19 ≡ pair_steps_cause n m
      unfolding pair_steps_cause
      steps-long h = sym (rw (known, also, lt-leb n most_pair_steps h))

      pub steps_apart : n ≤ most_pair_steps → (n ≡ m → ⊥) → 19 ≡ pair_steps_cause n m
      unfolding pair_steps_cause
      steps_apart h e = sym (rw (known, also, le-leb n most_pair_steps h, ne_eqb n m e))

      pub steps-passed : n ≤ most_pair_steps → n ≡ m → 0 ≡ pair_steps_cause n m
      unfolding pair_steps_cause
      steps-passed h e = sym (rw (known, also, le-leb n most_pair_steps h, eq-eqb n m e))

  steps-cases : (p q : Bool) → ◌≡◌ {A = ℕ} (cond p (cond q 0 19) 3) 0 → q ≡ true
  steps-cases true true e = refl
  steps-cases true false e = absurd (omega arith)
  steps-cases false q e = absurd (omega arith)

  pub steps-known : pair_steps_cause n m ≡ 0 → (n ≤ most_pair_steps) × (n ≡ m)
  unfolding pair_steps_cause
  steps-known z =
      let t = steps-cases (is_steps n && is_steps m) (leb n most_pair_steps && eqb n m) z in
      (leb-true n most_pair_steps (and_left (leb n most_pair_steps) (eqb n m) t), eqb-true n m (and_right (leb n most_pair_steps) (eqb n m) t))

-- ---- the least of a row

pub least-none : (f : ℕ → ℕ) → least 0 f ≡ most_discount
unfolding least
least-none f = refl

pub least-next : (n : ℕ) (f : ℕ → ℕ) → least (n + 1) f ≡ min (least n f) (f n)
unfolding least
least-next n f = rw add-one

pub least-cong : (n : ℕ) (f g : ℕ → ℕ) → ((k : ℕ) → k < n → f k ≡ g k) → least n f ≡ least n g
unfolding least
least-cong zero f g h = refl
least-cong (suc n) f g h = rw (least-cong n f g (λ k l. h k (omega arith)), h n (omega arith))

pub least-most : (n : ℕ) (f : ℕ → ℕ) → least n f ≤ most_discount
unfolding least
least-most zero f = omega arith
least-most (suc n) f = omega (arith, least-most n f)

least-le : (n : ℕ) (f : ℕ → ℕ) (k : ℕ) → k < n → least n f ≤ f k
unfolding least
least-le zero f k h = absurd (omega arith)
least-le (suc n) f k h =
    by_equal k n (λ e. let s : f k ≡ f n = ap f e in omega arith) (λ m. omega (arith, least-le n f k (omega (arith, m))))

least-met : (n : ℕ) (f : ℕ → ℕ) → 0 < n → ((k : ℕ) → k < n → f k ≤ most_discount) → (k : ℕ) × (k < n) × (f k ≡ least n f)
unfolding least
least-met zero f h all = absurd (omega arith)
least-met (suc zero) f h all = (0, omega arith, omega (arith, all 0 (omega arith)))
least-met (suc (suc n)) f h all =
    let s = least-met (suc n) f (omega arith) (λ k l. all k (omega arith)) in
    by_order (f (suc n)) (least (suc n) f)
    (λ l. (suc n, omega arith, omega arith))
    (λ l. (s.0, omega arith, s.2 ∙ omega arith))

quotient_le : (x y : ℕ) → x ≤ y → x / one ≤ y / one
quotient_le x y h = omega arith

-- no product is 0 just where that of the least is not
products-pass :
    (n m : ℕ) (f g : ℕ → ℕ) → 0 < least n f * least m g / one → each n (λ j. each m (λ l. ltb 0 (f j * g l / one))) ≡ true
products-pass n m f g h =
    each_all n _
    (λ j hj. each_all m _
    (λ l hl. lt-ltb 0 (f j * g l / one)
    (omega (arith, quotient_le (least n f * least m g) (f j * g l) (mul-le-mul (least-le n f j hj) (least-le m g l hl))))))

products-fail :
    (n m : ℕ) (f g : ℕ → ℕ) → 0 < n → 0 < m → ((k : ℕ) → k < n → f k ≤ most_discount) → ((k : ℕ) → k < m → g k ≤ most_discount) →
    least n f * least m g / one ≤ 0 → each n (λ j. each m (λ l. ltb 0 (f j * g l / one))) ≡ false
products-fail n m f g hn hm hf hg h =
    let a = least-met n f hn hf in
    let b = least-met m g hm hg in
    let e : f a.0 * g b.0 / one ≡ least n f * least m g / one = ap₂ (λ (x y : ℕ). x * y / one) a.2 b.2 in
    each-fails n a.0 _ a.1
    (each-fails m b.0 (λ l. ltb 0 (f a.0 * g l / one)) b.1 (le-ltb 0 (f a.0 * g b.0 / one) (rw e h)))

-- what the code tests of a row is whether no discount of a pair is 0
pub row-discounted :
    {n b c i x y : ℕ} {rates spreads : List ℕ} → Accepted n b rates → Accepted n c spreads → i < n →
    x ≡ least (node_count b i) (stored b rates i) → y ≡ least (node_count c i) (stored c spreads i) →
    ltb 0 (x * y / one) ≡ discounted b c rates spreads i
unfolding discounted combined
row-discounted {n} {b} {c} {i} {rates} {spreads} a a' hi ex ey =
    rw (ex, ey)
    (by_order p 0
    (λ h. le-ltb 0 p h
    ∙ sym (products-fail (node_count b i) (node_count c i) (stored b rates i) (stored c spreads i) (count-positive b i) (count-positive c i)
    (discount-within n b i hi rates a) (discount-within n c i hi spreads a') h))
    (λ h. lt-ltb 0 p h ∙ sym (products-pass (node_count b i) (node_count c i) (stored b rates i) (stored c spreads i) h)))
  where
    p : ℕ
    p = least (node_count b i) (stored b rates i) * least (node_count c i) (stored c spreads i) / one

module _ {n : ℕ} (b c : ℕ) (rates spreads : List ℕ) where
  pub combined-refused : (i : ℕ) → i < n → discounted b c rates spreads i ≡ false → 9 ≡ combined_cause n b c rates spreads
  unfolding combined_cause
  combined-refused i h e = sym (rw (each-fails n i (discounted b c rates spreads) h e))

  pub combined-passed : ((i : ℕ) → i < n → discounted b c rates spreads i ≡ true) → 0 ≡ combined_cause n b c rates spreads
  unfolding combined_cause
  combined-passed h = sym (rw (each_all n (discounted b c rates spreads) h))

-- rows that have passed, and one more
pub passed-more :
    (test : ℕ → Bool) (row : ℕ) (t : Bool) → ((i : ℕ) → i < row → test i ≡ true) → t ≡ test row → t ≡ true → (i : ℕ) → i < row + 1 → test i ≡ true
passed-more test row t h e k i l = by_equal i row (λ q. ap test q ∙ sym e ∙ k) (λ n. h i (omega (arith, n)))

-- ---- all causes

module _ {n b : ℕ} {rates : List ℕ} {m c : ℕ} {spreads flows : List ℕ} (_ : Implied (n ▸ b ▸ rates ▸ m ▸ c ▸ spreads ▸ lastly flows)) where
  -- from those that the code finds
  pub pair-steps-refused : {s : ℕ} → s ≡ pair_steps_cause n m → (s ≡ 0 → ⊥) → s ≡ pair_cause n b rates m c spreads flows
  unfolding pair_cause
  pair-steps-refused e z = e ∙ sym (first_some _ _ (λ k. z (e ∙ k)))

  module _ {s : ℕ} (es : s ≡ pair_steps_cause n m) (zs : s ≡ 0) {d e t f : ℕ} (ed : d ≡ discounts_cause n b rates) (ee : e ≡ discounts_cause m c spreads)
      (et : t ≡ lowest_cause d e) (ef : f ≡ flows_cause n flows) where
    trees-are : t ≡ lowest_cause (discounts_cause n b rates) (discounts_cause m c spreads)
    trees-are = et ∙ ap₂ lowest_cause ed ee

    steps-none : pair_steps_cause n m ≡ 0
    steps-none = sym es ∙ zs

    pub pair-trees-refused : {r : ℕ} → r ≡ lowest_cause t f → (t ≡ 0 → ⊥) → r ≡ pair_cause n b rates m c spreads flows
    unfolding pair_cause pair_discounts_cause
    pair-trees-refused er nz =
        er ∙ ap₂ lowest_cause (trees-are ∙ sym (first_some _ _ (λ k. nz (trees-are ∙ k)))) ef ∙ sym (first-later _ _ steps-none)

    pub trees-accepted : t ≡ 0 → AcceptedTrees n b c rates spreads
    trees-accepted z =
        let k = steps-known n m steps-none in
        let v = lowest-none (discounts_cause n b rates) (discounts_cause m c spreads) (sym trees-are ∙ z) in
        record {
          rate-tree = accepted n b rates v.0;
          spread-tree = subst (λ (x : ℕ). Accepted x c spreads) (sym k.1) (accepted m c spreads v.1);
          few = k.0;
        }

    pub pair-rest :
        {r p : ℕ} → p ≡ combined_cause n b c rates spreads → r ≡ lowest_cause p f → t ≡ 0 → r ≡ pair_cause n b rates m c spreads flows
    unfolding pair_cause pair_discounts_cause
    pair-rest ep er z =
        er ∙ ap₂ lowest_cause (ep ∙ sym (first-later _ _ (sym trees-are ∙ z))) ef ∙ sym (first-later _ _ steps-none)

  -- where there is none
  pub pair-accepted : pair_cause n b rates m c spreads flows ≡ 0 → AcceptedPair n b c rates spreads flows
  unfolding pair_cause pair_discounts_cause
  pair-accepted z =
      let s = first-none (pair_steps_cause n m) _ z in
      let t = lowest-none (pair_discounts_cause n b rates m c spreads) (flows_cause n flows) s.1 in
      let u = first-none (lowest_cause (discounts_cause n b rates) (discounts_cause m c spreads)) _ t.0 in
      record {
        trees = trees-accepted (sym s.0) refl refl refl (sym u.0) refl refl;
        paid = flows-accepted n flows t.1;
      }
