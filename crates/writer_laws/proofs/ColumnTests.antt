-- The test of a column: its answer by parts, and what it says.
-- Assumes nothing.
use Prim.Native.Nat.{ℕ, ◌+◌, ◌-◌, ◌≤◌, ◌<◌}
use native.Mathlib.Nat.{le_dest}
use native.Mathlib.Omega.{arith}
use mathlib.Core.Bool.{true, false}
use mathlib.Core.List.{List}
use mathlib.Core.Path.{◌≡◌, refl, sym, ap, ◌∙◌}
use borrow.Author.Tests.{eq-eqb, eqb-true}
use lib.Dec.{eqb}
use lib.ListN.{length, take, drop, length-take, length-drop, get_or-eq_default}
use lib.Seq.{take_all, get_or-take, get_or-drop}
use Rattle.arithmetic.specs.Row.{values, between}
use Rattle.arithmetic.proofs.Numbers.{by_order}
use Rattle.arithmetic.proofs.BetweenLaws.{between-holds, between-most}
use Rattle.arithmetic.proofs.RowLaws.{each_all, each_holds}
use Rattle.job_record.specs.Grammar.{Column}
use Rattle.job_record.proofs.Answers.{first, second, both}
use Rattle.writer_laws.specs.Sound.{all_at_most, is_column}

module _ (most : ℕ) (l : List ℕ) where
  pub at-most-test : ((k : ℕ) → k < length l → values l k ≤ most) → all_at_most most l ≡ true
  at-most-test h = each_all (length l) (between 0 most (values l)) (λ k below. between-holds 0 most (values l) k (omega arith) (h k below))

  pub at-most-holds : all_at_most most l ≡ true → (k : ℕ) → k < length l → values l k ≤ most
  at-most-holds h k below = between-most 0 most (values l) k (each_holds (length l) k (between 0 most (values l)) h below)

-- what follows the first n numbers, as lending has it
rest-is : (l : List ℕ) (n : ℕ) → take (length l - n) (drop n l) ≡ drop n l
rest-is l n = take_all (length l - n) (drop n l) (simp length-drop (omega arith))

-- the answer, by the part that fails first
module _ (l : List ℕ) (n most : ℕ) where
  pub column-fails : all_at_most most (take n l) ≡ false → false ≡ is_column (length l) l n most
  unfolding is_column
  column-fails bad = rw (eq-eqb (length l) (length l) refl, bad)

  pub column-by-rest : all_at_most most (take n l) ≡ true → all_at_most 0 (take (length l - n) (drop n l)) ≡ is_column (length l) l n most
  unfolding is_column
  column-by-rest good = rw (eq-eqb (length l) (length l) refl, good, rest-is l n)

  -- numbers that are none above the limit for their type
  pub column-by-type :
      ((k : ℕ) → values l k ≤ most) → all_at_most 0 (take (length l - n) (drop n l)) ≡ is_column (length l) l n most
  column-by-type small =
      column-by-rest
      (at-most-test most (take n l)
      (λ k below.
      let inside : k < n = omega (arith, simp length-take at below) in
      rw (get_or-take n l k 0 inside) (small k)))

-- the test holds of a column, and of nothing else
module _ (places : ℕ) (l : List ℕ) (n most bound : ℕ) where
  module _ (h : is_column places l n most ≡ true) (limit : most < bound) where
    size_is : length l ≡ places
    unfolding is_column
    size_is = eqb-true _ _ (first (eqb (length l) places) _ h)

    entries : all_at_most most (take n l) ≡ true
    unfolding is_column
    entries = first (all_at_most most (take n l)) _ (second (eqb (length l) places) h)

    rest : all_at_most 0 (drop n l) ≡ true
    unfolding is_column
    rest = second (all_at_most most (take n l)) (second (eqb (length l) places) h)

    inside-rest : (k : ℕ) → n ≤ k → k < length l → values l k ≡ 0
    inside-rest k past inside =
        let (j, e) = le_dest past in
        let zero : values (drop n l) j ≤ 0 = at-most-holds 0 (drop n l) rest j (simp length-drop (omega arith)) in
        let same : values (drop n l) j ≡ values l (n + j) = get_or-drop n l j 0 in
        ap (values l) (sym e) ∙ sym same ∙ omega arith

    after_is : (k : ℕ) → n ≤ k → values l k ≡ 0
    after_is k past = by_order (length l) k (λ beyond. get_or-eq_default l 0 beyond) (inside-rest k past)

    below-is : (k : ℕ) → values l k < bound
    below-is k =
        by_order (length l) k (λ beyond. rw (get_or-eq_default l 0 beyond) (omega arith))
        (λ inside.
        by_order n k (λ past. rw (after_is k past) (omega arith))
        (λ before.
        let small : values (take n l) k ≤ most = at-most-holds most (take n l) entries k (simp length-take (omega arith)) in
        let same : values (take n l) k ≡ values l k = get_or-take n l k 0 before in
        omega arith))

    pub column-is : Column places l n bound
    column-is = record { size = size_is; below = below-is; after = after_is }

  pub column-test : Column places l n bound → bound ≤ most + 1 → is_column places l n most ≡ true
  unfolding is_column
  column-test c limit =
      both (eq-eqb (length l) places c.size)
      (both
      (at-most-test most (take n l)
      (λ k below.
      let before : k < n = omega (arith, simp length-take at below) in
      rw (get_or-take n l k 0 before) (omega (arith, c.below k))))
      (at-most-test 0 (drop n l) (λ k below. rw (get_or-drop n l k 0, c.after (n + k) (omega arith)) (omega arith))))
