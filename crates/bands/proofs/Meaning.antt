-- The verdict is the one that the quantifiers describe, and no other is.
-- Assumes nothing.
use mathlib.Core.Path.{◌≡◌, refl, sym, ◌∙◌, ap}
use Prim.Native.Nat.{ℕ, ◌+◌, ◌≤◌, ◌<◌}
use native.Mathlib.Omega.{arith}
use native.Mathlib.Decide.{dec_le, ℕ_discrete}
use Rattle.limits.specs.Limits.{most_steps}
use Rattle.bands.specs.declared.Verdict.{Verdict}
use Rattle.bands.specs.Bands.{Bands, coverage, failing_price, failing_row, bad_index, table_verdict, Partition}
use Rattle.bands.specs.Judged.{FirstFailing, AllSound, Judged, bad-band, too_many, uncovered, overlapping, accepted}
use Rattle.bands.proofs.TestLaws.{failing-true, failing-false, false-failing, true-failing, failing-price-is}
use Rattle.bands.proofs.TestLaws.{failing-price-found, fails-true, true-fails, row-covered, covered-row}
use Rattle.bands.proofs.VerdictLaws.{failing-row-is, failing-row-found, pairs-accepted, pairs-uncovered, pairs-overlapping}
use Rattle.bands.proofs.VerdictLaws.{bad-index-is, bad-index-found, table-bad, table-many, table-pairs}

module _ (b : Bands) where
  -- the definition's pair is the first failing one
  pub first-failing-is : failing_row b ≤ 60 → FirstFailing b (failing_row b) (failing_price b (failing_row b))
  first-failing-is h =
      let r = failing_row b in
      let here = failing-price-is b r in
      let fits = true-fails b r ((failing-row-is b).passes (omega arith)) in
      record {
        row-least = (failing-row-is b).least;
        row-most = h;
        price-most = fits;
        here = true-failing b r (failing_price b r) (here.passes (omega arith));
        rows_before = λ r' p l m. row-covered b r' ((failing-row-is b).before r' l m) p;
        prices-before = λ p m. false-failing b r p (here.before p (omega arith) m);
      }

  -- and the only one
  module _ (row price : ℕ) (f : FirstFailing b row price) where
    pub first-failing-price : price ≡ failing_price b row
    first-failing-price =
        failing-price-found b row price
        (record {
          least = omega arith;
          most = omega (arith, f.price-most);
          before = λ k l m. failing-false b row k (f.prices-before k m);
          passes = λ m. failing-true b row price f.here;
        })

    pub first-failing-row : row ≡ failing_row b
    first-failing-row =
        failing-row-found b row
        (record {
          least = f.row-least;
          most = omega (arith, f.row-most);
          before = λ r l m. covered-row b r (λ p. f.rows_before r p l m);
          passes = λ m. fails-true b row price first-failing-price f.price-most;
        })

  pub first-failing-unique :
      (row price row' price' : ℕ) → FirstFailing b row price → FirstFailing b row' price' → (row ≡ row') × (price ≡ price')
  first-failing-unique row price row' price' f g =
      let rows : row ≡ row' = first-failing-row row price f ∙ sym (first-failing-row row' price' g) in
      (rows, first-failing-price row price f ∙ (ap (failing_price b) rows ∙ sym (first-failing-price row' price' g)))

  -- no row fails where and only where the bands are a partition
  pub partition : 60 < failing_row b → Partition b
  partition h row price l m p = row-covered b row ((failing-row-is b).before row l (omega arith)) price p

  pub partition-row : Partition b → most_steps + 1 ≡ failing_row b
  partition-row all =
      failing-row-found b (most_steps + 1)
      (record {
        least = omega arith;
        most = omega arith;
        before = λ r l m. covered-row b r (λ p q. all r p l (omega arith) q);
        passes = λ m. absurd (none m);
      })
    where
      none : most_steps + 1 < most_steps + 1 → ⊥
      none m = omega arith

module _ (b : Bands) (haircut : ℕ → ℕ) where
  all_sound : b.count ≤ bad_index b haircut → AllSound b haircut
  all_sound h k m = (bad-index-is b haircut).before k (omega arith) (omega arith)

  sound-index : AllSound b haircut → b.count ≡ bad_index b haircut
  sound-index all =
      bad-index-found b haircut b.count
      (record { least = omega arith; most = omega arith; before = λ k l m. all k m; passes = λ m. absurd (none m) })
    where
      none : b.count < b.count → ⊥
      none m = omega arith

  -- the verdict has the meaning
  pub verdict-judged : Judged b haircut (table_verdict b haircut)
  verdict-judged =
      elim (dec_le b.count (bad_index b haircut)) [
        | yes h ↦ elim (dec_le b.count 40) [
          | yes m ↦ elim (dec_le (failing_row b) 60) [
            | yes r ↦ elim (ℕ_discrete (coverage b (failing_row b) (failing_price b (failing_row b))) 0) [
              | yes z ↦ uncovered (failing_row b) (failing_price b (failing_row b)) (all_sound h) m (first-failing-is b r) z
                  (sym (pairs-uncovered b _ _ refl r refl _ refl z ∙ table-pairs b haircut _ refl h m))
              | no z ↦ overlapping (failing_row b) (failing_price b (failing_row b)) (all_sound h) m (first-failing-is b r)
                  (two z (first-failing-is b r).here)
                  (sym (pairs-overlapping b _ _ refl r refl _ refl z ∙ table-pairs b haircut _ refl h m))
            ]
            | no r ↦ accepted (all_sound h) m (partition b (omega arith)) (sym (pairs-accepted b _ refl (omega arith) ∙ table-pairs b haircut _ refl h m))
          ]
          | no m ↦ too_many (all_sound h) (omega arith) (sym (table-many b haircut _ refl h (omega arith)))
        ]
        | no h ↦ bad-band (bad_index b haircut) (omega arith) ((bad-index-is b haircut).passes (omega arith))
            (λ j m. (bad-index-is b haircut).before j (omega arith) m) (sym (table-bad b haircut _ refl (omega arith)))
      ]
    where
      two : {n : ℕ} → (n ≡ 0 → ⊥) → (n ≡ 1 → ⊥) → 2 ≤ n
      two p q = omega arith

  -- what has the meaning is the verdict
  pub judged-verdict : (v : Verdict) → Judged b haircut v → v ≡ table_verdict b haircut
  judged-verdict v (bad-band k h here before e) =
      e ∙ table-bad b haircut k
      (bad-index-found b haircut k
      (record { least = omega arith; most = omega arith; before = λ j l m. before j m; passes = λ m. here })) h
  judged-verdict v (too_many all m e) = e ∙ table-many b haircut b.count (sound-index all) (omega arith) m
  judged-verdict v (uncovered row price all m f z e) =
      e ∙ (pairs-uncovered b row price (first-failing-row b row price f) f.row-most (first-failing-price b row price f) (coverage b row price) refl z
      ∙ table-pairs b haircut b.count (sound-index all) (omega arith) m)
  judged-verdict v (overlapping row price all m f z e) =
      e ∙ (pairs-overlapping b row price (first-failing-row b row price f) f.row-most (first-failing-price b row price f)
      (coverage b row price) refl (λ q. omega arith)
      ∙ table-pairs b haircut b.count (sound-index all) (omega arith) m)
  judged-verdict v (accepted all m p e) =
      e ∙ (pairs-accepted b (most_steps + 1) (partition-row b p) (omega arith) ∙ table-pairs b haircut b.count (sound-index all) (omega arith) m)
