-- The cases of a verdict, in the order of the tests.
-- Assumes nothing.
use mathlib.Core.Path.{◌≡◌, sym, ◌∙◌}
use mathlib.Core.Bool.{true, false}
use mathlib.Core.List.{List}
use Prim.Native.Nat.{ℕ, ◌+◌, ◌≤◌, ◌<◌}
use native.Mathlib.Omega.{arith}
use borrow.Author.Tests.{le-leb, lt-leb, lt-ltb, le-ltb, eq-eqb, ne_eqb}
use Rattle.bands.specs.inside.Search.{First}
use Rattle.limits.specs.Limits.{most_steps, value_limit}
use Rattle.arithmetic.specs.Row.{values}
use Rattle.arithmetic.proofs.Implied.{Implied, lastly, ◌▸◌}
use Rattle.bands.specs.Bands.{Bands, bands_of, coverage, fails, failing_price, failing_row, bad_index}
use Rattle.bands.specs.Bands.{verdict_of, pair_verdict, pairs_verdict, table_verdict, same_lengths, verdict, unsound}
use Rattle.bands.proofs.FirstLaws.{first-is, first_found}
use Rattle.bands.proofs.TestLaws.{true-fails}

module _ (b : Bands) where
  pub failing-row-is : First (fails b) 1 (most_steps + 1) (failing_row b)
  unfolding failing_row
  failing-row-is = first-is (fails b) 1 (most_steps + 1) (omega arith)

  pub failing-row-found : (row : ℕ) → First (fails b) 1 (most_steps + 1) row → row ≡ failing_row b
  unfolding failing_row
  failing-row-found row f = first_found (fails b) 1 (most_steps + 1) row (omega arith) f

  pub pairs-accepted : (row : ℕ) → row ≡ failing_row b → 60 < row → verdict_of 0 0 0 0 ≡ pairs_verdict b
  unfolding pairs_verdict
  pairs-accepted row e h = simp (lt-leb (failing_row b) 60 (omega arith))

  module _ (row price : ℕ) (e : row ≡ failing_row b) (h : row ≤ 60) (p : price ≡ failing_price b row) where
    pub failing-price-fits : price ≤ value_limit
    failing-price-fits = omega (arith, true-fails b row (rw e (failing-row-is.passes (omega arith))))

    pairs-some : pair_verdict b row price ≡ pairs_verdict b
    unfolding pairs_verdict
    pairs-some = rw (p, e, le-leb (failing_row b) 60 (omega arith))

    pub pairs-uncovered : (count : ℕ) → count ≡ coverage b row price → count ≡ 0 → verdict_of 17 row price 0 ≡ pairs_verdict b
    unfolding pair_verdict
    pairs-uncovered count c z = rw (eq-eqb (coverage b row price) 0 (sym c ∙ z)) at pairs-some

    pub pairs-overlapping : (count : ℕ) → count ≡ coverage b row price → (count ≡ 0 → ⊥) → verdict_of 18 row price 0 ≡ pairs_verdict b
    unfolding pair_verdict
    pairs-overlapping count c z = rw (ne_eqb (coverage b row price) 0 (λ q. z (c ∙ q))) at pairs-some

module _ (b : Bands) (haircut : ℕ → ℕ) where
  pub bad-index-is : First (unsound b haircut) 0 b.count (bad_index b haircut)
  unfolding bad_index
  bad-index-is = first-is (unsound b haircut) 0 b.count (omega arith)

  pub bad-index-found : (k : ℕ) → First (unsound b haircut) 0 b.count k → k ≡ bad_index b haircut
  unfolding bad_index
  bad-index-found k f = first_found (unsound b haircut) 0 b.count k (omega arith) f

  module _ (bad : ℕ) (e : bad ≡ bad_index b haircut) where
    pub table-bad : bad < b.count → verdict_of 16 0 0 (bad + 1) ≡ table_verdict b haircut
    unfolding table_verdict
    table-bad h = rw (e, lt-ltb (bad_index b haircut) b.count (omega arith))

    pub table-many : b.count ≤ bad → 40 < b.count → verdict_of 16 0 0 41 ≡ table_verdict b haircut
    unfolding table_verdict
    table-many h m = rw (le-ltb (bad_index b haircut) b.count (omega arith), lt-leb b.count 40 m)

    pub table-pairs : b.count ≤ bad → b.count ≤ 40 → pairs_verdict b ≡ table_verdict b haircut
    unfolding table_verdict
    table-pairs h m = rw (le-ltb (bad_index b haircut) b.count (omega arith), le-leb b.count 40 m)

module _ {fs ls lows highs hs : List ℕ} (_ : Implied (fs ▸ ls ▸ lows ▸ highs ▸ lastly hs)) where
  pub verdict-lengths : same_lengths fs ls lows highs hs ≡ false → verdict_of 6 0 0 0 ≡ verdict fs ls lows highs hs
  unfolding verdict
  verdict-lengths h = rw h

  pub verdict-table : same_lengths fs ls lows highs hs ≡ true → table_verdict (bands_of fs ls lows highs) (values hs) ≡ verdict fs ls lows highs hs
  unfolding verdict
  verdict-table h = rw h
