-- The tests of a table, as facts.
-- Assumes nothing.
use mathlib.Core.Path.{◌≡◌, sym, ◌∙◌}
use mathlib.Core.Bool.{true, false, ◌&&◌, and-false}
use mathlib.Core.List.{List}
use Prim.Native.Nat.{ℕ, ◌+◌, ◌≤◌, ◌<◌}
use native.Mathlib.Omega.{arith}
use borrow.Author.Tests.{le-leb, lt-leb, leb-true, leb-false, eq-eqb, ne_eqb, eqb-true, eqb-false, not-true, not-false}
use lib.Dec.{eqb}
use Rattle.arithmetic.proofs.BetweenLaws.{and_left, and_right}
use Rattle.arithmetic.proofs.Implied.{Implied, lastly, ◌▸◌}
use lib.ListN.{length}
use Rattle.bands.specs.inside.Search.{First}
use Rattle.limits.specs.Limits.{value_limit}
use Rattle.bands.specs.Bands.{Bands, same_lengths, coverage, failing, fails, failing_price}
use Rattle.bands.specs.inside.Lists.{Parallel}
use Rattle.bands.specs.inside.Stops.{StopAt}
use Rattle.bands.proofs.FirstLaws.{first-is, first_found}

module _ (b : Bands) (row price : ℕ) where
  pub failing-false : coverage b row price ≡ 1 → failing b row price ≡ false
  unfolding failing
  failing-false h = rw (eq-eqb (coverage b row price) 1 h)

  pub failing-true : (coverage b row price ≡ 1 → ⊥) → failing b row price ≡ true
  unfolding failing
  failing-true h = rw (ne_eqb (coverage b row price) 1 h)

  pub false-failing : failing b row price ≡ false → coverage b row price ≡ 1
  unfolding failing
  false-failing h = eqb-true (coverage b row price) 1 (not-false (eqb (coverage b row price) 1) h)

  pub true-failing : failing b row price ≡ true → coverage b row price ≡ 1 → ⊥
  unfolding failing
  true-failing h = eqb-false (coverage b row price) 1 (not-true (eqb (coverage b row price) 1) h)

-- a stop: it fails, or no price before the next stop does
module _ {b : Bands} {row price count end : ℕ} (stop : StopAt b row price b.count count end) where
  pub stop-fails : (count ≡ 1 → ⊥) → failing b row price ≡ true
  stop-fails h = failing-true b row price (λ e. h (stop.counted ∙ e))

  pub stop-passes : count ≡ 1 → (q : ℕ) → price ≤ q → q < end → failing b row q ≡ false
  stop-passes h q l m = failing-false b row q (stop.same q l m ∙ (sym stop.counted ∙ h))

module _ (b : Bands) (row : ℕ) where
  pub failing-price-is : First (failing b row) 0 (value_limit + 1) (failing_price b row)
  unfolding failing_price
  failing-price-is = first-is (failing b row) 0 (value_limit + 1) (omega arith)

  pub failing-price-found : (price : ℕ) → First (failing b row) 0 (value_limit + 1) price → price ≡ failing_price b row
  unfolding failing_price
  failing-price-found price f = first_found (failing b row) 0 (value_limit + 1) price (omega arith) f

  pub fails-true : (price : ℕ) → price ≡ failing_price b row → price ≤ value_limit → fails b row ≡ true
  unfolding fails
  fails-true price e h = le-leb (failing_price b row) value_limit (omega arith)

  pub fails-false : (price : ℕ) → price ≡ failing_price b row → value_limit < price → fails b row ≡ false
  unfolding fails
  fails-false price e h = lt-leb (failing_price b row) value_limit (omega arith)

  pub true-fails : fails b row ≡ true → failing_price b row ≤ value_limit
  unfolding fails
  true-fails h = leb-true (failing_price b row) value_limit h

  -- a row that does not fail has each price in precisely one band, and back
  pub row-covered : fails b row ≡ false → (price : ℕ) → price ≤ value_limit → coverage b row price ≡ 1
  unfolding fails
  row-covered h price m =
      false-failing b row price (failing-price-is.before price (omega arith) (omega (arith, leb-false (failing_price b row) value_limit h)))

  pub covered-row : ((price : ℕ) → price ≤ value_limit → coverage b row price ≡ 1) → fails b row ≡ false
  covered-row all =
      fails-false (value_limit + 1)
      (failing-price-found (value_limit + 1)
      (record {
        least = omega arith;
        most = omega arith;
        before = λ k l m. failing-false b row k (all k (omega arith));
        passes = λ m. absurd (none m);
      }))
      (omega arith)
    where
      none : value_limit + 1 < value_limit + 1 → ⊥
      none m = omega arith

-- one length, or another of some list
module _ {fs ls lows highs hs : List ℕ} (_ : Implied (fs ▸ ls ▸ lows ▸ highs ▸ lastly hs)) where
  pub other-lasts : (length ls ≡ length fs → ⊥) → false ≡ same_lengths fs ls lows highs hs
  unfolding same_lengths
  other-lasts h = simp (ne_eqb (length ls) (length fs) h)

  pub other-lowests : (length lows ≡ length fs → ⊥) → false ≡ same_lengths fs ls lows highs hs
  unfolding same_lengths
  other-lowests h = simp (ne_eqb (length lows) (length fs) h, and-false)

  pub other-highests : (length highs ≡ length fs → ⊥) → false ≡ same_lengths fs ls lows highs hs
  unfolding same_lengths
  other-highests h = simp (ne_eqb (length highs) (length fs) h, and-false)

  pub other-haircuts : (length hs ≡ length fs → ⊥) → false ≡ same_lengths fs ls lows highs hs
  unfolding same_lengths
  other-haircuts h = simp (ne_eqb (length hs) (length fs) h, and-false)

  pub one-length :
      length ls ≡ length fs → length lows ≡ length fs → length highs ≡ length fs → length hs ≡ length fs →
      true ≡ same_lengths fs ls lows highs hs
  unfolding same_lengths
  one-length a b c d =
      simp (
        eq-eqb (length ls) (length fs) a,
        eq-eqb (length lows) (length fs) b,
        eq-eqb (length highs) (length fs) c,
        eq-eqb (length hs) (length fs) d,
      )

-- the lengths are one
pub lengths-agree :
    {fs ls lows highs hs : List ℕ} → Implied (fs ▸ ls ▸ lows ▸ highs ▸ lastly hs) → same_lengths fs ls lows highs hs ≡ true →
    Parallel fs ls lows highs × (length hs ≡ length fs)
unfolding same_lengths
lengths-agree {fs} {ls} {lows} {highs} {hs} _ same =
    let a = eqb (length ls) (length fs) in
    let c = eqb (length lows) (length fs) in
    let d = eqb (length highs) (length fs) in
    let e = eqb (length hs) (length fs) in
    let p : c && (d && e) ≡ true = and_right a (c && (d && e)) same in
    let q : d && e ≡ true = and_right c (d && e) p in (
      (
        eqb-true (length ls) (length fs) (and_left a (c && (d && e)) same),
        eqb-true (length lows) (length fs) (and_left c (d && e) p),
        eqb-true (length highs) (length fs) (and_left d e q),
      ),
      eqb-true (length hs) (length fs) (and_right d e q),
    )
