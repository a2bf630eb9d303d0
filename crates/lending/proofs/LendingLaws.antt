-- Lending worth: the band of a pair in an accepted table, and the cases of the answer.
-- Assumes nothing.
use mathlib.Core.Path.{◌≡◌, refl, sym, ◌∙◌, ap}
use mathlib.Core.Bool.{true, false, and-false}
use mathlib.Core.List.{List}
use mathlib.Core.Logic.{⊎_elim}
use Prim.Native.Nat.{ℕ, zero, suc, ◌+◌, ◌-◌, ◌*◌, ◌≤◌, ◌<◌}
use native.Mathlib.Nat.{le_of_suc-le-suc, eq-or-lt_of_le, not-suc-le-zero, mul-le-mul_left, mul-le-mul}
use native.Mathlib.Omega.{arith}
use native.Mathlib.Decide.{dec_le}
use borrow.Author.Tests.{le-leb, lt-leb, ne_eqb, not-false}
use lib.ListN.{length}
use Rattle.bands.specs.inside.Search.{First}
use Rattle.bands.specs.declared.Verdict.{Verdict}
use Rattle.lending.specs.declared.Worth.{Worth}
use Rattle.limits.specs.Limits.{value_limit}
use Rattle.arithmetic.specs.Row.{values}
use Rattle.arithmetic.proofs.Implied.{Implied, implied, lastly, ◌▸◌}
use Rattle.bands.specs.Bands.{Bands, bands_of, contains, covering, coverage, sound, Partition, same_lengths, table_verdict, verdict, verdict_of}
use Rattle.bands.specs.Judged.{AllSound, Judged, bad-band, too_many, uncovered, overlapping, accepted}
use Rattle.lending.specs.Lending.{band_index, after_haircut, refused_worth, lending_worth}
use Rattle.bands.proofs.FirstLaws.{first-is}
use Rattle.bands.proofs.TestLaws.{lengths-agree}
use Rattle.bands.proofs.SoundLaws.{sound-band}
use Rattle.bands.proofs.VerdictLaws.{verdict-table}
use Rattle.bands.proofs.Meaning.{verdict-judged}

module _ (b : Bands) (row price : ℕ) where
  pub band-index-is : First (contains b row price) 0 b.count (band_index b row price)
  unfolding band_index
  band-index-is = first-is (contains b row price) 0 b.count (omega arith)

  -- no band, none counted
  pub none-covering : (n : ℕ) → ((k : ℕ) → k < n → contains b row price k ≡ false) → covering b row price n ≡ 0
  unfolding covering
  none-covering zero h = refl
  none-covering (suc n) h =
      let a : covering b row price n ≡ 0 = none-covering n (λ k l. h k (omega arith)) in
      let c : contains b row price n ≡ false = h n (omega arith) in
      rw (a, c)

  -- a band that contains the pair is counted
  pub some-covering : (n k : ℕ) → k < n → contains b row price k ≡ true → 1 ≤ covering b row price n
  unfolding covering
  some-covering zero k l h = absurd (not-suc-le-zero l)
  some-covering (suc n) k l h =
      ⊎_elim
      (λ (e : k ≡ n). let here : contains b row price n ≡ true = ap (contains b row price) (sym e) ∙ h in rw here (omega arith))
      (λ (m : k < n). omega (arith, some-covering n k m h))
      (eq-or-lt_of_le (le_of_suc-le-suc l))

  -- and so are two
  pub two-covering :
      (n j k : ℕ) → j < k → k < n → contains b row price j ≡ true → contains b row price k ≡ true → 2 ≤ covering b row price n
  unfolding covering
  two-covering zero j k l m p q = absurd (not-suc-le-zero m)
  two-covering (suc n) j k l m p q =
      ⊎_elim
      (λ (e : k ≡ n).
      let here : contains b row price n ≡ true = ap (contains b row price) (sym e) ∙ q in
      rw here (omega (arith, some-covering n j (omega arith) p)))
      (λ (s : k < n). omega (arith, two-covering n j k l s p q))
      (eq-or-lt_of_le (le_of_suc-le-suc m))

  -- a pair in precisely one band: the band is found, contains the pair, and is the only one
  module _ (once : coverage b row price ≡ 1) where
    pub band-found : band_index b row price < b.count
    band-found = elim (dec_le b.count (band_index b row price)) [ yes h ↦ absurd (none h) | no h ↦ omega arith ]
      where
        none : b.count ≤ band_index b row price → ⊥
        none h = omega (arith, none-covering b.count (λ k l. band-index-is.before k (omega arith) (omega arith)))

    pub band-contains : contains b row price (band_index b row price) ≡ true
    band-contains = band-index-is.passes band-found

    pub band-only : (k : ℕ) → k < b.count → contains b row price k ≡ true → k ≡ band_index b row price
    band-only k l h =
        let i = band_index b row price in
        let low : k < i → ⊥ = (λ m. omega (arith, two-covering b.count k i m band-found h band-contains)) in
        let high : i < k → ⊥ = (λ m. omega (arith, two-covering b.count i k m l band-contains h)) in
        omega arith

-- a refusal's number is not 0
pub refused-number : (v : Verdict) (n row price place : ℕ) → v ≡ verdict_of (suc n) row price place → v.number ≡ 0 → ⊥
refused-number v n row price place e z = let q : suc n ≡ 0 = sym (ap (λ (w : Verdict). w.number) e) ∙ z in omega arith

-- an accepted table, from its number
pub judged-accepted : (b : Bands) (haircut : ℕ → ℕ) (v : Verdict) → Judged b haircut v → v.number ≡ 0 → AllSound b haircut × Partition b
judged-accepted b haircut v (bad-band k h here before e) z = absurd (refused-number v 15 0 0 (k + 1) e z)
judged-accepted b haircut v (too_many all m e) z = absurd (refused-number v 15 0 0 41 e z)
judged-accepted b haircut v (uncovered row price all m f c e) z = absurd (refused-number v 16 row price 0 e z)
judged-accepted b haircut v (overlapping row price all m f c e) z = absurd (refused-number v 17 row price 0 e z)
judged-accepted b haircut v (accepted all m p e) z = (all, p)

module _ {fs ls lows highs hs : List ℕ} {row price : ℕ} (_ : Implied (fs ▸ ls ▸ lows ▸ highs ▸ hs ▸ row ▸ lastly price)) where
  -- a table that was accepted, and a pair in range
  module _
      (same : same_lengths fs ls lows highs hs ≡ true) {v : Verdict} (e : v ≡ verdict fs ls lows highs hs) (z : v.number ≡ 0)
      (l : 1 ≤ row) (m : row ≤ 60) (p : price ≤ value_limit) where
    table-accepted : AllSound (bands_of fs ls lows highs) (values hs) × Partition (bands_of fs ls lows highs)
    table-accepted =
        let b = bands_of fs ls lows highs in
        judged-accepted b (values hs) (table_verdict b (values hs)) (verdict-judged b (values hs))
        (ap (λ (w : Verdict). w.number) (verdict-table implied same ∙ sym e) ∙ z)

    here : band_index (bands_of fs ls lows highs) row price < length fs
    here = band-found (bands_of fs ls lows highs) row price (table-accepted.1 row price l m p)

    -- k is the band that the search found
    module _ {k : ℕ} (found : k ≡ band_index (bands_of fs ls lows highs) row price) where
      pub in_table : k < length hs
      in_table = omega (arith, here, (lengths-agree implied same).1)

      pub haircut-fits : values hs k ≤ 10000
      haircut-fits =
          (sound-band
          (not-false (sound (values fs k) (values ls k) (values lows k) (values highs k) (values hs k))
          (table-accepted.0 k (omega (arith, here))))
          ).haircut-most

      pub lending-accepted : record { worth = after_haircut price (values hs k); verdict = v } ≡ lending_worth fs ls lows highs hs row price
      unfolding lending_worth
      lending-accepted = rw (← e, le-leb 1 row l, le-leb row 60 m, same, le-leb price value_limit p, z, found)

  -- the refusals, in their order
  pub lending-row-low : row < 1 → refused_worth 6 ≡ lending_worth fs ls lows highs hs row price
  unfolding lending_worth
  lending-row-low h = rw (lt-leb 1 row h)

  pub lending-row-high : 60 < row → refused_worth 6 ≡ lending_worth fs ls lows highs hs row price
  unfolding lending_worth
  lending-row-high h = simp (lt-leb row 60 h, and-false)

  pub lending-lengths : same_lengths fs ls lows highs hs ≡ false → refused_worth 6 ≡ lending_worth fs ls lows highs hs row price
  unfolding lending_worth
  lending-lengths h = simp (h, and-false)

  module _ (l : 1 ≤ row) (m : row ≤ 60) (same : same_lengths fs ls lows highs hs ≡ true) where
    pub lending-price : value_limit < price → refused_worth 12 ≡ lending_worth fs ls lows highs hs row price
    unfolding lending_worth
    lending-price h = rw (le-leb 1 row l, le-leb row 60 m, same, lt-leb price value_limit h)

    pub lending-refused :
        {v : Verdict} → v ≡ verdict fs ls lows highs hs → price ≤ value_limit → (v.number ≡ 0 → ⊥) →
        record { worth = 0; verdict = v } ≡ lending_worth fs ls lows highs hs row price
    unfolding lending_worth
    lending-refused {v} e p z = rw (← e, le-leb 1 row l, le-leb row 60 m, same, le-leb price value_limit p, ne_eqb v.number 0 z)

-- the worth fits, and is at most the price
pub product-fits : (price haircut : ℕ) → price ≤ value_limit → price * (10000 - haircut) ≤ 80000000000000
product-fits price haircut p = omega (arith, mul-le-mul {n₁ = price} {m₁ = 10000 - haircut} {n₂ = value_limit} {m₂ = 10000} p (omega arith))

pub worth-most : (price haircut : ℕ) → after_haircut price haircut ≤ price
worth-most price haircut = omega (arith, mul-le-mul_left price (less haircut))
  where
    less : (h : ℕ) → 10000 - h ≤ 10000
    less h = omega arith

-- An accepted table, a row of 1 .. 60 and a price of 0 .. 8 × one: the worth is by the haircut of whichever band contains the pair.
pub lending-meaning :
    (fs ls lows highs hs : List ℕ) (row price k : ℕ) → same_lengths fs ls lows highs hs ≡ true →
    (verdict fs ls lows highs hs).number ≡ 0 → 1 ≤ row → row ≤ 60 → price ≤ value_limit →
    k < length fs → contains (bands_of fs ls lows highs) row price k ≡ true →
    (lending_worth fs ls lows highs hs row price).worth ≡ after_haircut price (values hs k)
lending-meaning fs ls lows highs hs row price k same z l m p fits inside =
    let b = bands_of fs ls lows highs in
    let once : coverage b row price ≡ 1 = (table-accepted implied same refl z l m p).1 row price l m p in
    sym (ap (λ (w : Worth). w.worth)
    (lending-accepted implied same refl z l m p (band-only b row price once k fits inside)))
