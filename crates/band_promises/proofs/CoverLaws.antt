-- The tests of a table in the words of its promises: which bands contain a pair, and which are good.
-- Assumes nothing.
use mathlib.Core.Path.{◌≡◌, refl, sym, ◌∙◌, ap}
use mathlib.Core.Bool.{Bool, true, false, not, ◌&&◌}
use Prim.Native.Nat.{ℕ, zero, suc, ◌≤◌, ◌<◌}
use native.Mathlib.Nat.{not-suc-le-zero}
use native.Mathlib.Omega.{arith}
use native.Mathlib.Decide.{dec_le}
use borrow.Author.Tests.{leb-true, not-false}
use lib.Dec.{leb}
use Rattle.arithmetic.specs.Row.{values}
use Rattle.arithmetic.proofs.BetweenLaws.{and_left, and_right}
use Rattle.arithmetic.proofs.Implied.{implied}
use Rattle.bands.specs.Bands.{Bands, bands_of, within, contains, flag, covering, coverage, sound, unsound, same_lengths}
use Rattle.bands.proofs.StopLaws.{inside}
use Rattle.bands.proofs.SoundLaws.{sound-band, band-sound}
use Rattle.bands.proofs.TestLaws.{lengths-agree, one-length}
use Rattle.lending.specs.Lending.{band_index}
use Rattle.lending.proofs.LendingLaws.{none-covering, some-covering, two-covering, band-found, band-contains, band-only}
use Rattle.band_promises.specs.BandPromises.{Table, size, OneLength, Good, Holds, Once, Nowhere, Twice}

-- a test by its two answers
pub by-test : {A : Type 0} (t : Bool) → (t ≡ true → A) → (t ≡ false → A) → A
by-test true f g = f refl
by-test false f g = g refl

pub true-false : true ≡ false → ⊥
true-false e = let z : ◌≡◌ {A = ℕ} 1 0 = ap flag e in omega arith

-- ---- bands that are counted

record Counted (b : Bands) (row price n : ℕ) : Type 0 where
  band : ℕ
  fits : band < n
  contained : contains b row price band ≡ true

record CountedTwice (b : Bands) (row price n : ℕ) : Type 0 where
  band : ℕ
  later : ℕ
  apart : band < later
  fits : later < n
  contained : contains b row price band ≡ true
  contained-too : contains b row price later ≡ true

module _ (b : Bands) (row price : ℕ) where
  flag_true : (k : ℕ) → contains b row price k ≡ true → flag (contains b row price k) ≡ 1
  flag_true k e = ap flag e

  flag-false : (k : ℕ) → contains b row price k ≡ false → flag (contains b row price k) ≡ 0
  flag-false k e = ap flag e

  some-counted : (n : ℕ) → 1 ≤ covering b row price n → Counted b row price n
  unfolding covering
  some-counted zero h = absurd (not-suc-le-zero h)
  some-counted (suc n) h =
      by-test (contains b row price n) (λ e. record { band = n; fits = omega arith; contained = e })
      (λ e.
      let before = some-counted n (omega (arith, flag-false n e)) in
      record { band = before.band; fits = omega (arith, before.fits); contained = before.contained })

  two-counted : (n : ℕ) → 2 ≤ covering b row price n → CountedTwice b row price n
  unfolding covering
  two-counted zero h = absurd (not-suc-le-zero h)
  two-counted (suc n) h =
      by-test (contains b row price n)
      (λ e.
      let before = some-counted n (omega (arith, flag_true n e)) in
      record {
        band = before.band;
        later = n;
        apart = before.fits;
        fits = omega arith;
        contained = before.contained;
        contained-too = e;
      })
      (λ e.
      let before = two-counted n (omega (arith, flag-false n e)) in
      record {
        band = before.band;
        later = before.later;
        apart = before.apart;
        fits = omega (arith, before.fits);
        contained = before.contained;
        contained-too = before.contained-too;
      })

-- ---- pairs

abbrev pub bands_in : Table → Bands
bands_in t = bands_of t.first_rows t.last_rows t.lowest_prices t.highest_prices

module _ (t : Table) (row price : ℕ) where
  holds-contains : (k : ℕ) → Holds t row price k → contains (bands_in t) row price k ≡ true
  holds-contains k h = inside h.from_row h.to_row h.from-price h.to-price

  contains-holds : (k : ℕ) → k < size t → contains (bands_in t) row price k ≡ true → Holds t row price k
  unfolding within
  contains-holds k fits c =
      let f = values t.first_rows k in
      let l = values t.last_rows k in
      let lo = values t.lowest_prices k in
      let hi = values t.highest_prices k in
      let t₄ = leb price hi in
      let t₃ = leb lo price && t₄ in
      let t₂ = leb row l && t₃ in
      let c₂ : t₂ ≡ true = and_right (leb f row) t₂ c in
      let c₃ : t₃ ≡ true = and_right (leb row l) t₃ c₂ in
      record {
        in_table = fits;
        from_row = leb-true f row (and_left (leb f row) t₂ c);
        to_row = leb-true row l (and_left (leb row l) t₃ c₂);
        from-price = leb-true lo price (and_left (leb lo price) t₄ c₃);
        to-price = leb-true price hi (and_right (leb lo price) t₄ c₃);
      }

  pub once_is : coverage (bands_in t) row price ≡ 1 → Once t row price
  once_is e =
      let b = bands_in t in
      record {
        band = band_index b row price;
        holds = contains-holds (band_index b row price) (band-found b row price e) (band-contains b row price e);
        only = λ k h. band-only b row price e k h.in_table (holds-contains k h);
      }

  pub nowhere-is : coverage (bands_in t) row price ≡ 0 → Nowhere t row price
  nowhere-is e k h = omega (arith, some-covering (bands_in t) row price (size t) k h.in_table (holds-contains k h))

  pub twice-is : 2 ≤ coverage (bands_in t) row price → Twice t row price
  twice-is e =
      let c = two-counted (bands_in t) row price (size t) e in
      record {
        band = c.band;
        later = c.later;
        apart = c.apart;
        holds = contains-holds c.band (omega (arith, c.apart, c.fits)) c.contained;
        holds-too = contains-holds c.later c.fits c.contained-too;
      }

  pub is-twice : Twice t row price → 2 ≤ coverage (bands_in t) row price
  is-twice h =
      two-covering (bands_in t) row price (size t) h.band h.later h.apart h.holds-too.in_table
      (holds-contains h.band h.holds) (holds-contains h.later h.holds-too)

  pub is-nowhere : Nowhere t row price → coverage (bands_in t) row price ≡ 0
  is-nowhere h =
      none-covering (bands_in t) row price (size t)
      (λ k m. by-test (contains (bands_in t) row price k) (λ e. absurd (h k (contains-holds k m e))) (λ e. e))

  pub is-once : Once t row price → coverage (bands_in t) row price ≡ 1
  is-once h =
      let least = some-covering (bands_in t) row price (size t) h.band h.holds.in_table (holds-contains h.band h.holds) in
      elim (dec_le 2 (coverage (bands_in t) row price)) [ yes m ↦ absurd (none m) | no m ↦ omega (arith, least) ]
    where
      none : 2 ≤ coverage (bands_in t) row price → ⊥
      none m =
          let c = twice-is m in
          omega (arith, c.apart, h.only c.band c.holds, h.only c.later c.holds-too)

  -- the search for a band finds this one
  pub once-band : (o : Once t row price) → o.band ≡ band_index (bands_in t) row price
  once-band o = band-only (bands_in t) row price (is-once o) o.band o.holds.in_table (holds-contains o.band o.holds)

-- ---- bands

module _ (t : Table) (k : ℕ) where
  pub sound-good : unsound (bands_in t) (values t.haircuts) k ≡ false → Good t k
  sound-good e =
      let f = values t.first_rows k in
      let l = values t.last_rows k in
      let lo = values t.lowest_prices k in
      let hi = values t.highest_prices k in
      let h = values t.haircuts k in
      let s = sound-band (not-false (sound f l lo hi h) e) in
      record {
        rows-in-order = s.rows-in-order;
        prices-in-order = s.prices-in-order;
        first-least = s.first-least;
        first-most = s.first-most;
        last-least = s.last-least;
        last-most = s.last-most;
        lowest-most = s.lowest-most;
        highest-most = s.highest-most;
        haircut-most = s.haircut-most;
      }

  pub good-sound : Good t k → unsound (bands_in t) (values t.haircuts) k ≡ false
  good-sound g =
      ap not
      (band-sound
      (record {
        rows-in-order = g.rows-in-order;
        prices-in-order = g.prices-in-order;
        first-least = g.first-least;
        first-most = g.first-most;
        last-least = g.last-least;
        last-most = g.last-most;
        lowest-most = g.lowest-most;
        highest-most = g.highest-most;
        haircut-most = g.haircut-most;
      }))

  pub unsound-bad : unsound (bands_in t) (values t.haircuts) k ≡ true → Good t k → ⊥
  unsound-bad e g = true-false (sym e ∙ good-sound g)

  pub bad-unsound : (Good t k → ⊥) → unsound (bands_in t) (values t.haircuts) k ≡ true
  bad-unsound bad = by-test (unsound (bands_in t) (values t.haircuts) k) (λ e. e) (λ e. absurd (bad (sound-good e)))

-- ---- lengths

module _ (t : Table) where
  abbrev pub same : Bool
  same = same_lengths t.first_rows t.last_rows t.lowest_prices t.highest_prices t.haircuts

  pub same_length : same ≡ true → OneLength t
  same_length e =
      let all = lengths-agree implied e in
      record { last-rows = all.0.0; lowest-prices = all.0.1; highest-prices = all.0.2; haircuts-too = all.1 }

  pub length-same : OneLength t → same ≡ true
  length-same h =
      sym (one-length implied h.last-rows h.lowest-prices
      h.highest-prices h.haircuts-too)

  pub length-other : (OneLength t → ⊥) → same ≡ false
  length-other h = by-test same (λ e. absurd (h (same_length e))) (λ e. e)
