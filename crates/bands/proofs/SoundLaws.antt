-- The test of a band is what document 02 says.
-- Assumes nothing.
use mathlib.Core.Path.{◌≡◌}
use mathlib.Core.Bool.{true, ◌&&◌}
use Prim.Native.Nat.{ℕ, ◌≤◌}
use native.Mathlib.Omega.{arith}
use borrow.Author.Tests.{le-leb, leb-true}
use lib.Dec.{leb}
use Rattle.limits.specs.Limits.{value_limit}
use Rattle.bands.specs.Bands.{sound}
use Rattle.bands.specs.SoundBand.{SoundBand}
use Rattle.arithmetic.proofs.BetweenLaws.{and_left, and_right}

module _ {f l lo hi h : ℕ} where
  pub sound-band : sound f l lo hi h ≡ true → SoundBand f l lo hi h
  unfolding sound
  sound-band s =
      let t₆ = leb h 10000 in
      let t₅ = leb hi value_limit && t₆ in
      let t₄ = leb lo hi && t₅ in
      let t₃ = leb l 60 && t₄ in
      let t₂ = leb f l && t₃ in
      let s₂ : t₂ ≡ true = and_right (leb 1 f) t₂ s in
      let s₃ : t₃ ≡ true = and_right (leb f l) t₃ s₂ in
      let s₄ : t₄ ≡ true = and_right (leb l 60) t₄ s₃ in
      let s₅ : t₅ ≡ true = and_right (leb lo hi) t₅ s₄ in
      let a : 1 ≤ f = leb-true 1 f (and_left (leb 1 f) t₂ s) in
      let b : f ≤ l = leb-true f l (and_left (leb f l) t₃ s₂) in
      let c : l ≤ 60 = leb-true l 60 (and_left (leb l 60) t₄ s₃) in
      let d : lo ≤ hi = leb-true lo hi (and_left (leb lo hi) t₅ s₄) in
      let e : hi ≤ value_limit = leb-true hi value_limit (and_left (leb hi value_limit) t₆ s₅) in
      record {
        rows-in-order = b;
        prices-in-order = d;
        first-least = a;
        first-most = omega arith;
        last-least = omega arith;
        last-most = c;
        lowest-most = omega arith;
        highest-most = e;
        haircut-most = leb-true h 10000 (and_right (leb hi value_limit) t₆ s₅);
      }

  pub band-sound : SoundBand f l lo hi h → sound f l lo hi h ≡ true
  unfolding sound
  band-sound s =
      simp (
        le-leb 1 f s.first-least,
        le-leb f l s.rows-in-order,
        le-leb l 60 s.last-most,
        le-leb lo hi s.prices-in-order,
        le-leb hi value_limit s.highest-most,
        le-leb h 10000 s.haircut-most,
      )
