-- Tables whose verdict is known, shown by what a verdict means and not by running the definition.
-- Assumes nothing.
use mathlib.Core.Path.{◌≡◌, refl, sym, ◌∙◌, ap}
use mathlib.Core.List.{[], ◌∷◌}
use Prim.Native.Nat.{ℕ, zero, suc, ◌≤◌, ◌<◌}
use native.Mathlib.Omega.{arith}
use borrow.Author.Tests.{le-leb}
use Rattle.bands.specs.declared.Verdict.{Verdict}
use Rattle.limits.specs.Limits.{value_limit}
use Rattle.arithmetic.specs.Row.{values}
use Rattle.arithmetic.proofs.Implied.{implied}
use Rattle.bands.specs.Bands.{Bands, bands_of, covering, coverage, within, sound, verdict, verdict_of, same_lengths}
use Rattle.bands.specs.Judged.{AllSound, uncovered, accepted}
use Rattle.lending.specs.Lending.{lending_worth}
use Rattle.bands.proofs.StopLaws.{inside}
use Rattle.bands.proofs.VerdictLaws.{verdict-table}
use Rattle.bands.proofs.Meaning.{judged-verdict}
use Rattle.lending.proofs.LendingLaws.{lending-meaning}

-- no bands: row 1, price 0 is in none
pub no-bands : verdict [] [] [] [] [] ≡ verdict_of 17 1 0 0
unfolding covering same_lengths
no-bands =
    sym
    (judged-verdict (bands_of [] [] [] []) (values []) (verdict_of 17 1 0 0)
    (uncovered 1 0 (λ k m. absurd (below-zero k m)) (omega arith)
    (record {
      row-least = omega arith;
      row-most = omega arith;
      price-most = omega arith;
      here = other;
      rows_before = λ r p l m. absurd (no_row r l m);
      prices-before = λ p m. absurd (below-zero p m);
    })
    refl refl)
    ∙ verdict-table implied refl)
  where
    below-zero : (k : ℕ) → k < 0 → ⊥
    below-zero k m = omega arith

    no_row : (r : ℕ) → 1 ≤ r → r < 1 → ⊥
    no_row r l m = omega arith

    other : ◌≡◌ {A = ℕ} 0 1 → ⊥
    other e = omega arith

-- one band over all rows and prices
abbrev whole : Bands
whole = bands_of (1 ∷ []) (60 ∷ []) (0 ∷ []) (8000000000 ∷ [])

whole_covers : (row price : ℕ) → 1 ≤ row → row ≤ 60 → price ≤ value_limit → coverage whole row price ≡ 1
unfolding covering
whole_covers row price l m p = rw (inside {lo = 0} {hi = 8000000000} l m (omega arith) p)

whole-sound : (haircut : ℕ) → haircut ≤ 10000 → AllSound whole (values (haircut ∷ []))
unfolding sound
whole-sound haircut h zero m = rw (le-leb haircut 10000 h)
whole-sound haircut h (suc k) m = absurd (past k m)
  where
    past : (k : ℕ) → suc k < 1 → ⊥
    past k m = omega arith

-- is accepted
pub one-band : (haircut : ℕ) → haircut ≤ 10000 → verdict (1 ∷ []) (60 ∷ []) (0 ∷ []) (8000000000 ∷ []) (haircut ∷ []) ≡ verdict_of 0 0 0 0
unfolding same_lengths
one-band haircut h =
    sym
    (judged-verdict whole (values (haircut ∷ [])) (verdict_of 0 0 0 0)
    (accepted (whole-sound haircut h) (omega arith) whole_covers refl)
    ∙ verdict-table implied refl)

-- and takes 2.5 percent from 1.000000001: 0.975000000975, down
pub one-band-worth : (lending_worth (1 ∷ []) (60 ∷ []) (0 ∷ []) (8000000000 ∷ []) (250 ∷ []) 60 1000000001).worth ≡ 975000000
unfolding same_lengths within
one-band-worth =
    lending-meaning (1 ∷ []) (60 ∷ []) (0 ∷ []) (8000000000 ∷ []) (250 ∷ []) 60 1000000001 0 refl
    (ap (λ (v : Verdict). v.number) (one-band 250 (omega arith))) (omega arith) (omega arith) (omega arith) (omega arith) refl
