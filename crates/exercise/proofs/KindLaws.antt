-- The kinds of option: the code's terms are document 01's side and expiry.
-- Assumes nothing.
use mathlib.Core.Path.{◌≡◌, refl, ap, ◌∙◌}
use mathlib.Core.Bool.{Bool, true, false, cond, ◌||◌}
use Prim.Native.Nat.{ℕ}
use lib.Dec.{eqb}
use Rattle.pricing_laws.specs.Pricer.{call, put}
use Rattle.pricing_laws.specs.Schedule.{side_of}
use Rattle.exercise.specs.declared.Terms.{Terms}
use Rattle.exercise.specs.Terms.{side, terms_of}

pub side-is : (kind expiry strike : ℕ) → side (terms_of kind expiry strike).call ≡ side_of kind
unfolding side_of terms_of
side-is kind expiry strike = go (eqb kind 1 || eqb kind 3)
  where
    go : (t : Bool) → side t ≡ cond t call put
    go true = refl
    go false = refl

pub strike-is : (kind expiry strike : ℕ) → (terms_of kind expiry strike).strike ≡ strike
unfolding terms_of
strike-is kind expiry strike = refl

pub last-is : (kind expiry strike : ℕ) → (terms_of kind expiry strike).last ≡ expiry
unfolding terms_of
last-is kind expiry strike = refl

module _ (kind expiry strike : ℕ) (terms : Terms) (e : terms ≡ terms_of kind expiry strike) where
  pub side-found : side terms.call ≡ side_of kind
  side-found = ap (λ (t : Terms). side t.call) e ∙ side-is kind expiry strike

  pub strike-found : terms.strike ≡ strike
  strike-found = ap (λ (t : Terms). t.strike) e ∙ strike-is kind expiry strike

  pub last_found : terms.last ≡ expiry
  last_found = ap (λ (t : Terms). t.last) e ∙ last-is kind expiry strike
