-- The search finds the first number that passes, and there is one such number only.
-- Assumes nothing.
use mathlib.Core.Path.{◌≡◌, refl, sym, ◌∙◌, ap}
use mathlib.Core.Bool.{Bool, true, false, cond}
use mathlib.Core.Logic.{◌⊎◌, inl, inr}
use Prim.Native.Nat.{ℕ, zero, suc, ◌+◌, ◌-◌, ◌≤◌, ◌<◌}
use native.Mathlib.Nat.{le_refl, eq-or-lt_of_le}
use native.Mathlib.Omega.{arith}
use native.Mathlib.Decide.{dec_le}
use Rattle.bands.specs.Search.{search_from, first}
use Rattle.bands.specs.inside.Search.{First}

module _ (test : ℕ → Bool) where
  -- a passing start
  at-start : (start end : ℕ) → start < end → test start ≡ true → First test start end start
  at-start start end h e =
      record { least = le_refl start; most = omega arith; before = λ k l m. absurd (none k l m); passes = λ m. e }
    where
      none : (k : ℕ) → start ≤ k → k < start → ⊥
      none k l m = omega arith

  -- a failing start: the first of the rest
  past-start : (start end r : ℕ) → start < end → test start ≡ false → First test (suc start) end r → First test start end r
  past-start start end r h e f =
      record {
        least = omega (arith, f.least);
        most = f.most;
        before = λ k l m. go k m (eq-or-lt_of_le {n = start} {m = k} l);
        passes = f.passes;
      }
    where
      go : (k : ℕ) → k < r → (start ≡ k) ⊎ (start < k) → test k ≡ false
      go k m (inl s) = ap test (sym s) ∙ e
      go k m (inr l) = f.before k l m

  search-first : (n start : ℕ) → First test start (start + n) (search_from test n start)
  unfolding search_from
  search-first zero start =
      record { least = le_refl start; most = omega arith; before = λ k l m. absurd (none k l m); passes = λ m. absurd (more m) }
    where
      none : (k : ℕ) → start ≤ k → k < start → ⊥
      none k l m = omega arith

      more : start < start + 0 → ⊥
      more m = omega arith
  search-first (suc n) start = go (test start) refl (search-first n (suc start))
    where
      go :
          (t : Bool) → test start ≡ t → First test (suc start) (suc start + n) (search_from test n (suc start)) →
          First test start (start + suc n) (cond t start (search_from test n (suc start)))
      go true e f = at-start start (start + suc n) (omega arith) e
      go false e f =
          let same : suc start + n ≡ start + suc n = omega arith in
          past-start start (start + suc n) (search_from test n (suc start)) (omega arith) e (rw same at f)

  -- the definition is the first
  pub first-is : (start end : ℕ) → start ≤ end → First test start end (first test start end)
  unfolding first
  first-is start end h =
      let same : start + (end - start) ≡ end = omega arith in
      rw same at (search-first (end - start) start)

  -- there is no second
  pub first-unique : (start end r s : ℕ) → First test start end r → First test start end s → r ≡ s
  first-unique start end r s f g =
      let a : s < r → ⊥ = (λ l. clash (f.before s g.least l) (g.passes (omega (arith, f.most)))) in
      let c : r < s → ⊥ = (λ l. clash (g.before r f.least l) (f.passes (omega (arith, g.most)))) in
      omega arith
    where
      clash : {t : Bool} → t ≡ false → t ≡ true → ⊥
      clash {t} p q = let z : ◌≡◌ {A = Bool} false true = sym p ∙ q in let w : ◌≡◌ {A = ℕ} 0 1 = cc in omega arith

  pub first_found : (start end r : ℕ) → start ≤ end → First test start end r → r ≡ first test start end
  first_found start end r h f = first-unique start end r (first test start end) f (first-is start end h)

-- a search that has come to i: none of start .. i - 1 passes
pub record Searched (test : ℕ → Bool) (start end i : ℕ) : Type 0 where
  pub least : start ≤ i
  pub most : i ≤ end
  pub before : (k : ℕ) → start ≤ k → k < i → test k ≡ false

module _ {test : ℕ → Bool} {start end : ℕ} where
  pub searched-start : start ≤ end → Searched test start end start
  searched-start h = record { least = le_refl start; most = h; before = λ k l m. absurd (none k l m) }
    where
      none : (k : ℕ) → start ≤ k → k < start → ⊥
      none k l m = omega arith

  -- from i straight to j, where none between passes
  pub searched-jump :
      (i j : ℕ) → Searched test start end i → i ≤ j → j ≤ end → ((k : ℕ) → i ≤ k → k < j → test k ≡ false) → Searched test start end j
  searched-jump i j s h m none =
      record { least = omega (arith, s.least); most = m; before = λ k l below. go k l below (dec_le i k) }
    where
      go : (k : ℕ) → start ≤ k → k < j → Dec (i ≤ k) → test k ≡ false
      go k l below (yes p) = none k p below
      go k l below (no p) = s.before k l (omega arith)

  pub searched-more : (i : ℕ) → Searched test start end i → i < end → test i ≡ false → Searched test start end (i + 1)
  searched-more i s h e =
      searched-jump i (i + 1) s (omega arith) (omega arith) (λ k l m. let same : k ≡ i = omega arith in rw same e)

  pub searched-found : (i : ℕ) → Searched test start end i → i < end → test i ≡ true → i ≡ first test start end
  searched-found i s h e =
      first_found test start end i (omega (arith, s.least))
      (record { least = s.least; most = s.most; before = s.before; passes = λ m. e })

  pub searched-none : Searched test start end end → end ≡ first test start end
  searched-none s =
      first_found test start end end s.least
      (record { least = s.least; most = s.most; before = s.before; passes = λ m. absurd (none m) })
    where
      none : end < end → ⊥
      none m = omega arith
