-- Case distinctions on natural numbers and tests, and facts that are not linear.
-- Assumes nothing.
use mathlib.Core.Path.{◌≡◌, refl, subst}
use mathlib.Core.Bool.{Bool, true, false, cond}
use Prim.Native.Nat.{ℕ, ◌+◌, ◌*◌, ◌≤◌, ◌<◌}
use native.Mathlib.Nat.{mul-add, add-mul, mul_comm, mul-le-mul_right, le_dest, le_of_lt, lt_of_not-le}
use native.Mathlib.Decide.{dec_le, ℕ_discrete}
use native.Mathlib.Omega.{arith}

-- two cases: a is at most c, or above it
pub by_order {ℓ} : {X : Type ℓ} (a c : ℕ) → (a ≤ c → X) → (c < a → X) → X
by_order a c f g = elim (dec_le a c) [ yes h ↦ f h | no h ↦ g (lt_of_not-le h) ]

-- (c + t)² has c² + 2ct and more
square_above : (c t : ℕ) → 2 * ((c + t) * c) ≤ (c + t) * (c + t) + c * c
square_above c t = simp (add-mul, mul-add) (omega (arith, mul_comm t c))

-- (a - c)² is at least 0
pub tangent : (a c : ℕ) → 2 * (a * c) ≤ a * a + c * c
tangent a c =
    by_order a c
    (λ h. let d = le_dest h in
    subst (λ (x : ℕ). 2 * (a * x) ≤ a * a + x * x) d.1
    (let s = square_above a d.0 in omega (arith, s, mul_comm a (a + d.0))))
    (λ h. let d = le_dest (le_of_lt h) in subst (λ (x : ℕ). 2 * (x * c) ≤ x * x + c * c) d.1 (square_above c d.0))

-- (a - l) (u - a) is at least 0 between l and u
pub between : (a l u : ℕ) → l ≤ a → a ≤ u → a * a + l * u ≤ a * (l + u)
between a l u hl hu =
    let e = le_dest hu in
    subst (λ (x : ℕ). a * a + l * x ≤ a * (l + x)) e.1
    (simp mul-add (omega (arith, mul_comm l a, mul-le-mul_right e.0 hl)))

-- two cases: a is c, or not
pub by_equal {ℓ} : {X : Type ℓ} (a c : ℕ) → (a ≡ c → X) → ((a ≡ c → ⊥) → X) → X
by_equal a c f g = elim (ℕ_discrete a c) [ yes e ↦ f e | no e ↦ g e ]

-- a choice by a test, given what the test says
pub by-test {ℓ} : (t : Bool) {A : Type ℓ} (P : A → Type 0) (x y : A) → (t ≡ true → P x) → (t ≡ false → P y) → P (cond t x y)
by-test true P x y f g = f refl
by-test false P x y f g = g refl

-- (x - y) (g - v) is at least 0
pub cross : (x y v g : ℕ) → y ≤ x → v ≤ g → x * v + g * y ≤ g * x + y * v
cross x y v g hx hv =
    let (d, ex) = le_dest hx in
    let (e, eg) = le_dest hv in
    rw (← ex, ← eg) (omega arith)
