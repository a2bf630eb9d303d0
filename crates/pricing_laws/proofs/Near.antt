-- How far a rounded value may be from the exact one, and what averaging, discounting, flows and exercise do to that distance.
-- Distances are counted in half billionths, so that one rounding to nearest counts 1.
-- Assumes nothing.
use mathlib.Core.Path.{◌≡◌, ap, ◌∙◌}
use mathlib.Core.Bool.{Bool, true, false}
use Prim.Native.Nat.{ℕ, ◌+◌, ◌-◌, ◌*◌, ◌≤◌, ◌<◌, max}
use native.Mathlib.Nat.{add-mul, mul_comm, mul-sub, mul-le-mul_left, mul-le-mul_right, max-eq_left, max-eq_right, le_of_lt}
use native.Mathlib.Omega.{arith}
use Rattle.arithmetic.specs.Rounding.{one, Rounds}
use Rattle.tree.specs.Tree.{probability_total, Transition, outgoing, Inside, Total}
use Rattle.arithmetic.proofs.Numbers.{by_order}
use Rattle.pricing_laws.specs.Pricer.{Side, call, put, exercise, held_or_exercised}

-- e is the engine's number and x the exact one times M: e is above x by at most l halves, and below it by at most u halves
pub record Near (l u M e x : ℕ) : Type 0 where
  pub above : 2 * (e * M) ≤ 2 * x + l * M
  pub below : 2 * x ≤ 2 * (e * M) + u * M

-- the whole times one value, by the three probabilities
parts : (p q r w : ℕ) → p + q + r ≡ probability_total → p * w + q * w + r * w ≡ 600000000 * w
parts p q r w h = simp (← add-mul) (ap (λ (t : ℕ). t * w) h)

-- Averaging over the branches of a node, then dividing by 600,000,000.
module _ (divide : ℕ → ℕ → ℕ) (over under : ℕ) (rounds : Rounds divide over under) (t : Transition) (n m : ℕ) (inside : Inside t n m)
    (total : Total t n) (v x : ℕ → ℕ) (l u M : ℕ) (near : (j : ℕ) → j < m → Near l u M (v j) (x j)) (k : ℕ) (hk : k < n) where
  sum-above : 2 * (outgoing t v k * M) ≤ 2 * outgoing t x k + 600000000 * (l * M)
  unfolding outgoing
  sum-above =
      let a = inside k hk in
      let j = t.low k in
      omega (
        arith,
        mul-le-mul_left (t.down k) (near j (omega arith)).above,
        mul-le-mul_left (t.middle k) (near (j + 1) (omega arith)).above,
        mul-le-mul_left (t.up k) (near (j + 2) a).above,
        parts (t.down k) (t.middle k) (t.up k) (l * M) (total k hk),
      )

  sum_below : 2 * outgoing t x k ≤ 2 * (outgoing t v k * M) + 600000000 * (u * M)
  unfolding outgoing
  sum_below =
      let a = inside k hk in
      let j = t.low k in
      omega (
        arith,
        mul-le-mul_left (t.down k) (near j (omega arith)).below,
        mul-le-mul_left (t.middle k) (near (j + 1) (omega arith)).below,
        mul-le-mul_left (t.up k) (near (j + 2) a).below,
        parts (t.down k) (t.middle k) (t.up k) (u * M) (total k hk),
      )

  pub near-average : Near (l + over) (u + under) (M * probability_total) (divide (outgoing t v k) probability_total) (outgoing t x k)
  near-average =
      record {
        above = omega (arith, sum-above, mul-le-mul_right M (rounds.above (outgoing t v k) probability_total (omega arith)));
        below = omega (arith, sum_below, mul-le-mul_right M (rounds.below (outgoing t v k) probability_total (omega arith)));
      }

-- Discounting, then dividing by one. Any discount of at most g.
pub near-discount :
    (divide : ℕ → ℕ → ℕ) (over under : ℕ) → Rounds divide over under → (l u l' u' M e x d g : ℕ) → d ≤ g →
    g * l + one * over ≤ one * l' → g * u + one * under ≤ one * u' → Near l u M e x →
    Near l' u' (M * one) (divide (e * d) one) (d * x)
near-discount divide over under rounds l u l' u' M e x d g hd hl hu n =
    record {
      above =
          omega (
            arith,
            mul-le-mul_right M (rounds.above (e * d) one (omega arith)),
            mul-le-mul_left d n.above,
            mul-le-mul_right (l * M) hd,
            mul-le-mul_right M hl,
          );
      below =
          omega (
            arith,
            mul-le-mul_right M (rounds.below (e * d) one (omega arith)),
            mul-le-mul_left d n.below,
            mul-le-mul_right (u * M) hd,
            mul-le-mul_right M hu,
          );
    }

-- a flow is added to both
pub near-flow : {l u M e x : ℕ} (f : ℕ) → Near l u M e x → Near l u M (e + f) (x + f * M)
near-flow f n = record { above = omega (arith, n.above); below = omega (arith, n.below) }

sub-mul : (a c M : ℕ) → (a - c) * M ≡ a * M - c * M
sub-mul a c M = mul_comm (a - c) M ∙ simp (mul-sub, mul_comm M)

-- exercise values on near bonds are near each other
pub near-exercise : (side : Side) (a M e x strike : ℕ) → Near a a M e x → Near a a M (exercise side strike e) (exercise side (strike * M) x)
unfolding exercise
near-exercise call a M e x strike n =
    record { above = rw sub-mul (omega (arith, n.above, n.below)); below = rw sub-mul (omega (arith, n.above, n.below)) }
near-exercise put a M e x strike n =
    record { above = rw sub-mul (omega (arith, n.above, n.below)); below = rw sub-mul (omega (arith, n.above, n.below)) }

-- so are the larger of two
near-max : (l u M e x f y : ℕ) → Near l u M e x → Near l u M f y → Near l u M (max e f) (max x y)
near-max l u M e x f y n m =
    by_order e f
    (λ h. let g = mul-le-mul_right M h in
    rw (max-eq_right h) (record { above = omega (arith, g, m.above); below = omega (arith, g, n.below, m.below) }))
    (λ h. let g = mul-le-mul_right M (le_of_lt h) in
    rw (max-eq_left (le_of_lt h)) (record { above = omega (arith, g, n.above); below = omega (arith, g, n.below, m.below) }))

pub near-held : (b : Bool) {l u M e x f y : ℕ} → Near l u M e x → Near l u M f y → Near l u M (held_or_exercised b e f) (held_or_exercised b x y)
unfolding held_or_exercised
near-held true {l} {u} {M} {e} {x} {f} {y} n m = near-max l u M e x f y n m
near-held false n m = n
