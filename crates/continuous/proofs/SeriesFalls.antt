-- The alternating series falls: by a third of the argument's growth in exact fractions, so by at least 6 over 100 places as rounded.
-- Assumes nothing.
use mathlib.Core.Path.{◌≡◌, sym, ◌∙◌, ap}
use mathlib.Core.Bool.{false}
use Prim.Native.Nat.{ℕ, zero, suc, ◌+◌, ◌*◌, ◌≤◌, ◌<◌}
use native.Mathlib.Nat.{le_trans, le_refl, mul-le-mul, mul-le-mul_left, mul-le-mul_right, mul-pos, le_of_mul-le-mul_left, le_dest}
use native.Mathlib.Omega.{arith}
use lib.Dec.{lit≤}
use Rattle.arithmetic.specs.Within.{Within}
use Rattle.arithmetic.specs.Rounding.{one}
use Rattle.arithmetic.specs.Sum.{sum}
use Rattle.arithmetic.proofs.Numbers.{cross}
use Rattle.arithmetic.proofs.Implied.{Implied, implied, lastly, ◌▸◌}
use Rattle.factor.specs.Series.{term, even, odd, series, falling, exact_term, scale}
use Rattle.factor.proofs.SeriesLaws.{exact-next, exact-zero, exact-whole, series-within}

suc-positive : (k : ℕ) → 0 < suc k
suc-positive k = omega arith

-- 24 × (1 - (x + y) / 2 + (x² + x y + y²) / 6 - (x³ + x² y + x y² + y³) / 24) is at least 8 for x and y of at most 1;
-- here times the difference b and the unit o³
four_products :
    (p b a : ℕ) →
    let q : ℕ = p + b in
    let o : ℕ = p + b + a in
    12 * (q * q * (o * o)) + 4 * (p * p * p * o) + q * q * q * q + 16 * (p * (o * o * o))
    ≤ 12 * (p * p * (o * o)) + 4 * (q * q * q * o) + p * p * p * p + 16 * (q * (o * o * o))
four_products p b a = omega arith

four_below :
    (o p q : ℕ) → p ≤ q → q ≤ o →
    12 * (q * q * (o * o)) + 4 * (p * p * p * o) + q * q * q * q + 16 * (p * (o * o * o))
    ≤ 12 * (p * p * (o * o)) + 4 * (q * q * q * o) + p * p * p * p + 16 * (q * (o * o * o))
four_below o p q h g = let (b, e) = le_dest h in let (a, f) = le_dest g in by_parts b a e f
  where
    by_parts :
        (b a : ℕ) → p + b ≡ q → q + a ≡ o →
        12 * (q * q * (o * o)) + 4 * (p * p * p * o) + q * q * q * q + 16 * (p * (o * o * o))
        ≤ 12 * (p * p * (o * o)) + 4 * (q * q * q * o) + p * p * p * p + 16 * (q * (o * o * o))
    by_parts b a e f =
        let f' : p + b + a ≡ o = omega arith in
        rw (← f', ← e) (four_products p b a)

-- the same inequality of the terms, times 8 c
weighed :
    (c w p q : ℕ) {p2 p3 p4 q2 q3 q4 : ℕ} → Implied (p2 ▸ p3 ▸ p4 ▸ q2 ▸ q3 ▸ lastly q4) → (e1 e2 e3 e4 f1 f2 f3 f4 : ℕ) →
    24 * c * e2 ≡ 12 * (w * p2) → 24 * c * e3 ≡ 4 * (w * p3) → 24 * c * e4 ≡ w * p4 →
    24 * c * f2 ≡ 12 * (w * q2) → 24 * c * f3 ≡ 4 * (w * q3) → 24 * c * f4 ≡ w * q4 →
    e1 ≡ w * p → f1 ≡ w * q →
    12 * q2 + 4 * p3 + q4 + 16 * (p * c) ≤ 12 * p2 + 4 * q3 + p4 + 16 * (q * c) →
    8 * c * (3 * (e1 + f2 + e3 + f4) + w * q) ≤ 8 * c * (3 * (f1 + e2 + f3 + e4) + w * p)
weighed c w p q _ e1 e2 e3 e4 f1 f2 f3 f4 h2 h3 h4 g2 g3 g4 h1 g1 poly =
    omega (arith, ap (λ (x : ℕ). c * x) h1, ap (λ (x : ℕ). c * x) g1, mul-le-mul_left w poly)

-- The exact terms at one argument p, over any unit o, times w: their rule and what follows from it.
module _ (o w p : ℕ) (e : ℕ → ℕ) (positive : 0 < o) (e1 : e 1 ≡ w * p) (rule : (k : ℕ) → k < 12 → e (suc k) * (suc k * o) ≡ e k * p) where
  two : 24 * (o * o * o) * e 2 ≡ 12 * (w * (p * p * (o * o)))
  two =
      let r : e 2 * (2 * o) ≡ e 1 * p = rule 1 (lit≤ tt) in
      omega (arith, ap (λ (x : ℕ). 12 * (o * o) * x) r, ap (λ (x : ℕ). 12 * (o * o) * (x * p)) e1)

  three : 24 * (o * o * o) * e 3 ≡ 4 * (w * (p * p * p * o))
  three =
      let r : e 3 * (3 * o) ≡ e 2 * p = rule 2 (lit≤ tt) in
      let s : e 2 * (2 * o) ≡ e 1 * p = rule 1 (lit≤ tt) in
      omega (arith, ap (λ (x : ℕ). 8 * (o * o) * x) r, ap (λ (x : ℕ). 4 * o * p * x) s, ap (λ (x : ℕ). 4 * o * p * p * x) e1)

  four : 24 * (o * o * o) * e 4 ≡ w * (p * p * p * p)
  four =
      let r : e 4 * (4 * o) ≡ e 3 * p = rule 3 (lit≤ tt) in
      let s : e 3 * (3 * o) ≡ e 2 * p = rule 2 (lit≤ tt) in
      let t : e 2 * (2 * o) ≡ e 1 * p = rule 1 (lit≤ tt) in
      omega (
        arith,
        ap (λ (x : ℕ). 6 * (o * o) * x) r,
        ap (λ (x : ℕ). 2 * o * p * x) s,
        ap (λ (x : ℕ). p * p * x) t,
        ap (λ (x : ℕ). p * p * p * x) e1,
      )

  -- the terms fall with their place
  shrink : (k : ℕ) → k < 12 → p ≤ o → e (suc k) ≤ e k
  shrink k l h =
      le_of_mul-le-mul_left {m = e (suc k)} {n = e k} {k = suc k * o}
      (omega (arith, rule k l, mul-le-mul_left (e k) h, mul-le-mul_left (e k * o) (suc-positive k)))
      (mul-pos {m = suc k} (suc-positive k) positive)

-- The exact terms at two arguments, p below q.
module _ (o w p q : ℕ) (e f : ℕ → ℕ) (positive : 0 < o) (low : p ≤ q) (high : q ≤ o) (e1 : e 1 ≡ w * p) (f1 : f 1 ≡ w * q) (same : e 0 ≡ f 0)
    (er : (k : ℕ) → k < 12 → e (suc k) * (suc k * o) ≡ e k * p)
    (fr : (k : ℕ) → k < 12 → f (suc k) * (suc k * o) ≡ f k * q) where
  grow : (k : ℕ) → k < 13 → e k ≤ f k
  grow zero l = rw same (le_refl _)
  grow (suc k) l =
      let g : k < 12 = omega arith in
      le_of_mul-le-mul_left {m = e (suc k)} {n = f (suc k)} {k = suc k * o}
      (omega (arith, er k g, fr k g, mul-le-mul (grow k (omega arith)) low))
      (mul-pos {m = suc k} (suc-positive k) positive)

  -- a term grows by at most as much as the term before it
  tamer : (k : ℕ) → suc k < 12 → f (suc (suc k)) + e (suc k) ≤ f (suc k) + e (suc (suc k))
  tamer k l =
      let g : k < 12 = omega arith in
      le_of_mul-le-mul_left {m = f (suc (suc k)) + e (suc k)} {n = f (suc k) + e (suc (suc k))} {k = suc (suc k) * o}
      (omega (
        arith,
        er (suc k) l,
        fr (suc k) l,
        er k g,
        fr k g,
        cross o q (e (suc k)) (f (suc k)) high (grow (suc k) (omega arith)),
        mul-le-mul_right q (grow k (omega arith)),
        cross q p (e (suc k)) (e k) low (shrink o w p e positive e1 er k g (le_trans low high)),
      ))
      (mul-pos {m = suc (suc k)} (suc-positive (suc k)) positive)

  first-four : 3 * (e 1 + f 2 + e 3 + f 4) + w * q ≤ 3 * (f 1 + e 2 + f 3 + e 4) + w * p
  first-four =
      le_of_mul-le-mul_left {m = 3 * (e 1 + f 2 + e 3 + f 4) + w * q} {n = 3 * (f 1 + e 2 + f 3 + e 4) + w * p} {k = 8 * (o * o * o)}
      (weighed (o * o * o) w p q implied (e 1) (e 2) (e 3) (e 4) (f 1) (f 2) (f 3) (f 4)
      (two o w p e positive e1 er) (three o w p e positive e1 er) (four o w p e positive e1 er)
      (two o w q f positive f1 fr) (three o w q f positive f1 fr) (four o w q f positive f1 fr)
      e1 f1 (four_below o p q low high))
      (omega (arith, mul-pos (mul-pos positive positive) positive))

  -- the exact series falls by at least a third of the difference
  third : 3 * (sum 7 (even f) + sum 6 (odd e)) + w * q ≤ 3 * (sum 7 (even e) + sum 6 (odd f)) + w * p
  unfolding sum
  third = omega (arith, same, first-four, tamer 4 (lit≤ tt), tamer 6 (lit≤ tt), tamer 8 (lit≤ tt), tamer 10 (lit≤ tt))

-- term 1 in exact fractions is y
exact_one : (y : ℕ) → exact_term y 1 ≡ scale * y
exact_one y = omega (arith, exact-next y 0 (lit≤ tt), ap (λ (x : ℕ). x * y) (exact-zero y))

scale-positive : 0 < scale
unfolding scale falling
scale-positive = lit≤ tt

-- as rounded: a third of the difference, less 28
pub alternating-falls : (p q : ℕ) → p ≤ q → q ≤ one → 3 * series false (term q) + q ≤ 3 * series false (term p) + p + 84
alternating-falls p q low high =
    le_of_mul-le-mul_left {m = 3 * series false (term q) + q} {n = 3 * series false (term p) + p + 84} {k = scale}
    (omega (arith, exact-whole p (le_trans low high), exact-whole q high, fell, (near p (le_trans low high)).below, (near q high).above))
    scale-positive
  where
    near : (y : ℕ) → y ≤ one → Within 14 scale (series false (term y)) (series false (exact_term y))
    near y h = series-within y false h

    fell :
        3 * (sum 7 (even (exact_term q)) + sum 6 (odd (exact_term p))) + scale * q
        ≤ 3 * (sum 7 (even (exact_term p)) + sum 6 (odd (exact_term q))) + scale * p
    fell =
        third one scale p q (exact_term p) (exact_term q) (lit≤ tt) low high (exact_one p) (exact_one q)
        (exact-zero p ∙ sym (exact-zero q)) (exact-next p) (exact-next q)
