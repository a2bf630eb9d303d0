-- The factor of a node, by its signed number or by its distance and side, and the answers of the entries.
-- Assumes nothing.
use mathlib.Core.Path.{◌≡◌, refl, sym, ◌∙◌, ap}
use mathlib.Core.Bool.{Bool, true, false}
use Rattle.std.proofs.Common.{Result, Ok, Err}
use Prim.Native.Nat.{ℕ, zero, suc, ◌+◌, ◌-◌, ◌*◌, ◌≤◌, ◌<◌}
use native.Mathlib.Nat.{le_trans, mul-le-mul_right}
use native.Mathlib.Omega.{arith}
use borrow.Author.Tests.{lt-ltb, le-ltb}
use lib.IntN.{ℤ, pos, negsuc, nat_abs, ◌-ℤ◌}
use lib.Signed.{lt_z}
use Rattle.arithmetic.specs.Rounding.{one, round_down}
use Rattle.arithmetic.specs.Sum.{sum}
use Rattle.arithmetic.specs.Answers.{refused, answered}
use Rattle.arithmetic.specs.Refusals.{number_of, answer_of}
use Rattle.arithmetic.specs.Within.{Within}
use Rattle.arithmetic.specs.declared.Answer.{Answer}
use Rattle.arithmetic.specs.declared.Refusal.{Refusal}
use Rattle.arithmetic.specs.declared.Refusal.TheVariants.{Spacing}
use Rattle.factor.specs.declared.Sides.{Sides}
use Rattle.std.specs.Result.{IsOk}
use Rattle.arithmetic.proofs.Numbers.{by_order}
use Rattle.arithmetic.proofs.RefusalLaws.{answer-ok}
use Rattle.factor.specs.Series.{term, even, odd, series, scale}
use Rattle.factor.specs.Factor.{factor, exact_factor, node_answer, side_factor, side_answer, sides_answer}
use Rattle.factor.proofs.SeriesLaws.{series-within, sum-by-parts, odd-le-even, term-falls}
use Rattle.factor.proofs.Bounds.{series-bounds}

-- U(j) by the distance and the side of j
pub factor-side : (j : ℤ) (h : ℕ) → factor j h ≡ side_factor (nat_abs j) (lt_z j (pos 0)) h
unfolding factor side_factor
factor-side j h = refl

pub factor-above : (d h : ℕ) → factor (pos d) h ≡ side_factor d false h
factor-above d h = factor-side (pos d) h ∙ ap (λ (below : Bool). side_factor d below h) (le-ltb d 0 (omega arith))

pub factor-below : (d h : ℕ) → factor (negsuc d) h ≡ side_factor (suc d) true h
factor-below d h = factor-side (negsuc d) h

-- the node at index k of a row of half width w is k - w
pub index_below : (w k h : ℕ) → k < w → factor (pos k -ℤ pos w) h ≡ side_factor (w - k) true h
index_below zero k h l = omega arith
index_below (suc w) k h l =
    let e : suc (suc w - suc k) ≡ suc w - k = omega arith in
    rw (lt-ltb k (suc w) l) (factor-below (suc w - suc k) h ∙ ap (λ (d : ℕ). side_factor d true h) e)

pub index-above : (w k h : ℕ) → w ≤ k → factor (pos k -ℤ pos w) h ≡ side_factor (k - w) false h
index-above zero k h l = factor-above (k + 0) h ∙ ap (λ (d : ℕ). side_factor d false h) (omega arith)
index-above (suc w) k h l = rw (le-ltb k (suc w) l) (factor-above (k - suc w) h)

-- the middle node has factor one, counted to either side
middle : (below : Bool) → series below (term 0) ≡ one
unfolding series sum term round_down
middle true = refl
middle false = refl

-- what holds of the farthest node holds of the nearer ones
pub nearer-within : (k d h : ℕ) → k ≤ d → d * h ≤ one → k * h ≤ one
nearer-within k d h l within = le_trans (mul-le-mul_right h l) within

-- where |j| × h is at most one, the factor is from 0.36 to 2.72 of one,
pub side-bounds :
    (d : ℕ) (below : Bool) (h : ℕ) → d * h ≤ one →
    (360000000 ≤ side_factor d below h) × (side_factor d below h ≤ 2720000000)
unfolding side_factor
side-bounds d below h l = series-bounds (d * h) below l

pub factor-bounds : (j : ℤ) (h : ℕ) → nat_abs j * h ≤ one → (360000000 ≤ factor j h) × (factor j h ≤ 2720000000)
factor-bounds j h l = rw (factor-side j h) (side-bounds (nat_abs j) (lt_z j (pos 0)) h l)

-- and within 14 of the same series in exact fractions
pub factor-within : (j : ℤ) (h : ℕ) → nat_abs j * h ≤ one → Within 14 scale (factor j h) (exact_factor j h)
unfolding factor exact_factor
factor-within j h l = series-within (nat_abs j * h) (lt_z j (pos 0)) l

-- the answers by distance and side
module _ (d : ℕ) (below : Bool) (h : ℕ) where
  pub side-refused : one < d * h → side_answer d below h ≡ refused 8
  unfolding side_answer
  side-refused l = rw (lt-ltb one (d * h) l)

  pub side-accepted : d * h ≤ one → side_answer d below h ≡ answered (side_factor d below h)
  unfolding side_answer
  side-accepted l = rw (le-ltb one (d * h) l)

  pub side-ok : (r : Result ℕ Refusal) → answer_of r ≡ side_answer d below h → d * h ≤ one → IsOk r
  side-ok r e l = answer-ok r (ap (λ (a : Answer). a.number) (e ∙ side-accepted l))

-- both sides are answered alike: where one is refused the other is
pub sides-refused : (d h : ℕ) → one < d * h → Err Spacing ≡ sides_answer d h
unfolding sides_answer
sides-refused d h l = sym (rw (lt-ltb one (d * h) l))

pub sides-accepted :
    (d h : ℕ) → d * h ≤ one → sides_answer d h ≡ Ok (record { below = side_factor d true h; above = side_factor d false h })
unfolding sides_answer
sides-accepted d h l = rw (le-ltb one (d * h) l)

pub sides-ok : (d h : ℕ) (r : Result Sides Refusal) → r ≡ sides_answer d h → d * h ≤ one → IsOk r
sides-ok d h r e l = rw (e, sides-accepted d h l)

module _ (d h : ℕ) where
  -- the refusal of both is that of each
  pub refused-of-both : (below : Bool) (r : Refusal) → Err r ≡ sides_answer d h → refused (number_of r) ≡ side_answer d below h
  refused-of-both below r e =
      by_order (d * h) one
      (λ l. let f : Err r ≡ Ok (record { below = side_factor d true h; above = side_factor d false h }) = e ∙ sides-accepted d h l in
      absurd cc)
      (λ l. let f : r ≡ Spacing = cc (e, sides-refused d h l) in rw f (sym (side-refused d below h l)))

  both-taken : (s : Sides) → Ok s ≡ sides_answer d h →
      (d * h ≤ one) × (s ≡ record { below = side_factor d true h; above = side_factor d false h })
  both-taken s e =
      by_order (d * h) one
      (λ l. (l, cc (e, sides-accepted d h l)))
      (λ l. let f : Ok s ≡ Err Spacing = e ∙ sym (sides-refused d h l) in absurd cc)

  pub below-of-both : (s : Sides) → Ok s ≡ sides_answer d h → answered s.below ≡ side_answer d true h
  below-of-both s e = let t = both-taken s e in rw t.1 (sym (side-accepted d true h t.0))

  pub above-of-both : (s : Sides) → Ok s ≡ sides_answer d h → answered s.above ≡ side_answer d false h
  above-of-both s e = let t = both-taken s e in rw t.1 (sym (side-accepted d false h t.0))

-- the answers by the signed number
pub node-side : (j : ℤ) (h : ℕ) → node_answer j h ≡ side_answer (nat_abs j) (lt_z j (pos 0)) h
unfolding node_answer side_answer factor side_factor
node-side j h = refl

pub node-refused : (j : ℤ) (h : ℕ) → one < nat_abs j * h → node_answer j h ≡ refused 8
node-refused j h l = node-side j h ∙ side-refused (nat_abs j) (lt_z j (pos 0)) h l

-- Where y is |j| × h and at most one, the sums of the even and of the odd terms give the value answered.
module _ (d h : ℕ) {y e o : ℕ} (same : y ≡ d * h) (l : y ≤ one) (p : e ≡ sum 7 (even (term y))) (q : o ≡ sum 6 (odd (term y))) where
  side-found : (below : Bool) (x : ℕ) → x ≡ series below (term y) → answered x ≡ side_answer d below h
  unfolding side_factor
  side-found below x found =
      ap answered (found ∙ ap (λ (z : ℕ). series below (term z)) same) ∙ sym (side-accepted d below h (rw same at l))

  pub sums-below : answered (e + o) ≡ side_answer d true h
  sums-below = side-found true (e + o) (rw (p, q) (sym (sum-by-parts (term y))))

  pub sums-above : answered (e - o) ≡ side_answer d false h
  unfolding series
  sums-above = side-found false (e - o) (rw (p, q) refl)

  pub sums-both : Ok (record { below = e + o; above = e - o }) ≡ sides_answer d h
  sums-both =
      let within : d * h ≤ one = rw same at l in
      let below : e + o ≡ side_factor d true h = ap (λ (x : Answer). x.value) (sums-below ∙ side-accepted d true h within) in
      let above : e - o ≡ side_factor d false h = ap (λ (x : Answer). x.value) (sums-above ∙ side-accepted d false h within) in
      rw (below, above) (sym (sides-accepted d h within))

  -- and neither the sum nor the difference leaves the type
  pub sums-fit : e + o ≤ 2720000000
  sums-fit = omega (arith, sum-by-parts (term y), series-bounds y true l)

  pub odd-within : o ≤ e
  odd-within = omega (arith, odd-le-even (term y) (λ k i. term-falls y k l))
