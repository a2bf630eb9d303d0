-- h by version: the greatest whole number with h² × f³ at most the version's variance; as in version 1 where the version or b says so, and
-- never more than that; and the answers of the entry.
-- Assumes nothing.
use mathlib.Core.Path.{◌≡◌, refl, sym, ap, ◌∙◌}
use mathlib.Core.Bool.{Bool, true, false, cond, not}
use Prim.Native.Nat.{ℕ, ◌+◌, ◌*◌, ◌/◌, ◌≤◌, ◌<◌}
use native.Mathlib.Nat.{le_trans, mul-le-mul, mul-le-mul_left}
use native.Mathlib.Omega.{arith}
use borrow.Author.Tests.{lt-ltb, le-ltb, ltb-false, not-false}
use lib.Dec.{ltb}
use Rattle.arithmetic.specs.Rounding.{one, round_down}
use Rattle.arithmetic.specs.Answers.{refused, answered}
use Rattle.std.proofs.Common.{Err}
use Rattle.arithmetic.specs.Refusals.{number_of, answer_of}
use Rattle.arithmetic.specs.declared.Answer.{Answer}
use Rattle.arithmetic.specs.declared.Refusal.{Refusal}
use Rattle.arithmetic.proofs.RefusalLaws.{refusal-some}
use Rattle.arithmetic.specs.Frequency.{is_frequency}
use Rattle.arithmetic.proofs.Numbers.{by_order, by-test}
use Rattle.arithmetic.proofs.FrequencyLaws.{listed_small}
use Rattle.arithmetic.proofs.Implied.{Implied, lastly, ◌▸◌}
use Rattle.limits.specs.Limits.{most_reversion}
use Rattle.reversion.specs.Reversion.{is_version, is_exact, variance_ratio, version_ratio, ratio_answer}
use Rattle.reversion.proofs.ReversionLaws.{ratio-most, first-same, none-same}
use Rattle.reversion.proofs.EntryLaws.{number-zero, number-above}
use Rattle.reversion.proofs.EntryLaws.{answer-unknown as ratio-unknown}
use Rattle.spacing.specs.Spacing.{greatest_root, spacing, spacing_answer, version_variance, version_spacing, version_spacing_answer}
use Rattle.spacing.proofs.SpacingLaws.{root-passes, root-greatest, root-next-fails, root-unique, root-of-quotient, cube-positive, spacing-most}

-- the variance by the ratio, which is one in version 1,
ratio-times : (version s b : ℕ) → version_variance version s b ≡ round_down (3 * (1000 * s * (1000 * s)) * version_ratio version b) one
unfolding version_variance version_ratio round_down
ratio-times version s b = by-exact (is_exact version b)
  where
    by-exact :
        (t : Bool) →
        cond t (3 * (1000 * s * (1000 * s)) * variance_ratio b / one) (3 * (1000 * s * (1000 * s)))
        ≡ 3 * (1000 * s * (1000 * s)) * cond t (variance_ratio b) one / one
    by-exact true = refl
    by-exact false = omega arith

-- and in numbers that fit
pub variance-computed : (version s b : ℕ) → 3 * (s * s) * version_ratio version b / 1000 ≡ version_variance version s b
unfolding round_down
variance-computed version s b = rw (ratio-times version s b) (by_parts s (version_ratio version b))
  where
    by_parts : (s c : ℕ) → 3 * (s * s) * c / 1000 ≡ 3 * (1000 * s * (1000 * s)) * c / one
    by_parts s c = omega arith

pub variance-fits : (s c : ℕ) → s ≤ 50000 → c ≤ one → 3 * (s * s) * c ≤ 7500000000000000000
variance-fits s c h l = omega (arith, mul-le-mul (mul-le-mul h h) l)

-- version 1, and b = 0, have the variance and the spacing of document 01
module _ (version s b : ℕ) (e : is_exact version b ≡ false) where
  pub variance-same : version_variance version s b ≡ 3 * (1000 * s * (1000 * s))
  unfolding version_variance
  variance-same = rw e

  pub version-same : (f : ℕ) → version_spacing version f s b ≡ spacing f s
  unfolding version_spacing spacing
  version-same f = ap (greatest_root (f * f * f)) variance-same

pub version-first : (f s b : ℕ) → version_spacing 1 f s b ≡ spacing f s
version-first f s b = version-same 1 s b (first-same 1 b refl) f

pub version-none : (version f s : ℕ) → version_spacing version f s 0 ≡ spacing f s
version-none version f s = version-same version s 0 (none-same version 0 refl) f

-- h by its two inequalities
module _ (version f s b : ℕ) where
  pub version-passes : version_spacing version f s b * version_spacing version f s b * (f * f * f) ≤ version_variance version s b
  unfolding version_spacing
  version-passes = root-passes (f * f * f) (version_variance version s b)

  module _ (positive : 0 < f) where
    pub version-next-fails :
        version_variance version s b < (version_spacing version f s b + 1) * (version_spacing version f s b + 1) * (f * f * f)
    unfolding version_spacing
    version-next-fails = root-next-fails (f * f * f) (version_variance version s b) (cube-positive positive)

    pub version-greatest : (g : ℕ) → g * g * (f * f * f) ≤ version_variance version s b → g ≤ version_spacing version f s b
    unfolding version_spacing
    version-greatest = root-greatest (f * f * f) (version_variance version s b) (cube-positive positive)

    pub version-unique :
        (h : ℕ) → h * h * (f * f * f) ≤ version_variance version s b → version_variance version s b < (h + 1) * (h + 1) * (f * f * f) →
        h ≡ version_spacing version f s b
    unfolding version_spacing
    version-unique = root-unique (f * f * f) (version_variance version s b) (cube-positive positive)

    -- never more than in version 1
    module _ (small : b ≤ most_reversion) where
      variance-most : version_variance version s b ≤ 3 * (1000 * s * (1000 * s))
      unfolding round_down
      variance-most = rw (ratio-times version s b) (by_parts (3 * (1000 * s * (1000 * s))) (version_ratio version b) (ratio-most version b small))
        where
          by_parts : (x c : ℕ) → c ≤ one → x * c / one ≤ x
          by_parts x c l = omega (arith, mul-le-mul_left x l)

      pub version_below : version_spacing version f s b ≤ spacing f s
      unfolding spacing
      version_below =
          root-greatest (f * f * f) (3 * (1000 * s * (1000 * s))) (cube-positive positive) (version_spacing version f s b)
          (le_trans version-passes variance-most)

      pub version-most : s ≤ 50000 → version_spacing version f s b ≤ 86602540
      version-most l = le_trans version_below (spacing-most f s positive l)

-- ---- the answers

module _ (version f s b : ℕ) where
  pub answer-unlisted : is_frequency f ≡ false → version_spacing_answer version f s b ≡ refused 2
  unfolding version_spacing_answer
  answer-unlisted u = rw u

  module _ (u : is_frequency f ≡ true) where
    pub answer-reverting : most_reversion < b → version_spacing_answer version f s b ≡ refused 4
    unfolding version_spacing_answer
    answer-reverting h = rw (u, lt-ltb most_reversion b h)

    module _ (hb : b ≤ most_reversion) where
      pub answer-volatile : 50000 < s → version_spacing_answer version f s b ≡ refused 5
      unfolding version_spacing_answer
      answer-volatile h = rw (u, le-ltb most_reversion b hb, lt-ltb 50000 s h)

      module _ (hs : s ≤ 50000) where
        pub answer-unknown : is_version version ≡ false → version_spacing_answer version f s b ≡ refused 7
        unfolding version_spacing_answer
        answer-unknown v = rw (u, le-ltb most_reversion b hb, le-ltb 50000 s hs, v)

        pub answer-accepted : is_version version ≡ true → version_spacing_answer version f s b ≡ answered (version_spacing version f s b)
        unfolding version_spacing_answer
        answer-accepted v = rw (u, le-ltb most_reversion b hb, le-ltb 50000 s hs, v)

        -- a whole square root of the quotient is the value answered
        pub answer-found :
            is_version version ≡ true → (h : ℕ) → h * h ≤ version_variance version s b / (f * f * f) →
            version_variance version s b / (f * f * f) < (h + 1) * (h + 1) → version_spacing_answer version f s b ≡ answered h
        unfolding version_spacing
        answer-found v h low high =
            answer-accepted v
            ∙ ap answered (sym (root-of-quotient (f * f * f) (version_variance version s b) (cube-positive (listed_small f u).0) h low high))

-- number 0 means accepted, and the value is h
pub record AcceptedVersion (version f s b : ℕ) (answer : Answer) : Type 0 where
  pub known : is_version version ≡ true
  pub frequency : is_frequency f ≡ true
  pub volatility : s ≤ 50000
  pub reversion : b ≤ most_reversion
  pub value : answer.value ≡ version_spacing version f s b

pub version-zero : (version f s b : ℕ) → (version_spacing_answer version f s b).number ≡ 0 →
    AcceptedVersion version f s b (version_spacing_answer version f s b)
version-zero version f s b e = by-listed (is_frequency f) refl
  where
    impossible : {X : Type 0} (cause : ℕ) → 0 < cause → version_spacing_answer version f s b ≡ refused cause → X
    impossible cause p r = absurd (let none : ⊥ = omega (arith, ap (λ (a : Answer). a.number) r) in none)

    by-known : is_frequency f ≡ true → b ≤ most_reversion → s ≤ 50000 → (t : Bool) → is_version version ≡ t →
        AcceptedVersion version f s b (version_spacing_answer version f s b)
    by-known u hb hs true v =
        record {
          known = v;
          frequency = u;
          volatility = hs;
          reversion = hb;
          value = ap (λ (a : Answer). a.value) (answer-accepted version f s b u hb hs v);
        }
    by-known u hb hs false v = impossible 7 (omega arith) (answer-unknown version f s b u hb hs v)

    by-listed : (t : Bool) → is_frequency f ≡ t → AcceptedVersion version f s b (version_spacing_answer version f s b)
    by-listed false u = impossible 2 (omega arith) (answer-unlisted version f s b u)
    by-listed true u =
        by_order b most_reversion
        (λ hb. by_order s 50000
        (λ hs. by-known u hb hs (is_version version) refl)
        (λ l. impossible 5 (omega arith) (answer-volatile version f s b u hb l)))
        (λ l. impossible 4 (omega arith) (answer-reverting version f s b u l))

-- a bound of the number answered, with 0 for a refusal
pub version-answer-most : (version f s b : ℕ) → (version_spacing_answer version f s b).value ≤ 86602540
unfolding version_spacing_answer
version-answer-most version f s b =
    by-test (not (is_frequency f)) Small (refused 2) _ (λ u. omega arith)
    (λ u. by-test (ltb most_reversion b) Small (refused 4) _ (λ hb. omega arith)
    (λ hb. by-test (ltb 50000 s) Small (refused 5) _ (λ hs. omega arith)
    (λ hs. by-test (not (is_version version)) Small (refused 7) _ (λ v. omega arith)
    (λ v. version-most version f s b (listed_small f (not-false _ u)).0 (ltb-false most_reversion b hb) (ltb-false 50000 s hs)))))
  where
    Small : Answer → Type 0
    Small a = a.value ≤ 86602540

-- version 1 with b = 0 answers as document 01 has it
pub answer-first : (f s : ℕ) → version_spacing_answer 1 f s 0 ≡ spacing_answer f s
unfolding version_spacing_answer spacing_answer is_version
answer-first f s =
    ap (λ (h : ℕ). cond (not (is_frequency f)) (refused 2) (cond (ltb 50000 s) (refused 5) (answered h))) (version-first f s 0)

-- the same from the ratio that the entry of crate reversion answers
module _ {version f s b : ℕ} {ratio : Answer} (_ : Implied (version ▸ f ▸ s ▸ lastly b))
    (u : is_frequency f ≡ true) (hb : b ≤ most_reversion) (hs : s ≤ 50000) (e : ratio ≡ ratio_answer version b) where
  pub ratio-refused : (ratio.number ≡ 0 → ⊥) → version_spacing_answer version f s b ≡ refused 7
  ratio-refused nz = answer-unknown version f s b u hb hs (number-above version b _ ratio e hb nz)

  module _ (z : ratio.number ≡ 0) where
    value-is : ratio.value ≡ version_ratio version b
    value-is = (number-zero version b _ ratio e hb z).1

    pub ratio-fits : 3 * (s * s) * ratio.value ≤ 7500000000000000000
    ratio-fits = variance-fits s ratio.value hs (rw value-is (ratio-most version b hb))

    pub ratio-found :
        (h : ℕ) → h * h ≤ 3 * (s * s) * ratio.value / 1000 / (f * f * f) →
        3 * (s * s) * ratio.value / 1000 / (f * f * f) < (h + 1) * (h + 1) → version_spacing_answer version f s b ≡ answered h
    ratio-found h low high =
        answer-found version f s b u hb hs (number-zero version b _ ratio e hb z).0 h (rw quotient at low) (rw quotient at high)
      where
        quotient : 3 * (s * s) * ratio.value / 1000 / (f * f * f) ≡ version_variance version s b / (f * f * f)
        quotient = rw value-is (ap (λ (x : ℕ). x / (f * f * f)) (variance-computed version s b))

-- a ratio that is refused gives its own refusal
pub ratio-kept :
    {version f s b : ℕ} (_ : Implied (version ▸ f ▸ s ▸ lastly b)) (r : Refusal) → is_frequency f ≡ true → b ≤ most_reversion → s ≤ 50000 →
    answer_of (Err r) ≡ ratio_answer version b → refused (number_of r) ≡ version_spacing_answer version f s b
ratio-kept {version} {f} {s} {b} i r u hb hs e =
    let known = number-above version b _ (answer_of (Err r)) e hb (refusal-some r) in
    e ∙ ratio-unknown version b _ hb known ∙ sym (answer-unknown version f s b u hb hs known)
