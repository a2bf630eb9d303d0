-- Causes 2 to 8 by the tests that code makes.
-- Assumes nothing.
use mathlib.Core.Path.{◌≡◌, refl, sym, ◌∙◌}
use Prim.Native.Nat.{ℕ, ◌-◌, ◌*◌, ◌≤◌, ◌<◌}
use native.Mathlib.Nat.{mul-le-mul}
use native.Mathlib.Omega.{arith}
use borrow.Author.Tests.{eq-eqb, ne_eqb, lt-ltb, le-ltb}
use Rattle.arithmetic.specs.declared.Answer.{Answer}
use Rattle.arithmetic.specs.Rounding.{one}
use Rattle.lattice.specs.Shape.{half_width}
use Rattle.lattice.specs.Entries.{discounts_needed_answer, half_width_answer, memory_cause}
use Rattle.lattice.proofs.Sizes.{half-within}
use Rattle.lattice.proofs.TreeEntries.{row-value}
use Rattle.arithmetic.specs.Answers.{lowest_cause}
use Rattle.fitted_laws.specs.Entry.{early_cause}
use Rattle.fitted_laws.specs.inside.Numbers.{Numbers}
use Rattle.fitted_laws.proofs.CauseLaws.{numbers_of}
use Rattle.fitting.specs.inside.Plans.{most_spacing, Planned}

-- what code holds once causes 2 to 7 were tested: the lowest cause
pub record Tested (n w converted spaced h ds ps early : ℕ) : Type 0 where
  pub early-is : early ≡ early_cause converted n w spaced ds ps
  pub spacing-small : h ≤ most_spacing

pub tested : {n w converted spaced h ds ps : ℕ} {tree : Answer} {memory left right early : ℕ} → h ≤ most_spacing →
    tree ≡ discounts_needed_answer n w → memory ≡ memory_cause n w ds ps →
    left ≡ lowest_cause converted tree.number → right ≡ lowest_cause spaced memory → early ≡ lowest_cause left right →
    Tested n w converted spaced h ds ps early
unfolding early_cause
tested small et em el er ee = record { early-is = ee ∙ rw (el, er, et, em); spacing-small = small }

module _ {n w converted spaced h ds ps early : ℕ} (t : Tested n w converted spaced h ds ps early) where
  pub plan-early : (early ≡ 0 → ⊥) → Planned n w converted spaced h ds ps (record { number = early; spacing = 0; widest = 0 })
  plan-early ne =
      record {
        number = t.early-is ∙ rw (ne_eqb (early_cause converted n w spaced ds ps) 0 (λ z. ne (t.early-is ∙ z)));
        numbers = λ z. absurd (ne z);
        spacing-is = λ z. absurd (ne z);
        widest-is = λ z. absurd (ne z);
        spacing-within-one = λ z. absurd (ne z);
      }

  module _ (z : early ≡ 0) where
    none : early_cause converted n w spaced ds ps ≡ 0
    none = sym t.early-is ∙ z

    pub known : Numbers n w converted spaced ds ps
    known = numbers_of n w converted spaced ds ps none

    module _ {half : Answer} (eh : half ≡ half_width_answer w (n - 1)) where
      half-known : half.value ≡ half_width w (n - 1)
      half-known =
          row-value w (n - 1) (half_width w (n - 1)) half eh known.limits.reversion-within-limit (omega (arith, known.limits.steps-within-limit))

      pub product-fits : half.value * h ≤ 5109549860
      product-fits =
          mul-le-mul {n₁ = half.value} {m₁ = h} {n₂ = 59} {m₂ = most_spacing}
          (omega (arith, half-known, half-within w (n - 1), known.limits.steps-within-limit)) t.spacing-small

      pub plan-wide : one < half.value * h → Planned n w converted spaced h ds ps (record { number = 8; spacing = 0; widest = 0 })
      plan-wide l =
          let wide = lt-ltb one (half_width w (n - 1) * h) (rw half-known at l) in
          record {
            number = rw (eq-eqb (early_cause converted n w spaced ds ps) 0 none, wide);
            numbers = λ e. absurd (eight e);
            spacing-is = λ e. absurd (eight e);
            widest-is = λ e. absurd (eight e);
            spacing-within-one = λ e. absurd (eight e);
          }
        where
          eight : ◌≡◌ {A = ℕ} 8 0 → ⊥
          eight e = omega arith

      pub plan-made : half.value * h ≤ one → Planned n w converted spaced h ds ps (record { number = 0; spacing = h; widest = half.value })
      plan-made l =
          let narrow = le-ltb one (half_width w (n - 1) * h) (rw half-known at l) in
          record {
            number = rw (eq-eqb (early_cause converted n w spaced ds ps) 0 none, narrow);
            numbers = λ _. known;
            spacing-is = λ _. refl;
            widest-is = λ _. half-known;
            spacing-within-one = λ _. l;
          }
