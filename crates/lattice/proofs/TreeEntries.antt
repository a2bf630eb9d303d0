-- What callers conclude from the answers of the lattice's entries.
-- Assumes nothing.
use mathlib.Core.Path.{◌≡◌, sym, ap, ◌∙◌, subst}
use Prim.Native.Nat.{ℕ, suc, ◌≤◌, ◌<◌}
use native.Mathlib.Nat.{pos_of_ne-zero}
use native.Mathlib.Omega.{arith}
use Rattle.limits.specs.WithinLimits.{WithinLimits}
use Rattle.arithmetic.specs.Answers.{refused, answered}
use Rattle.std.proofs.Common.{Result}
use Rattle.std.specs.Result.{IsOk}
use Rattle.arithmetic.specs.Refusals.{answer_of}
use Rattle.arithmetic.specs.declared.Answer.{Answer}
use Rattle.arithmetic.specs.declared.Refusal.{Refusal}
use Rattle.arithmetic.proofs.RefusalLaws.{answer-ok}
use Rattle.arithmetic.proofs.Numbers.{by_order, by_equal}
use Rattle.lattice.specs.Entries.{about_row, about_tree}
use Rattle.lattice.proofs.EntryLaws.{row-found, tree-empty, tree-long, tree-steep, tree-found}

-- the value that an entry gives for a row of a tree
pub row-value : (b i x : ℕ) (a : Answer) → a ≡ about_row b i x → b ≤ 6000 → i ≤ 60 → a.value ≡ x
row-value b i x a e hb hi = ap (λ (r : Answer). r.value) (e ∙ row-found b i x hb hi)

-- and there is such a value
pub row-ok : (b i x : ℕ) (r : Result ℕ Refusal) → answer_of r ≡ about_row b i x → b ≤ 6000 → i ≤ 60 → IsOk r
row-ok b i x r e hb hi = answer-ok r (ap (λ (a : Answer). a.number) (e ∙ row-found b i x hb hi))

module _ (n b x : ℕ) where
  -- a property of an answer about a tree, from what each of its cases says
  pub by-tree :
      (P : Answer → Type 0)
      → (n ≡ 0 → P (refused 3))
      → (60 < n → P (refused 3))
      → (0 < n → n ≤ 60 → 6000 < b → P (refused 4))
      → (WithinLimits n b → P (answered x))
      → P (about_tree n b x)
  by-tree P empty long steep found =
      by_equal n 0
      (λ z. subst P (sym (tree-empty n b x z)) (empty z))
      (λ nz. by_order n 60
      (λ h. by_order b 6000
      (λ g. subst P (sym (tree-found n b x nz h g)) (found (record { steps-positive = pos_of_ne-zero nz; steps-within-limit = h; reversion-within-limit = g })))
      (λ g. subst P (sym (tree-steep n b x nz h g)) (steep (pos_of_ne-zero nz) h g)))
      (λ h. subst P (sym (tree-long n b x nz h)) (long h)))

  module _ (a : Answer) (e : a ≡ about_tree n b x) where
    -- number 0: the limits hold
    pub tree-accepted : a.number ≡ 0 → WithinLimits n b
    tree-accepted z =
        by-tree (λ r. r.number ≡ 0 → WithinLimits n b)
        (λ h k. absurd (apart k)) (λ h k. absurd (apart k)) (λ p h s k. absurd (apart k)) (λ l k. l)
        (sym (ap (λ (r : Answer). r.number) e) ∙ z)
      where
        apart : {k : ℕ} → suc k ≡ 0 → ⊥
        apart k = omega arith

    -- and then the value is the one asked for
    pub tree-value : WithinLimits n b → a.value ≡ x
    tree-value l =
        ap (λ (r : Answer). r.value) (e ∙ tree-found n b x (λ z. none z) l.steps-within-limit l.reversion-within-limit)
      where
        none : n ≡ 0 → ⊥
        none z = omega (arith, l.steps-positive)

-- and there is such a value
pub tree-ok : (n b x : ℕ) (r : Result ℕ Refusal) → answer_of r ≡ about_tree n b x → WithinLimits n b → IsOk r
tree-ok n b x r e l = answer-ok r (ap (λ (a : Answer). a.number) (e ∙ tree-found n b x none l.steps-within-limit l.reversion-within-limit))
  where
    none : n ≡ 0 → ⊥
    none z = omega (arith, l.steps-positive)
