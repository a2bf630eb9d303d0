-- The branch of a node as code works it out, and the entry's answer by the tests that code makes.
-- Assumes nothing.
use mathlib.Core.Path.{◌≡◌}
use mathlib.Core.Bool.{true}
use mathlib.Core.List.{List, [], ◌∷◌}
use Prim.Native.Nat.{ℕ, suc, ◌+◌, ◌*◌, ◌≤◌, ◌<◌}
use native.Mathlib.Omega.{arith}
use lib.ListN.{get_or}
use borrow.Author.Tests.{lt-ltb, le-ltb, le-leb, lt-leb, ltb-true}
use lib.IntN.{ℤ, pos, negsuc, neg_ℤ, nat_abs, ◌-ℤ◌}
use lib.Signed.{lt_z}
use mir.Syntax.{w64}
use mir.Val.{SFits}
use Rattle.arithmetic.proofs.Numbers.{by_order}
use Rattle.arithmetic.proofs.Signed.{abs-negative, abs-sum, fits-by-size}
use Rattle.limits.specs.Limits.{most_steps, most_reversion}
use Rattle.lattice.specs.Shape.{half_width}
use Rattle.lattice.specs.Branching.{lowest_of, up_probability, middle_probability, down_probability, probabilities}
use Rattle.lattice.specs.Entries.{refused_branch, branch_of, branch_answer}
use Rattle.lattice.specs.declared.Branches.{Branches}
use Rattle.lattice.proofs.Sizes.{within-row, row_within, within-by-product, product-within, half-within}
use Rattle.lattice.proofs.Nodes.{ordinary-node, top-node, branching-mirrored, up-lower, middle-lower, down-lower}

-- a node's neighbours are small
pub less-fits : (j : ℤ) (c : ℕ) → nat_abs j ≤ 60 → c ≤ 2 → SFits w64 (j -ℤ pos c)
less-fits j c h l = fits-by-size (j -ℤ pos c) (omega (arith, abs-sum j (neg_ℤ (pos c)), abs-negative c))

-- the upper side
module _ (b d : ℕ) where
  pub upper-edge : d * b ≤ 1840 + b → 1840 < d * b →
      ◌≡◌ {A = Branches} (record { number = 0; lowest = pos d -ℤ pos 2; probabilities = probabilities b (pos d) }) (branch_of b (pos d))
  unfolding lowest_of
  upper-edge w h = rw (top-node b d (within-by-product b d w) h)

  pub upper-ordinary : d * b ≤ 1840 →
      ◌≡◌ {A = Branches} (record { number = 0; lowest = pos d -ℤ pos 1; probabilities = probabilities b (pos d) }) (branch_of b (pos d))
  unfolding lowest_of
  upper-ordinary h = rw (ordinary-node b d h)

-- the probabilities of the node so far above the middle, up and down exchanged
abbrev mirrored : ℕ → ℕ → List ℕ
mirrored b d = down_probability b (pos d) ∷ middle_probability b (pos d) ∷ up_probability b (pos d) ∷ []

-- the lower side: the mirror image of the upper
module _ (b c : ℕ) where
  edge-image : suc c * b ≤ 1840 + b → 1840 < suc c * b →
      ◌≡◌ {A = Branches}
      (record { number = 0; lowest = negsuc c; probabilities = mirrored b (suc c) })
      (branch_of b (negsuc c))
  unfolding lowest_of
  edge-image w h =
      rw (branching-mirrored b c, top-node b (suc c) (within-by-product b (suc c) w) h, up-lower b c, middle-lower b c, down-lower b c)

  ordinary-image : suc c * b ≤ 1840 →
      ◌≡◌ {A = Branches}
      (record { number = 0; lowest = negsuc c -ℤ pos 1; probabilities = mirrored b (suc c) })
      (branch_of b (negsuc c))
  unfolding lowest_of
  ordinary-image h = rw (branching-mirrored b c, ordinary-node b (suc c) h, up-lower b c, middle-lower b c, down-lower b c)

pub lower-edge : (b d : ℕ) (j : ℤ) (p : List ℕ) → nat_abs j ≡ d → lt_z j (pos 0) ≡ true → p ≡ probabilities b (pos d) →
    d * b ≤ 1840 + b → 1840 < d * b →
    ◌≡◌ {A = Branches} (record { number = 0; lowest = j; probabilities = get_or p 2 0 ∷ get_or p 1 0 ∷ get_or p 0 0 ∷ [] }) (branch_of b j)
lower-edge b d (pos n) p s l e w h = absurd (none (ltb-true n 0 l))
  where
    none : n < 0 → ⊥
    none g = omega arith
lower-edge b d (negsuc c) p s l e w h = rw (e, ← s) (edge-image b c (rw s w) (rw s h))

pub lower-ordinary : (b d : ℕ) (j : ℤ) (p : List ℕ) → nat_abs j ≡ d → lt_z j (pos 0) ≡ true → p ≡ probabilities b (pos d) →
    d * b ≤ 1840 →
    ◌≡◌ {A = Branches} (record { number = 0; lowest = j -ℤ pos 1; probabilities = get_or p 2 0 ∷ get_or p 1 0 ∷ get_or p 0 0 ∷ [] }) (branch_of b j)
lower-ordinary b d (pos n) p s l e h = absurd (none (ltb-true n 0 l))
  where
    none : n < 0 → ⊥
    none g = omega arith
lower-ordinary b d (negsuc c) p s l e h = rw (e, ← s) (ordinary-image b c (rw s h))

-- ---- the entry's answer

module _ (b i : ℕ) (j : ℤ) where
  pub answer-steep : most_reversion < b → branch_answer b i j ≡ refused_branch 4
  unfolding branch_answer
  answer-steep h = rw (lt-ltb most_reversion b h)

  module _ (hb : b ≤ most_reversion) where
    pub answer-past : most_steps ≤ i → branch_answer b i j ≡ refused_branch 6
    unfolding branch_answer
    answer-past h = rw (le-ltb most_reversion b hb, le-leb most_steps i h)

    module _ (hi : i < most_steps) where
      outside : half_width b i < nat_abs j → branch_answer b i j ≡ refused_branch 6
      unfolding branch_answer
      outside h = rw (le-ltb most_reversion b hb, lt-leb most_steps i hi, lt-leb (nat_abs j) (half_width b i) h)

      pub answer-wide : (d : ℕ) → d ≡ nat_abs j → i < d → branch_answer b i j ≡ refused_branch 6
      answer-wide d e h = outside (omega (arith, half-within b i))

      pub answer-beyond : (d : ℕ) → d ≡ nat_abs j → 1840 + b < d * b → branch_answer b i j ≡ refused_branch 6
      answer-beyond d e h =
          outside (by_order (nat_abs j) (half_width b i) (λ l. absurd (none (product-within b d (within-row b i d (rw e l))))) (λ l. l))
        where
          none : d * b ≤ 1840 + b → ⊥
          none g = omega arith

      pub answer-found : (d : ℕ) → d ≡ nat_abs j → d ≤ i → d * b ≤ 1840 + b → branch_answer b i j ≡ branch_of b j
      unfolding branch_answer
      answer-found d e h w =
          let l : nat_abs j ≤ half_width b i = rw e at (row_within b i d h (within-by-product b d w)) in
          rw (le-ltb most_reversion b hb, lt-leb most_steps i hi, le-leb (nat_abs j) (half_width b i) l)
