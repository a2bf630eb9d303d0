-- Laws of every node of the tree, for every reversion up to 6,000: no probability is below 0, the three sum to 600,000,000, the mean change is
-- −z / 10,000 nodes and the variance 1/3.
-- Assumes nothing.
use mathlib.Core.Path.{◌≡◌, refl, sym, ap, ◌∙◌}
use mathlib.Core.Bool.{Bool, true, false, cond}
use Prim.Native.Nat.{ℕ, suc, ◌+◌, ◌*◌, ◌≤◌, ◌<◌}
use native.Mathlib.Nat.{pos_of_ne-zero, mul-zero}
use native.Mathlib.Omega.{arith}
use lib.Dec.{eqb}
use borrow.Author.Tests.{eq-eqb, ne_eqb}
use lib.IntN.{ℤ, pos, negsuc, neg_ℤ, nat_abs, ◌*ℤ◌, neg_ℤ-neg_ℤ}
use Rattle.arithmetic.proofs.Numbers.{by_equal, by_order}
use Rattle.arithmetic.proofs.Signed.{abs-negative}
use Rattle.lattice.specs.Shape.{highest_node}
use Rattle.lattice.specs.Branching.{Branching, ordinary, top, bottom, branching, z_of, up_formula, middle_formula, down_formula}
use Rattle.lattice.specs.Branching.{up_probability, middle_probability, down_probability, change, square}
use Rattle.lattice.proofs.Destinations.{change-is, square-is}
use Rattle.lattice.proofs.Sizes.{Within, highest-above, highest-within, below-highest}
use Rattle.lattice.proofs.Formulas.{Upper, upper-ordinary, upper-top, times-negative}
use Rattle.lattice.proofs.Formulas.{mirrored, up-mirrored, middle-mirrored, down-mirrored, change-mirrored, square-mirrored}

-- which branching: by the size of z alone, without J
pub ordinary-node : (b d : ℕ) → d * b ≤ 1840 → branching b (pos d) ≡ ordinary
unfolding branching
ordinary-node b d h =
    by_equal b 0
    (λ z. simp (eq-eqb b 0 z))
    (λ nz. simp (ne_eqb b 0 nz, ne_eqb d (highest_node b) (λ e. apart nz e)))
  where
    apart : (b ≡ 0 → ⊥) → d ≡ highest_node b → ⊥
    apart nz e = omega (arith, ap (λ (x : ℕ). x * b) e, highest-above b (pos_of_ne-zero nz))

module _ (b d : ℕ) (w : Within b d) (h : 1840 < d * b) where
  not-flat : b ≡ 0 → ⊥
  not-flat z = omega (arith, ap (λ (x : ℕ). d * x) z, mul-zero d)

  at-highest : d ≡ highest_node b
  at-highest =
      by_order (highest_node b) d (λ l. omega (arith, w not-flat)) (λ l. absurd (absent (below-highest b d l)))
    where
      absent : d * b ≤ 1840 → ⊥
      absent g = omega arith

  pub top-node : branching b (pos d) ≡ top
  unfolding branching
  top-node = simp (ne_eqb b 0 not-flat, eq-eqb d (highest_node b) at-highest)

  pub top-range : b ≤ 6000 → (1841 ≤ d * b) × (d * b ≤ 7840)
  top-range hb = (h, omega (arith, ap (λ (x : ℕ). x * b) at-highest, highest-within b))

-- the three numbers of a node on the upper side
as-computed : (r : Branching) (a u m d : ℕ) → Upper r a u m d →
    Upper r a (nat_abs (up_formula r (pos a))) (nat_abs (middle_formula r (pos a))) (nat_abs (down_formula r (pos a)))
as-computed r a u m d n = rw (n.up_is, n.middle-is, n.down_is) n

pub upper-node : (b d : ℕ) → b ≤ 6000 → Within b d →
    Upper (branching b (pos d)) (d * b) (up_probability b (pos d)) (middle_probability b (pos d)) (down_probability b (pos d))
unfolding up_probability middle_probability down_probability z_of
upper-node b d hb w =
    by_order (d * b) 1840
    (λ h. rw (ordinary-node b d h) (as-computed ordinary (d * b) _ _ _ (upper-ordinary (d * b) h)))
    (λ h. let s = top-range b d w h hb in rw (top-node b d w h) (as-computed top (d * b) _ _ _ (upper-top (d * b) s.0 s.1)))

-- ---- the lower side

pub branching-mirrored : (b c : ℕ) → branching b (negsuc c) ≡ mirrored (branching b (pos (suc c)))
unfolding branching
branching-mirrored b c = go (eqb b 0) (eqb (suc c) (highest_node b))
  where
    go : (s t : Bool) → cond s ordinary (cond t bottom ordinary) ≡ mirrored (cond s ordinary (cond t top ordinary))
    go true t = refl
    go false true = refl
    go false false = refl

module _ (b c : ℕ) where
  pub up-lower : up_probability b (negsuc c) ≡ down_probability b (pos (suc c))
  unfolding up_probability down_probability z_of
  up-lower = rw (branching-mirrored b c, up-mirrored (branching b (pos (suc c))) (suc c * b))

  pub middle-lower : middle_probability b (negsuc c) ≡ middle_probability b (pos (suc c))
  unfolding middle_probability z_of
  middle-lower = rw (branching-mirrored b c, middle-mirrored (branching b (pos (suc c))) (suc c * b))

  pub down-lower : down_probability b (negsuc c) ≡ up_probability b (pos (suc c))
  unfolding up_probability down_probability z_of
  down-lower = rw (branching-mirrored b c, down-mirrored (branching b (pos (suc c))) (suc c * b))

  change-lower : change b (negsuc c) ≡ neg_ℤ (change b (pos (suc c)))
  change-lower =
      rw (change-is b (negsuc c), change-is b (pos (suc c)), branching-mirrored b c, up-lower, middle-lower, down-lower)
      (change-mirrored (branching b (pos (suc c))) (up_probability b (pos (suc c))) (middle_probability b (pos (suc c))) (down_probability b (pos (suc c))))

  square-lower : square b (negsuc c) ≡ square b (pos (suc c))
  square-lower =
      rw (square-is b (negsuc c), square-is b (pos (suc c)), branching-mirrored b c, up-lower, middle-lower, down-lower)
      (square-mirrored (branching b (pos (suc c))) (up_probability b (pos (suc c))) (middle_probability b (pos (suc c))) (down_probability b (pos (suc c))))

-- What holds of a node of the tree.
pub record Node (b : ℕ) (j : ℤ) : Type 0 where
  -- each formula is a whole number at least 0
  pub up-whole : up_formula (branching b j) (z_of b j) ≡ pos (up_probability b j)
  pub middle-whole : middle_formula (branching b j) (z_of b j) ≡ pos (middle_probability b j)
  pub down-whole : down_formula (branching b j) (z_of b j) ≡ pos (down_probability b j)
  pub total : up_probability b j + middle_probability b j + down_probability b j ≡ 600000000
  -- the mean change, over 600,000,000, is −z over 10,000
  pub mean : pos 10000 *ℤ change b j ≡ neg_ℤ (pos 600000000 *ℤ z_of b j)
  -- the mean square less the square of the mean is 1/3
  pub variance : 3 * (600000000 * square b j) ≡ 600000000 * 600000000 + 3 * (nat_abs (change b j) * nat_abs (change b j))

varied : (a s x : ℕ) → s ≡ 2 * (100000000 + 3 * (a * a)) → x ≡ 60000 * a → 3 * (600000000 * s) ≡ 600000000 * 600000000 + 3 * (x * x)
varied a s x es ex = rw (es, ex) (omega arith)

scaled : (a : ℕ) → 10000 * (60000 * a) ≡ 600000000 * a
scaled a = omega arith

upper : (b d : ℕ) → Upper (branching b (pos d)) (d * b) (up_probability b (pos d)) (middle_probability b (pos d)) (down_probability b (pos d)) → Node b (pos d)
unfolding z_of
upper b d n =
    let moved = change-is b (pos d) ∙ n.change-is in
    record {
      up-whole = n.up_is;
      middle-whole = n.middle-is;
      down-whole = n.down_is;
      total = n.total;
      mean =
          ap (λ (t : ℤ). pos 10000 *ℤ t) moved ∙ times-negative 10000 (60000 * (d * b))
          ∙ ap (λ (x : ℕ). neg_ℤ (pos x)) (scaled (d * b));
      variance = varied (d * b) _ _ (square-is b (pos d) ∙ n.square-is) (ap nat_abs moved ∙ abs-negative (60000 * (d * b)));
    }

module _
    (b c : ℕ)
    (n : Upper (branching b (pos (suc c))) (suc c * b) (up_probability b (pos (suc c))) (middle_probability b (pos (suc c)))
    (down_probability b (pos (suc c)))) where
  change-below : change b (negsuc c) ≡ pos (60000 * (suc c * b))
  change-below = change-lower b c ∙ ap neg_ℤ (change-is b (pos (suc c)) ∙ n.change-is) ∙ neg_ℤ-neg_ℤ (pos (60000 * (suc c * b)))

  lower : Node b (negsuc c)
  unfolding z_of
  lower =
      record {
        up-whole = rw (branching-mirrored b c, up-lower b c) (up-mirrored (branching b (pos (suc c))) (suc c * b) ∙ n.down_is);
        middle-whole = rw (branching-mirrored b c, middle-lower b c) (middle-mirrored (branching b (pos (suc c))) (suc c * b) ∙ n.middle-is);
        down-whole = rw (branching-mirrored b c, down-lower b c) (down-mirrored (branching b (pos (suc c))) (suc c * b) ∙ n.up_is);
        total = rw (up-lower b c, middle-lower b c, down-lower b c) (omega (arith, n.total));
        mean =
            ap (λ (t : ℤ). pos 10000 *ℤ t) change-below
            ∙ ap pos (scaled (suc c * b))
            ∙ sym (neg_ℤ-neg_ℤ (pos (600000000 * (suc c * b))))
            ∙ ap neg_ℤ (sym (times-negative 600000000 (suc c * b)));
        variance = varied (suc c * b) _ _ (square-lower b c ∙ square-is b (pos (suc c)) ∙ n.square-is) (ap nat_abs change-below);
      }

-- every node whose distance from the middle is at most J
pub node_laws : (b : ℕ) (j : ℤ) → b ≤ 6000 → Within b (nat_abs j) → Node b j
node_laws b (pos d) hb w = upper b d (upper-node b d hb w)
node_laws b (negsuc c) hb w = lower b c (upper-node b (suc c) hb w)
