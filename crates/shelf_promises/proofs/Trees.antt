-- The trees of the model: every call leaves good ones.
-- Assumes nothing.
use mathlib.Core.Path.{◌≡◌, refl, sym, ◌∙◌, subst}
use Prim.Native.Nat.{ℕ, ◌+◌, ◌-◌, ◌<◌}
use mathlib.Core.Bool.{Bool, true, false, cond}
use native.Mathlib.Omega.{arith}
use borrow.Author.Tests.{eq-eqb, ne_eqb, eqb-true, eqb-false}
use lib.Dec.{eqb, ltb}
use Rattle.arithmetic.proofs.Numbers.{by_equal}
use Rattle.arithmetic.proofs.RowLaws.{length-row}
use Rattle.limits.specs.Limits.{shape_cause}
use Rattle.lattice.specs.Shape.{discounts_needed}
use Rattle.lent_tree.proofs.LentLaws.{accepted-shape}
use Rattle.spacing.specs.Spacing.{spacing}
use Rattle.fitted_laws.proofs.FittedTree.{fit-discounts-length}
use Rattle.shelf_laws.specs.Shelf.{room}
use Rattle.shelf_promises.specs.Model.{ShelvedTree, Seen, absent, present, Quoted, fit_number_of, fit_discounts_of, unfitted_tree, fitted_tree}
use Rattle.shelf_promises.specs.Model.{steps_seen, reversion_seen, held_by, Call, asking, committing, releasing, pricing, locating}
use Rattle.shelf_promises.specs.Model.{desk_status, desk_cause, desk_number, put, desk_taken, desk_after}
use Rattle.shelf_promises.specs.ShelfPromises.{GoodTree}
use Rattle.shelf_promises.proofs.DeskLaws.{put_same, put_other, taken, refused}
use Rattle.shelf_promises.proofs.FitRoom.{fit-lent}
use Rattle.shelf_promises.proofs.Simulation.{GoodDesk}

-- ---- what is seen
pub same-tree : (t u : ShelvedTree) → present t ≡ present u → t ≡ u
same-tree t u e = cc

pub no-tree : (t : ShelvedTree) → absent ≡ present t → ⊥
no-tree t e = let z : ◌≡◌ {A = ℕ} 0 1 = cc in omega arith

pub never : {X : Type 0} → false ≡ true → X
never e = let z : ◌≡◌ {A = ℕ} 0 1 = cc in let none : ⊥ = omega arith in absurd none

-- ---- what an accepted call tells
asking-parts : (s t u : Bool) (c : ℕ) → (t ≡ false → c ≡ 0 → ⊥) → ◌≡◌ {A = ℕ} (cond s (cond t (cond u 14 0) c) 15) 0 →
    (s ≡ true) × (t ≡ true)
asking-parts true true u c h e = (refl, refl)
asking-parts true false u c h e = absurd (h refl e)
asking-parts false t u c h e = absurd (none e)
  where
    none : ◌≡◌ {A = ℕ} 15 0 → ⊥
    none z = omega arith

committing-parts : (s : Bool) (c : ℕ) → cond s c 15 ≡ 0 → (s ≡ true) × (c ≡ 0)
committing-parts true c e = (refl, e)
committing-parts false c e = absurd (none e)
  where
    none : ◌≡◌ {A = ℕ} 15 0 → ⊥
    none z = omega arith

module _ (desk : ℕ → Seen) (name : ℕ) where
  pub asking-told : (n b : ℕ) → desk_number desk (asking name n b) ≡ 0 → (desk_status desk name ≡ 0) × (shape_cause n b ≡ 0)
  unfolding desk_number
  asking-told n b e =
      let p =
      asking-parts (eqb (desk_status desk name) 0) (eqb (shape_cause n b) 0) (ltb room (discounts_needed n b + held_by desk 8)) (shape_cause n b)
      (λ f. eqb-false (shape_cause n b) 0 f) e in
      (eqb-true (desk_status desk name) 0 p.0, eqb-true (shape_cause n b) 0 p.1)

  pub committing-told : (q : Quoted) → desk_number desk (committing name q) ≡ 0 →
      (desk_status desk name ≡ 1) × (fit_number_of q (steps_seen (desk (name - 1))) (reversion_seen (desk (name - 1))) ≡ 0)
  unfolding desk_number
  committing-told q e =
      let p = committing-parts (eqb (desk_status desk name) 1) _ e in
      (eqb-true (desk_status desk name) 1 p.0, p.1)

  -- a name that has a status is 1 to 8
  pub name-low : desk_status desk name < 3 → 0 < name
  unfolding desk_status
  name-low h =
      by_equal name 0
      (λ (z : name ≡ 0). let none : ⊥ = omega (arith, rw (eq-eqb name 0 z) at h) in absurd none)
      (λ (z : name ≡ 0 → ⊥). omega arith)

  pub releasing-told : desk_number desk (releasing name) ≡ 0 → 0 < name
  unfolding desk_number desk_cause
  releasing-told e =
      by_equal (desk_status desk name) 1
      (λ (h : desk_status desk name ≡ 1). name-low (omega arith))
      (λ (h : desk_status desk name ≡ 1 → ⊥). by_equal (desk_status desk name) 2
      (λ (i : desk_status desk name ≡ 2). name-low (omega arith))
      (λ (i : desk_status desk name ≡ 2 → ⊥).
      let none : ⊥ = omega (arith, rw (ne_eqb (desk_status desk name) 1 h, ne_eqb (desk_status desk name) 2 i) at e) in absurd none))

-- ---- good trees
good-unfitted : (n b : ℕ) → shape_cause n b ≡ 0 → GoodTree (unfitted_tree n b)
good-unfitted n b e =
    record {
      shape = e;
      nodes = length-row (discounts_needed n b) (λ k. 0);
      unfitted = λ h. refl;
      committed = λ h. never h;
      accepted = λ h. never h;
      unfitted-bound = λ h. refl;
      unfitted-greatest = λ h. refl;
      fitted-bound = λ h. never h;
      fitted-greatest = λ h. never h;
    }

good-fitted : (q : Quoted) (n b : ℕ) → fit_number_of q n b ≡ 0 → GoodTree (fitted_tree q n b)
good-fitted q n b e =
    record {
      shape = accepted-shape n b (fit_discounts_of q n b) (fit-lent q n b e);
      nodes = fit-discounts-length q.frequency n b (spacing q.frequency q.volatility) q.kinds q.figures;
      unfitted = λ h. never (sym h);
      committed = λ h. record { quoted = q; accepted = e; discounts-are = refl };
      accepted = λ h. fit-lent q n b e;
      unfitted-bound = λ h. never (sym h);
      unfitted-greatest = λ h. never (sym h);
      fitted-bound = λ h. refl;
      fitted-greatest = λ h. refl;
    }

good-put : (desk : ℕ → Seen) (i : ℕ) (x : Seen) → GoodDesk desk → ((t : ShelvedTree) → x ≡ present t → GoodTree t) → GoodDesk (put desk i x)
good-put desk i x g h j t e =
    by_equal j i
    (λ (s : j ≡ i). h t (put_same desk i x j s ∙ e))
    (λ (s : j ≡ i → ⊥). g j t (put_other desk i x j s ∙ e))

good-taken : (desk : ℕ → Seen) (call : Call) → GoodDesk desk → desk_number desk call ≡ 0 → GoodDesk (desk_taken desk call)
unfolding desk_taken
good-taken desk (asking name n b) g z =
    good-put desk (name - 1) (present (unfitted_tree n b)) g
    (λ t e. subst GoodTree (same-tree (unfitted_tree n b) t e) (good-unfitted n b (asking-told desk name n b z).1))
good-taken desk (committing name q) g z =
    let n = steps_seen (desk (name - 1)) in
    let b = reversion_seen (desk (name - 1)) in
    good-put desk (name - 1) (present (fitted_tree q n b)) g
    (λ t e. subst GoodTree (same-tree (fitted_tree q n b) t e) (good-fitted q n b (committing-told desk name q z).1))
good-taken desk (releasing name) g z = good-put desk (name - 1) absent g (λ t e. absurd (no-tree t e))
good-taken desk (pricing name p) g z = g
good-taken desk (locating name) g z = g

pub good-after : (desk : ℕ → Seen) (call : Call) → GoodDesk desk → GoodDesk (desk_after desk call)
good-after desk call g =
    by_equal (desk_number desk call) 0
    (λ (e : desk_number desk call ≡ 0). subst GoodDesk (taken desk call e) (good-taken desk call g e))
    (λ (e : desk_number desk call ≡ 0 → ⊥). subst GoodDesk (refused desk call e) g)
