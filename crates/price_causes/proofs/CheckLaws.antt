-- The causes by the tests that the code makes, and what a cause of 0 gives.
-- Assumes nothing.
use mathlib.Core.Path.{◌≡◌, refl, sym, ◌∙◌}
use mathlib.Core.Bool.{Bool, true, false, cond, ◌&&◌}
use mathlib.Core.List.{List}
use Prim.Native.Nat.{ℕ, suc, ◌≤◌, ◌<◌}
use native.Mathlib.Omega.{arith}
use lib.Dec.{eqb, leb, ltb}
use lib.ListN.{length}
use borrow.Author.Tests.{le-leb, lt-leb, leb-true, eq-eqb, ne_eqb, eqb-true, lt-ltb, le-ltb, ltb-true}
use Rattle.arithmetic.specs.Row.{values, each, between}
use Rattle.arithmetic.proofs.Numbers.{by_order}
use Rattle.arithmetic.proofs.RowLaws.{each_holds}
use Rattle.arithmetic.proofs.BetweenLaws.{and_left, and_right, between-most}
use Rattle.price_causes.specs.Causes.{most_flow, most_strike, flows_cause, option_cause, terms_cause}
use Rattle.price_causes.specs.inside.Flows.{AcceptedFlows}

-- where a cause of 0 was found, each test passed
cond-zero-else : (p : Bool) (x m : ℕ) → cond p x (suc m) ≡ 0 → (p ≡ true) × (x ≡ 0)
cond-zero-else true x m e = (refl, e)
cond-zero-else false x m e = absurd (omega arith)

-- ---- flows

module _ (n : ℕ) (flows : List ℕ) where
  pub flows-miscounted : (length flows ≡ n → ⊥) → 6 ≡ flows_cause n flows
  unfolding flows_cause
  flows-miscounted h = sym (rw (ne_eqb (length flows) n h))

  module _ (count : length flows ≡ n) (r : Bool) (judged : r ≡ each (length flows) (between 0 most_flow (values flows))) where
    pub flow-refused : r ≡ false → 10 ≡ flows_cause n flows
    unfolding flows_cause
    flow-refused h = sym (rw (eq-eqb (length flows) n count, ← judged, h))

    pub flows-passed : r ≡ true → 0 ≡ flows_cause n flows
    unfolding flows_cause
    flows-passed h = sym (rw (eq-eqb (length flows) n count, ← judged, h))

  pub flows-accepted : flows_cause n flows ≡ 0 → AcceptedFlows n flows
  unfolding flows_cause
  flows-accepted e =
      let c = cond-zero-else (eqb (length flows) n) _ 5 e in
      let f = cond-zero-else (each (length flows) (between 0 most_flow (values flows))) 0 9 c.1 in
      let count = eqb-true (length flows) n c.0 in
      record {
        count = count;
        flowing = λ k h. between-most 0 most_flow (values flows) k (each_holds (length flows) k _ f.0 (omega arith));
      }

-- ---- an option

module _ (n kind expiry strike : ℕ) where
  pub kind-below : kind < 1 → 11 ≡ option_cause n kind expiry strike
  unfolding option_cause
  kind-below h = sym (rw (lt-leb 1 kind h))

  module _ (some : 1 ≤ kind) where
    pub kind-above : 4 < kind → 11 ≡ option_cause n kind expiry strike
    unfolding option_cause
    kind-above h = sym (rw (le-leb 1 kind some, lt-leb kind 4 h))

    module _ (few : kind ≤ 4) where
      pub expiry-past : n ≤ expiry → 11 ≡ option_cause n kind expiry strike
      unfolding option_cause
      expiry-past h = sym (rw (le-leb 1 kind some, le-leb kind 4 few, le-ltb expiry n h))

      module _ (in_tree : expiry < n) where
        pub strike-above : most_strike < strike → 11 ≡ option_cause n kind expiry strike
        unfolding option_cause
        strike-above h = sym (rw (le-leb 1 kind some, le-leb kind 4 few, lt-ltb expiry n in_tree, lt-leb strike most_strike h))

        pub option-passed : strike ≤ most_strike → 0 ≡ option_cause n kind expiry strike
        unfolding option_cause
        option-passed h = sym (rw (le-leb 1 kind some, le-leb kind 4 few, lt-ltb expiry n in_tree, le-leb strike most_strike h))

pub option-accepted : (n kind expiry strike : ℕ) → option_cause n kind expiry strike ≡ 0 → (expiry < n) × (strike ≤ most_strike)
unfolding option_cause
option-accepted n kind expiry strike e =
    let p = cond-zero-else (leb 1 kind && leb kind 4 && ltb expiry n && leb strike most_strike) 0 10 e in
    let most = leb 1 kind && leb kind 4 && ltb expiry n in (
      ltb-true expiry n (and_right (leb 1 kind && leb kind 4) (ltb expiry n) (and_left most (leb strike most_strike) p.0)),
      leb-true strike most_strike (and_right most (leb strike most_strike) p.0),
    )

-- and the kind is one of the four
pub kind-known : (n kind expiry strike : ℕ) → option_cause n kind expiry strike ≡ 0 → (1 ≤ kind) × (kind ≤ 4)
unfolding option_cause
kind-known n kind expiry strike e =
    let p = cond-zero-else (leb 1 kind && leb kind 4 && ltb expiry n && leb strike most_strike) 0 10 e in
    let known = leb 1 kind && leb kind 4 in
    let kinds = and_left known (ltb expiry n) (and_left (known && ltb expiry n) (leb strike most_strike) p.0) in
    (leb-true 1 kind (and_left (leb 1 kind) (leb kind 4) kinds), leb-true kind 4 (and_right (leb 1 kind) (leb kind 4) kinds))

-- ---- a dated option's side and strike

module _ (side strike : ℕ) where
  pub side-below : side < 1 → 11 ≡ terms_cause side strike
  unfolding terms_cause
  side-below h = sym (rw (lt-leb 1 side h))

  module _ (some : 1 ≤ side) where
    pub side-above : 2 < side → 11 ≡ terms_cause side strike
    unfolding terms_cause
    side-above h = sym (rw (le-leb 1 side some, lt-leb side 2 h))

    module _ (few : side ≤ 2) where
      pub terms-above : most_strike < strike → 11 ≡ terms_cause side strike
      unfolding terms_cause
      terms-above h = sym (rw (le-leb 1 side some, le-leb side 2 few, lt-leb strike most_strike h))

      pub terms-passed : strike ≤ most_strike → 0 ≡ terms_cause side strike
      unfolding terms_cause
      terms-passed h = sym (rw (le-leb 1 side some, le-leb side 2 few, le-leb strike most_strike h))

  pub terms-accepted : terms_cause side strike ≡ 0 → strike ≤ most_strike
  unfolding terms_cause
  terms-accepted e =
      let p = cond-zero-else (leb 1 side && leb side 2 && leb strike most_strike) 0 10 e in
      leb-true strike most_strike (and_right (leb 1 side && leb side 2) (leb strike most_strike) p.0)

-- a known kind whose expiry is below n is judged by its strike alone, as a dated option of either side
pub kind-terms :
    (n kind expiry strike side : ℕ) → 1 ≤ kind → kind ≤ 4 → expiry < n → 1 ≤ side → side ≤ 2 → option_cause n kind expiry strike ≡ terms_cause side strike
kind-terms n kind expiry strike side some few inside low high =
    by_order strike most_strike
    (λ h. sym (option-passed n kind expiry strike some few inside h) ∙ terms-passed side strike low high h)
    (λ h. sym (strike-above n kind expiry strike some few inside h) ∙ terms-above side strike low high h)
