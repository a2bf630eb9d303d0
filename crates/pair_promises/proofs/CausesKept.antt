-- The causes about two trees are those of the table.
-- Assumes nothing.
use mathlib.Core.Path.{◌≡◌, refl, sym, ap, ap₂, ◌∙◌}
use mathlib.Core.Bool.{Bool, true, false, not, cond, ◌&&◌}
use mathlib.Core.List.{List, [], ◌∷◌, ◌++◌}
use Prim.Native.Nat.{ℕ, suc}
use lib.Dec.{eqb, leb, ltb}
use lib.ListN.{length}
use Rattle.arithmetic.specs.Row.{each}
use Rattle.arithmetic.specs.Sum.{greatest}
use Rattle.arithmetic.specs.Answers.{lowest_cause, first_cause}
use Rattle.arithmetic.proofs.RowLaws.{each-cong}
use Rattle.limits.specs.Limits.{is_steps, is_reversion, shape_cause, limit_cause}
use Rattle.lattice.specs.Shape.{node_count, row_start, discounts_needed}
use Rattle.lent_tree.specs.LentTree.{accepted_discounts, discounts_cause}
use Rattle.pricing_laws.specs.Peak.{peak}
use Rattle.pricing_laws.specs.Pricer.{Side, Schedule}
use Rattle.pricing_laws.specs.Schedule.{numbered_side, dated_schedule}
use Rattle.price_causes.specs.Causes.{flows_cause}
use Rattle.promises.specs.Causes.{Cause, cause, first_of, discounts_accepted, flows_accepted, terms_accepted, dates_accepted}
use Rattle.promises.proofs.CauseTables.{not-leb, seven, first-append, number-priced, larger-above, greatest-above, peak-above}
use Rattle.promises.proofs.PriceCauses.{list-cause, flows-alike}
use Rattle.pair_laws.specs.Pair.{Pair, at, combined}
use Rattle.pair_laws.specs.PairCauses.{pair_steps_cause, discounted, combined_cause, pair_discounts_cause, pair_cause}
use Rattle.pair_laws.specs.PairPrices.{greatest_pair, pair_bound, pair_bond_value, pair_bond_peak, pair_option_value}
use Rattle.pair_laws.specs.PairPrices.{pair_option_peak, pair_option_limit, pair_bond_price, pair_dated_price}
use Rattle.pair_promises.specs.Causes.{pairs_discounted, pairs_accepted, pair_causes, bond_within, option_within, PairCausePromises}

-- ---- the trees and their flows: the definitions' combination of tests and the table's

-- the causes about one tree with steps within their limits: reversion, length, discounts
abbrev lent : Bool → Bool → Bool → ℕ
lent r l a = cond (eqb (cond r 0 4) 0) (cond l (cond a 0 9) 6) (cond r 0 4)

abbrev made : Bool → Bool → Bool → Bool → Bool → Bool → Bool → Bool → Bool → ℕ
made r u l k a d p m f = lowest_cause (first_cause (lowest_cause (lent r l a) (lent u k d)) (cond p 0 9)) (cond m (cond f 0 10) 6)

abbrev tabled : Bool → Bool → Bool → Bool → Bool → Bool → Bool → Bool → Bool → ℕ
tabled r u l k a d p m f =
    cond (not (r && u)) 4 (cond (not (l && k && m)) 6 (cond (not (a && d)) 9 (cond (not p) 9 (cond (not f) 10 0))))

made_alike : (r u l k a d p m f : Bool) → made r u l k a d p m f ≡ tabled r u l k a d p m f
unfolding lowest_cause first_cause
made_alike true true = seven (made true true) (tabled true true) refl
made_alike true false = seven (made true false) (tabled true false) refl
made_alike false true = seven (made false true) (tabled false true) refl
made_alike false false = seven (made false false) (tabled false false) refl

-- steps first: s and t of either tree, q both alike and few
by-steps : (s t q : Bool) (r u l k a d p m f : Bool) (x y : ℕ) → (s ≡ true → x ≡ lent r l a) → (t ≡ true → y ≡ lent u k d) →
    first_cause (cond (s && t) (cond q 0 19) 3) (lowest_cause (first_cause (lowest_cause x y) (cond p 0 9)) (cond m (cond f 0 10) 6))
    ≡ cond (not (s && t)) 3 (cond (not q) 19 (tabled r u l k a d p m f))
unfolding first_cause
by-steps false t q r u l k a d p m f x y ex ey = refl
by-steps true false q r u l k a d p m f x y ex ey = refl
by-steps true true false r u l k a d p m f x y ex ey = refl
by-steps true true true r u l k a d p m f x y ex ey = rw (ex refl, ey refl) (made_alike r u l k a d p m f)

lent_is : (n b : ℕ) (discounts : List ℕ) → is_steps n ≡ true →
    discounts_cause n b discounts ≡ lent (is_reversion b) (leb (row_start b n) (length discounts)) (discounts_accepted n b discounts)
unfolding discounts_cause shape_cause accepted_discounts discounts_needed
lent_is n b discounts e = rw e

module _ (n b : ℕ) (rates : List ℕ) (m c : ℕ) (spreads flows : List ℕ) where
  trees-first : pair_cause n b rates m c spreads flows ≡ first_of (pair_causes n b rates m c spreads flows [])
  unfolding pair_cause pair_steps_cause pair_discounts_cause combined_cause discounted combined flows_cause first_of
  trees-first =
      rw (flows-alike n b rates flows)
      (by-steps (is_steps n) (is_steps m) (leb n 20 && eqb n m) (is_reversion b) (is_reversion c) (leb (row_start b n) (length rates))
      (leb (row_start c m) (length spreads)) (discounts_accepted n b rates) (discounts_accepted m c spreads) (pairs_discounted n b c rates spreads)
      (eqb (length flows) n) (flows_accepted flows) (discounts_cause n b rates) (discounts_cause m c spreads) (lent_is n b rates) (lent_is m c spreads))

-- ---- values above their limit

turned-back : (t u : Bool) → not t ≡ not u → t ≡ u
turned-back true true e = refl
turned-back true false e = sym e
turned-back false true e = sym e
turned-back false false e = refl

greatest-within : (n : ℕ) (f : ℕ → ℕ) (limit : ℕ) → leb (greatest n f) limit ≡ each n (λ k. leb (f k) limit)
greatest-within n f limit = turned-back _ _ (not-leb (greatest n f) limit ∙ greatest-above n f limit)

pairs-above : (b c n : ℕ) (value : ℕ → Pair → ℕ) →
    ltb 8000000000 (peak (λ i. greatest_pair b c i (value i)) n 0) ≡ not (pairs_accepted b c n value)
unfolding greatest_pair
pairs-above b c n value =
    peak-above (node_count b) (λ i j. greatest (node_count c i) (λ l. value i (at j l))) n 8000000000
    ∙ ap not (each-cong (suc n) _ _ (λ i hi. each-cong (node_count b i) _ _ (λ j hj.
    greatest-within (node_count c i) (λ l. value i (at j l)) 8000000000)))

module _ (n b c : ℕ) (rates spreads flows : List ℕ) where
  bond-above : ltb 8000000000 (pair_bond_peak n b c rates spreads flows) ≡ not (bond_within n b c rates spreads flows)
  unfolding pair_bond_peak pair_bond_value
  bond-above = pairs-above b c n (pair_bond_value n b c rates spreads flows)

  bond-limit : limit_cause (pair_bond_peak n b c rates spreads flows) ≡ first_of (cause 12 (not (bond_within n b c rates spreads flows)) ∷ [])
  unfolding limit_cause first_of
  bond-limit = rw bond-above refl

  module _ (side : Side) (strike : ℕ) (rows : Schedule) where
    option-above : ltb 8000000000 (pair_option_peak n b c rates spreads flows side strike rows)
        ≡ not (option_within n b c rates spreads flows side strike rows)
    unfolding pair_option_peak pair_option_value
    option-above = pairs-above b c rows.last (pair_option_value n b c rates spreads flows side strike rows)

    option-limit : pair_option_limit n b c rates spreads flows side strike rows
        ≡ first_of (cause 12 (not (bond_within n b c rates spreads flows && option_within n b c rates spreads flows side strike rows)) ∷ [])
    unfolding pair_option_limit limit_cause first_of
    option-limit =
        ap (λ (t : Bool). cond t 12 0)
        (larger-above (pair_bond_peak n b c rates spreads flows) (pair_option_peak n b c rates spreads flows side strike rows) 8000000000
        (bond_within n b c rates spreads flows) (option_within n b c rates spreads flows side strike rows) bond-above option-above)

-- ---- the table

pub pair-causes-kept : PairCausePromises
unfolding pair_bond_price pair_dated_price
pair-causes-kept =
    record {
      bond-causes = λ n b rates m c spreads flows.
          number-priced _ (pair_bond_value n b c rates spreads flows 0 (at 0 0)) (pair_bound n b c rates spreads)
          ∙ ap₂ first_cause (trees-first n b rates m c spreads flows) (bond-limit n b c rates spreads flows)
          ∙ first-append (pair_causes n b rates m c spreads flows []) (cause 12 (not (bond_within n b c rates spreads flows)) ∷ []) refl;
      dated-causes = λ n b rates m c spreads flows side dates strike.
          let own : List Cause = cause 11 (not (terms_accepted side strike)) ∷ cause 13 (not (dates_accepted n dates)) ∷ [] in
          let last : List Cause
          = cause 12 (not (bond_within n b c rates spreads flows
          && option_within n b c rates spreads flows (numbered_side side) strike (dated_schedule dates))) ∷ [] in
          number-priced _ (pair_option_value n b c rates spreads flows (numbered_side side) strike (dated_schedule dates) 0 (at 0 0))
          (pair_bound n b c rates spreads)
          ∙ ap₂ first_cause (trees-first n b rates m c spreads flows)
          (ap₂ first_cause (list-cause n side dates strike)
          (option-limit n b c rates spreads flows (numbered_side side) strike (dated_schedule dates))
          ∙ first-append own last refl)
          ∙ first-append (pair_causes n b rates m c spreads flows []) (own ++ last) refl;
    }
