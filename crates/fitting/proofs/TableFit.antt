-- The tables of a tree, and the fit from them as the fit of the definitions.
-- Assumes nothing.
use mathlib.Core.Path.{◌≡◌, sym, ◌∙◌, ap}
use mathlib.Core.Bool.{Bool, true, false, cond}
use mathlib.Core.List.{List, ◌++◌}
use Prim.Native.Nat.{ℕ, suc, ◌+◌, ◌-◌, ◌*◌, ◌≤◌, ◌<◌}
use native.Mathlib.Omega.{arith}
use lib.ListN.{length, drop}
use lib.IntN.{ℤ, nat_abs, sub_ℕ}
use Rattle.arithmetic.specs.declared.Answer.{Answer}
use Rattle.arithmetic.specs.Rounding.{one}
use Rattle.arithmetic.specs.Row.{row, values}
use Rattle.arithmetic.proofs.RowLaws.{values-row, length-row, each-cong}
use Rattle.tree.specs.Layout.{laid}
use Rattle.tree.proofs.LayoutLaws.{laid-cong}
use Rattle.lattice.specs.Shape.{half_width, node_count, row_start, discounts_needed, state_prices_needed}
use Rattle.lattice.specs.Branching.{down_probability}
use Rattle.lattice.specs.RateTree.{node_of_index, node, rate_tree}
use Rattle.lattice.specs.Entries.{table_of, discounts_needed_answer, state_prices_needed_answer, table_offset}
use Rattle.lattice.proofs.EntryLaws.{tree-found}
use Rattle.lattice.proofs.TreeEntries.{tree-ok}
use Rattle.lattice.specs.Entries.{about_tree, table_number}
use Rattle.arithmetic.specs.Refusals.{cause_of, answer_of}
use Rattle.arithmetic.proofs.RefusalLaws.{cause-ok}
use Rattle.lattice.proofs.Differences.{sub_is, sub-size}
use Rattle.lattice.proofs.RateTreeLaws.{same-node}
use Rattle.lattice.proofs.TableLaws.{table_fits}
use Rattle.factor.specs.declared.Sides.{Sides}
use Rattle.std.proofs.Common.{Result, Ok}
use Rattle.std.specs.Result.{IsOk}
use Rattle.arithmetic.specs.declared.Refusal.{Refusal}
use Rattle.factor.specs.Factor.{factor, side_answer, sides_answer}
use Rattle.factor.proofs.FactorLaws.{index_below, index-above, side-accepted, nearer-within, factor-bounds, below-of-both, above-of-both, sides-ok}
use Rattle.limits.specs.Limits.{most_steps, is_discount}
use Rattle.fit_laws.specs.StatePrices.{accepted_row}
use Rattle.fit_laws.proofs.WholeFit.{price-by, fitted-discount-by}
use Rattle.fit_laws.specs.inside.Bounds.{least_factor, most_factor}
use Rattle.fitting.specs.inside.Rows.{table_factor}
use Rattle.fitting.specs.inside.Preconditions.{Tables, QuotesReady}
use Rattle.fitted_laws.specs.Fit.{quoted, curve_discount, curve_state_price, curve_accepted, node_factor}
use Rattle.fitting.specs.inside.TableFit.{table_discount, table_state_price, table_accepted, TreeFitted, PastKept}
use Rattle.lattice.proofs.Sizes.{half-within}
use Rattle.lattice.proofs.ShapeLaws.{table-room, offset-is}

-- the factors of a row of half width w by index
abbrev pub factors-at : ℕ → ℕ → ℕ → ℕ
factors-at w h k = factor (node_of_index w k) h

-- the factors of both sides at a distance from the middle
module _ (w k h : ℕ) (within : w * h ≤ one) where
  below-value : k < w → (side_answer (w - k) true h).value ≡ factors-at w h k
  unfolding node_of_index
  below-value l =
      ap (λ (x : Answer). x.value) (side-accepted (w - k) true h (nearer-within (w - k) w h (omega arith) within))
      ∙ sym (index_below w k h l) ∙ ap (λ (j : ℤ). factor j h) (sym (sub_is k w))

  above-value : w ≤ k → k ≤ 2 * w → (side_answer (k - w) false h).value ≡ factors-at w h k
  unfolding node_of_index
  above-value l m =
      ap (λ (x : Answer). x.value) (side-accepted (k - w) false h (nearer-within (k - w) w h (omega arith) within))
      ∙ sym (index-above w k h l) ∙ ap (λ (j : ℤ). factor j h) (sym (sub_is k w))

pub sides-known : (w d h : ℕ) {r : Result Sides Refusal} → w * h ≤ one → d ≤ w → r ≡ sides_answer d h → IsOk r
sides-known w d h within near e = sides-ok d h _ e (nearer-within d w h near within)

module _ (w d h : ℕ) {a : Sides} (within : w * h ≤ one) (near : d ≤ w) (e : Ok a ≡ sides_answer d h) where
  pub below-side : 0 < d → a.below ≡ factors-at w h (w - d)
  below-side l =
      let back : d ≡ w - (w - d) = omega arith in
      ap (λ (x : Answer). x.value) (below-of-both d h a e)
      ∙ ap (λ (x : ℕ). (side_answer x true h).value) back ∙ below-value w (w - d) h within (omega arith)

  pub above-side : a.above ≡ factors-at w h (w + d)
  above-side =
      let back : d ≡ w + d - w = omega arith in
      ap (λ (x : Answer). x.value) (above-of-both d h a e)
      ∙ ap (λ (x : ℕ). (side_answer x false h).value) back ∙ above-value w (w + d) h within (omega arith) (omega arith)

-- every node of a row has a factor within the bounds of the series
table-bounds : (w k h : ℕ) → w * h ≤ one → k < 2 * w + 1 →
    (least_factor ≤ factor (node_of_index w k) h) × (factor (node_of_index w k) h ≤ most_factor)
unfolding node_of_index
table-bounds w k h within l = factor-bounds (sub_ℕ k w) h (nearer-within (nat_abs (sub_ℕ k w)) w h (omega (arith, sub-size k w)) within)

-- the half width of row n − 1 is below the number of steps
pub widest-small : {b h w : ℕ} {q : List ℕ} {ds ps : ℕ} → QuotesReady b h w q ds ps → w + 1 ≤ most_steps
widest-small {b} {h} {w} {q} f = omega (arith, f.widest-is, f.limits.steps-positive, f.limits.steps-within-limit, half-within b (length q - 1))

-- the table of down-probabilities of row n − 1 is not refused
pub downs-ok : {A : Type 0} {b h w : ℕ} {q : List ℕ} {ds ps : ℕ} → QuotesReady b h w q ds ps → (downs : List ℕ) → length downs ≡ 2 * w + 1 →
    (r : Result A Refusal) → cause_of r ≡ table_number b w (length downs) → IsOk r
unfolding node_count
downs-ok {b} {q} f downs long r e =
    let row : length q - 1 ≤ 60 = omega (arith, f.limits.steps-within-limit) in
    cause-ok r (e ∙ rw f.widest-is (table_fits b (length q - 1) downs f.limits.reversion-within-limit row (rw f.widest-is at long)).0)

module _ {b h w : ℕ} {q : List ℕ} {ds ps : ℕ} (f : QuotesReady b h w q ds ps) {factors : List ℕ} (count : ℕ) (long : count ≡ 2 * w + 1)
    (ef : factors ≡ row count (λ k. factor (node_of_index w k) h)) where
  count-is : count ≡ node_count b (length q - 1)
  unfolding node_count
  count-is = long ∙ rw f.widest-is

  factors-long : length factors ≡ node_count b (length q - 1)
  factors-long = ap length ef ∙ length-row count _ ∙ count-is

  factors-value : (k : ℕ) → k < node_count b (length q - 1) → values factors k ≡ factor (node_of_index w k) h
  factors-value k l = ap (λ (x : List ℕ). values x k) ef ∙ values-row count k _ (rw count-is l)

  factors-range : (k : ℕ) → k < node_count b (length q - 1) → (least_factor ≤ factor (node_of_index w k) h) × (factor (node_of_index w k) h ≤ most_factor)
  factors-range k l = table-bounds w k h f.spacing-within-one (rw (← long, count-is) l)

  pub tables-of : (downs : List ℕ) {after : List ℕ} → length downs ≡ 2 * w + 1 → after ≡ table_of b w downs → Tables b (length q) factors after
  tables-of downs {after} ed ea =
      record {
        limits = f.limits;
        factors-bounded = record {
          length-is = factors-long;
          at_least = λ k l. rw (factors-value k l) (factors-range k l).0;
          at_most = λ k l. rw (factors-value k l) (factors-range k l).1;
        };
        downs-length = ap length known ∙ length-row (node_count b (length q - 1)) _;
        downs-hold = λ k l. ap (λ (x : List ℕ). values x k) known ∙ values-row (node_count b (length q - 1)) k _ l;
      }
    where
      known : after ≡ row (node_count b (length q - 1)) (λ k. down_probability b (node b (length q - 1) k))
      known =
          ea ∙ ap (λ (x : ℕ). table_of b x downs) f.widest-is
          ∙ (table_fits b (length q - 1) downs f.limits.reversion-within-limit (omega (arith, f.limits.steps-within-limit)) (ed ∙ sym long ∙ count-is)).1

  -- each row's factors are those of its nodes
  factor-by : (i k : ℕ) → i < length q → k < node_count b i → table_factor b (length q) factors i k ≡ node_factor b h i k
  unfolding table_factor
  factor-by i k l m =
      let g : table_offset b (length q - 1) i + k < node_count b (length q - 1) = omega (arith, table-room b (length q - 1) i (omega arith)) in
      let e : table_offset b (length q - 1) i + k ≡ k + table_offset b (length q - 1) i = omega arith in
      factors-value (table_offset b (length q - 1) i + k) g
      ∙ ap (λ (x : ℕ). factor (node_of_index w x) h) e
      ∙ ap (λ (x : ℕ). factor (node_of_index x (k + table_offset b (length q - 1) i)) h) (f.widest-is ∙ sym (offset-is b (length q - 1) i (omega arith)))
      ∙ ap (λ (j : ℤ). factor j h) (same-node (half_width b i) k (table_offset b (length q - 1) i))

  same : (i k : ℕ) → i < length q → k < (rate_tree b).nodes i → table_factor b (length q) factors i k ≡ node_factor b h i k
  unfolding rate_tree
  same i k l m = factor-by i k l m

  discount-same : (i k : ℕ) → i < length q → k < (rate_tree b).nodes i → table_discount b q factors i k ≡ curve_discount b h q i k
  discount-same i k l m = fitted-discount-by (rate_tree b) _ (node_factor b h) (quoted q) (length q) same i l k m

  pub accepted-same : table_accepted b q factors ≡ curve_accepted b h q
  unfolding table_accepted curve_accepted accepted_row
  accepted-same =
      each-cong (length q) _ _ (λ i l. each-cong ((rate_tree b).nodes i) _ _ (λ k m. ap is_discount (discount-same i k l m)))

  discounts-same : laid (rate_tree b) (table_discount b q factors) (length q) ≡ laid (rate_tree b) (curve_discount b h q) (length q)
  discounts-same = laid-cong (rate_tree b) _ _ (length q) discount-same

  state-prices-same : laid (rate_tree b) (table_state_price b q factors) (suc (length q)) ≡ laid (rate_tree b) (curve_state_price b h q) (suc (length q))
  state-prices-same =
      laid-cong (rate_tree b) _ _ (suc (length q))
      (λ i k l m. price-by (rate_tree b) _ (node_factor b h) (quoted q) (length q) same i (omega arith) k)

  -- the fit from the tables is that of the definitions
  pub fitted-same : {r : Bool} {d p d' p' : List ℕ} →
      TreeFitted b (length q) r (table_discount b q factors) (table_state_price b q factors) d p d' p' →
      TreeFitted b (length q) r (curve_discount b h q) (curve_state_price b h q) d p d' p'
  fitted-same t = record { discounted = rw discounts-same at t.discounted; priced = rw state-prices-same at t.priced }

-- what the lattice answers about the sizes of an accepted tree
module _ {b n : ℕ} {factors downs : List ℕ} (t : Tables b n factors downs) where
  nonzero : n ≡ 0 → ⊥
  nonzero z = omega (arith, t.limits.steps-positive)

  pub needed-discounts : {a : Answer} → a ≡ discounts_needed_answer n b → a.value ≡ row_start b n
  unfolding discounts_needed
  needed-discounts e = ap (λ (x : Answer). x.value) (e ∙ tree-found n b _ nonzero t.limits.steps-within-limit t.limits.reversion-within-limit)

  pub tree-known : (x : ℕ) (r : Result ℕ Refusal) → answer_of r ≡ about_tree n b x → IsOk r
  tree-known x r e = tree-ok n b x r e t.limits

  pub needed-state-prices : {a : Answer} → a ≡ state_prices_needed_answer n b → a.value ≡ row_start b (suc n)
  unfolding state_prices_needed
  needed-state-prices e = ap (λ (x : Answer). x.value) (e ∙ tree-found n b _ nonzero t.limits.steps-within-limit t.limits.reversion-within-limit)

-- memories whose fronts were cleared, x and y places long
module _ {b n x y : ℕ} {discount price : ℕ → ℕ → ℕ} {d p d₁ p₁ d₂ p₂ : List ℕ} (kept : PastKept b n d p d₁ p₁)
    (ex : x ≡ row_start b n) (ey : y ≡ row_start b (suc n))
    (ed : d₂ ≡ row x (λ j. 0) ++ drop x d₁) (ep : p₂ ≡ row y (λ j. 0) ++ drop y p₁) where
  pub cleared : TreeFitted b n false discount price d p d₂ p₂
  cleared =
      record {
        discounted =
            ed ∙ ap (λ (m : ℕ). row m (λ j. 0) ++ drop m d₁) ex ∙ ap (λ (l : List ℕ). row (row_start b n) (λ j. 0) ++ l) kept.discounted;
        priced =
            ep ∙ ap (λ (m : ℕ). row m (λ j. 0) ++ drop m p₁) ey ∙ ap (λ (l : List ℕ). row (row_start b (suc n)) (λ j. 0) ++ l) kept.priced;
      }

-- the test as the number of a cause
module _ {r t : Bool} (e : r ≡ t) where
  pub number-none : r ≡ true → ◌≡◌ {A = ℕ} 0 (cond t 0 9)
  number-none h = sym (ap (λ (x : Bool). cond x 0 9) (sym e ∙ h))

  pub number-nine : r ≡ false → ◌≡◌ {A = ℕ} 9 (cond t 0 9)
  number-nine h = sym (ap (λ (x : Bool). cond x 0 9) (sym e ∙ h))

  pub fitted-as : {b n : ℕ} {discount price : ℕ → ℕ → ℕ} {d p d' p' : List ℕ} →
      TreeFitted b n r discount price d p d' p' → TreeFitted b n t discount price d p d' p'
  fitted-as f = rw e at f
