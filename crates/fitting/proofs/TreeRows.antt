-- A row of the tree, with its parts of the tables: what its step asks, and what it leaves, in the lattice's terms.
-- Assumes nothing.
use mathlib.Core.Path.{◌≡◌, refl, sym, ◌∙◌, ap}
use mathlib.Core.Bool.{Bool, cond}
use mathlib.Core.List.{List}
use Prim.Native.Nat.{ℕ, suc, ◌+◌, ◌-◌, ◌*◌, ◌/◌, ◌≤◌, ◌<◌}
use native.Mathlib.Omega.{arith}
use lib.ListN.{length, take, drop}
use Rattle.arithmetic.specs.Rounding.{one}
use Rattle.arithmetic.specs.Sum.{sum}
use Rattle.arithmetic.specs.Row.{values, place}
use Rattle.arithmetic.proofs.SumLaws.{sum-cong}
use Rattle.arithmetic.proofs.PartLaws.{part-is}
use Rattle.arithmetic.proofs.RowLaws.{row-cong, each-cong}
use Rattle.tree.specs.Tree.{Transition, chance, incoming, probability_total}
use Rattle.lattice.specs.Shape.{node_count, row_start}
use Rattle.lattice.specs.RateTree.{rate_tree}
use Rattle.lattice.specs.Entries.{table_offset, shape_of, row_shape_answer}
use Rattle.lattice.proofs.Sizes.{row_ends, start-suc, count-within}
use Rattle.lattice.proofs.ShapeLaws.{shape-found, shape-fits}
use Rattle.lattice.proofs.RateTreeLaws.{rate-tree-sound}
use Rattle.row_branches.specs.inside.Transitions.{row_transition}
use Rattle.row_branches.proofs.TableParts.{table-part, part-within, table-part-length, table-part-value, part_low, part-down, part-middle, part_up}
use Rattle.limits.specs.Limits.{most_steps, most_reversion, most_nodes, is_discount}
use Rattle.fit_laws.specs.Step.{normaliser, discount, carried, next_state_price}
use Rattle.lattice.specs.declared.RowShape.{RowShape}
use Rattle.fitting.specs.inside.Rows.{RowFitted, part_values, table_factor}
use Rattle.fitting.specs.inside.Preconditions.{RowReady, TreeRowReady}

-- the shape that code holds of a row of the tree
module _ {b n i : ℕ} {s : RowShape} (reverting : b ≤ most_reversion) (few : n ≤ most_steps) (h : i < n) (e : s ≡ row_shape_answer b (n - 1) i) where
  pub shape-known : s ≡ shape_of b (n - 1) i
  shape-known = e ∙ sym (shape-found b (n - 1) i reverting (omega arith) (omega arith) (omega arith))

  pub shape-room : (s.offset + s.count ≤ node_count b (n - 1)) × (node_count b (n - 1) ≤ most_nodes)
  shape-room = shape-fits b (n - 1) i (omega arith) (omega arith) s shape-known

-- a discount goes by the factors of the row's own nodes
discount-same : (n p : ℕ) (q u w : ℕ → ℕ) → ((k : ℕ) → k < n → u k ≡ w k) → (k : ℕ) → k < n → discount n q u p k ≡ discount n q w p k
unfolding discount normaliser
discount-same n p q u w h k l =
    ap (λ (x : ℕ). p * x / (sum n (λ i. q i * u i) / one)) (h k l)
    ∙ ap (λ (s : ℕ). p * w k / (s / one)) (sum-cong n (λ i. q i * u i) (λ i. q i * w i) (λ i m. ap (λ (x : ℕ). q i * x) (h i m)))

-- the next state prices go by the branches and the discounts of the row's own nodes
next-same : (n : ℕ) (t s : Transition) (q v w : ℕ → ℕ)
    → ((k : ℕ) → k < n → t.low k ≡ s.low k) → ((k : ℕ) → k < n → t.down k ≡ s.down k)
    → ((k : ℕ) → k < n → t.middle k ≡ s.middle k) → ((k : ℕ) → k < n → t.up k ≡ s.up k)
    → ((k : ℕ) → k < n → v k ≡ w k) → (j : ℕ) → next_state_price t n q v j ≡ next_state_price s n q w j
unfolding next_state_price incoming chance carried
next-same n t s q v w el ed em eu ev j =
    ap (λ (x : ℕ). x / probability_total) (sum-cong n _ _ (λ k h. rw (el k h, ed k h, em k h, eu k h, ev k h)))

-- and so does what the row's step leaves
row_same : {start n m p : ℕ} {u w : ℕ → ℕ} {t s : Transition} {d q d' q' : List ℕ} {r : Bool} → ((k : ℕ) → k < n → u k ≡ w k)
    → ((k : ℕ) → k < n → t.low k ≡ s.low k) → ((k : ℕ) → k < n → t.down k ≡ s.down k)
    → ((k : ℕ) → k < n → t.middle k ≡ s.middle k) → ((k : ℕ) → k < n → t.up k ≡ s.up k)
    → RowFitted start n m p u t d q d' q' r → RowFitted start n m p w s d q d' q' r
row_same {start} {n} {m} {p} {u} {w} {t} {s} {d} {q} {d'} {q'} {r} eu el ed em eh f =
    let v = discount-same n p (part_values start n q) u w eu in
    record {
      tested = f.tested ∙ each-cong n _ _ (λ k h. ap is_discount (v k h));
      filled = λ e. f.filled e ∙ ap (place d start) (row-cong n _ _ v);
      kept = f.kept;
      stepped = f.stepped
          ∙ ap (λ (l : List ℕ). cond r (place q (start + n) l) q) (row-cong m _ _ (λ j _. next-same n t s (part_values start n q) _ _ el ed em eh v j));
    }

-- a table's part for row i, as lending has it
abbrev table_part : ℕ → ℕ → ℕ → List ℕ → List ℕ
table_part b n i l = take (table_offset b (n - 1) i + node_count b i - table_offset b (n - 1) i) (drop (table_offset b (n - 1) i) l)

-- and by the shape that code holds
abbrev pub shaped : RowShape → List ℕ → List ℕ
shaped s l = take (s.offset + s.count - s.offset) (drop s.offset l)

module _ {b n i quote : ℕ} {factors downs discounts state-prices sums : List ℕ} (r : TreeRowReady b n i quote factors downs discounts state-prices sums) where
  inside : i ≤ n - 1
  inside = omega (arith, r.in_tree)

  lent : (l : List ℕ) → table_part b n i l ≡ table-part b (n - 1) i l
  lent l = part-is l (table_offset b (n - 1) i) (node_count b i)

  factors-length : length (table_part b n i factors) ≡ node_count b i
  factors-length = ap length (lent factors) ∙ table-part-length b (n - 1) i inside factors r.tables.factors-bounded.length-is

  downs-length : length (table_part b n i downs) ≡ node_count b i
  downs-length = ap length (lent downs) ∙ table-part-length b (n - 1) i inside downs r.tables.downs-length

  factor-value : (k : ℕ) → k < node_count b i → values (table_part b n i factors) k ≡ values factors (table_offset b (n - 1) i + k)
  factor-value k h =
      ap (λ (l : List ℕ). values l k) (lent factors) ∙ table-part-value b (n - 1) i inside factors r.tables.factors-bounded.length-is k h

  factor-is : (k : ℕ) → k < node_count b i → values (table_part b n i factors) k ≡ table_factor b n factors i k
  unfolding table_factor
  factor-is k h = factor-value k h

  lows : (k : ℕ) → k < node_count b i → (row_transition (table_part b n i downs) (node_count b (suc i))).low k ≡ ((rate_tree b).step i).low k
  lows k h =
      ap (λ (l : List ℕ). (row_transition l (node_count b (suc i))).low k) (lent downs)
      ∙ part_low b (n - 1) i inside downs r.tables.downs-length r.tables.downs-hold r.tables.limits.reversion-within-limit k h

  ups : (k : ℕ) → k < node_count b i → (row_transition (table_part b n i downs) (node_count b (suc i))).up k ≡ ((rate_tree b).step i).up k
  ups k h =
      ap (λ (l : List ℕ). (row_transition l (node_count b (suc i))).up k) (lent downs)
      ∙ part_up b (n - 1) i inside downs r.tables.downs-length r.tables.downs-hold r.tables.limits.reversion-within-limit k h

  middles : (k : ℕ) → k < node_count b i → (row_transition (table_part b n i downs) (node_count b (suc i))).middle k ≡ ((rate_tree b).step i).middle k
  middles k h =
      ap (λ (l : List ℕ). (row_transition l (node_count b (suc i))).middle k) (lent downs)
      ∙ part-middle b (n - 1) i inside downs r.tables.downs-length r.tables.downs-hold r.tables.limits.reversion-within-limit k h

  downs-are : (k : ℕ) → k < node_count b i → (row_transition (table_part b n i downs) (node_count b (suc i))).down k ≡ ((rate_tree b).step i).down k
  downs-are k h =
      ap (λ (l : List ℕ). (row_transition l (node_count b (suc i))).down k) (lent downs)
      ∙ part-down b (n - 1) i inside downs r.tables.downs-length r.tables.downs-hold r.tables.limits.reversion-within-limit k h

  tree-inside : (k : ℕ) → k < node_count b i → ((rate_tree b).step i).low k + 2 < node_count b (suc i)
  unfolding rate_tree
  tree-inside k h = (rate-tree-sound b r.tables.limits.reversion-within-limit).inside i k h

  tree-total : (k : ℕ) → k < node_count b i → ((rate_tree b).step i).down k + ((rate_tree b).step i).middle k + ((rate_tree b).step i).up k ≡ probability_total
  unfolding rate_tree
  tree-total k h = (rate-tree-sound b r.tables.limits.reversion-within-limit).total i k h

  row-ready : RowReady (row_start b i) (node_count b (suc i)) quote (table_part b n i factors) (table_part b n i downs) discounts state-prices sums
  row-ready =
      record {
        factors-bounded = record {
          length-is = refl;
          at_least = λ k h. rw (factor-value k (rw factors-length at h))
              (r.tables.factors-bounded.at_least _ (part-within b (n - 1) i inside k (rw factors-length at h)));
          at_most = λ k h. rw (factor-value k (rw factors-length at h))
              (r.tables.factors-bounded.at_most _ (part-within b (n - 1) i inside k (rw factors-length at h)));
        };
        downs-length = downs-length ∙ sym factors-length;
        branches-inside = λ k h. rw (lows k (rw factors-length at h)) (tree-inside k (rw factors-length at h));
        branches-total = λ k h. let l = rw factors-length at h in rw (downs-are k l, middles k l, ups k l) (tree-total k l);
        room-discounts = rw factors-length (omega (arith, row_ends b i n r.in_tree, r.room-discounts));
        room-state-prices = rw factors-length (omega (arith, start-suc b i, row_ends b (suc i) (suc n) (omega (arith, r.in_tree)), r.room-state-prices));
        room-sums = omega (arith, count-within b (suc i) (omega (arith, r.in_tree, r.tables.limits.steps-within-limit)), r.room-sums);
        row-sum-least = rw factors-length r.row-sum-least;
        row-sum-most = rw factors-length r.row-sum-most;
        quote-within-limit = r.quote-within-limit;
      }

  -- what the row's step leaves, in the lattice's terms
  tree-fitted : {d' p' : List ℕ} {accepted : Bool} →
      RowFitted (row_start b i) (length (table_part b n i factors)) (node_count b (suc i)) quote (values (table_part b n i factors))
      (row_transition (table_part b n i downs) (node_count b (suc i))) discounts state-prices d' p' accepted →
      RowFitted (row_start b i) (node_count b i) (node_count b (suc i)) quote (table_factor b n factors i) ((rate_tree b).step i)
      discounts state-prices d' p' accepted
  tree-fitted f = row_same factor-is lows downs-are middles ups (rw factors-length at f)

  -- the same by the shape that code holds
  module _ {s : RowShape} (es : s ≡ shape_of b (n - 1) i) where
    pub shaped-ready : RowReady s.start s.next quote (shaped s factors) (shaped s downs) discounts state-prices sums
    shaped-ready = rw es row-ready

    pub shaped-fitted : {d' p' : List ℕ} {accepted : Bool} →
        RowFitted s.start (length (shaped s factors)) s.next quote (values (shaped s factors))
        (row_transition (shaped s downs) s.next) discounts state-prices d' p' accepted →
        RowFitted (row_start b i) (node_count b i) (node_count b (suc i)) quote (table_factor b n factors i) ((rate_tree b).step i)
        discounts state-prices d' p' accepted
    shaped-fitted f = tree-fitted (rw es at f)
