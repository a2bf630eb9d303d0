-- The fit over all rows: what holds after i rows, what a row's step asks, and what it leaves.
-- Assumes nothing.
use mathlib.Core.Path.{◌≡◌, refl, sym, ◌∙◌, ap}
use mathlib.Core.Bool.{Bool, true, false}
use mathlib.Core.List.{List, ◌∷◌, ◌++◌}
use Prim.Native.Nat.{ℕ, suc, ◌+◌, ◌-◌, ◌*◌, ◌≤◌, ◌<◌}
use native.Mathlib.Nat.{le_refl, add-sub_of_le}
use native.Mathlib.Numerals.{add-one}
use native.Mathlib.Omega.{arith}
use lib.ListN.{length, take, drop, set, length-set}
use lib.Seq.{set_split, drop-set-lt, drop-drop}
use Rattle.arithmetic.specs.Rounding.{one}
use Rattle.arithmetic.specs.Sum.{sum}
use Rattle.arithmetic.specs.Row.{row, values, place, each}
use Rattle.arithmetic.proofs.SumLaws.{sum-cong}
use Rattle.arithmetic.proofs.RowLaws.{row-cong, values-row, each_none, each_more, each-fails, each-cong}
use Rattle.tree.specs.Tree.{Sound}
use Rattle.tree.specs.Layout.{laid}
use Rattle.tree.specs.inside.Layout.{start}
use Rattle.tree.proofs.LayoutLaws.{start-suc, start-grow, laid-row, laid_next, laid-past, laid-length}
use Rattle.lattice.specs.Shape.{node_count, row_start}
use Rattle.lattice.specs.RateTree.{rate_tree}
use Rattle.lattice.proofs.Sizes.{half-within, count-positive, row_ends}
use Rattle.lattice.proofs.Sizes as sizes
use Rattle.lattice.proofs.RateTreeLaws.{rate-tree-sound}
use Rattle.limits.specs.Limits.{is_discount}
use Rattle.fit_laws.specs.Step.{discount, next_state_price}
use Rattle.fit_laws.specs.StatePrices.{fitted_state_price, fitted_discount, accepted_row}
use Rattle.fit_laws.proofs.StepLaws.{discount-cong, next-cong}
use Rattle.fit_laws.proofs.Repricing.{Fittable}
use Rattle.fit_laws.proofs.WholeFit.{Curve, fittable}
use Rattle.fit_laws.specs.inside.Bounds.{least_factor, most_factor}
use Rattle.fitting.specs.inside.Rows.{RowFitted, part_values, row_discounts, table_factor}
use Rattle.fitting.specs.inside.Preconditions.{TreeRowReady, RowsReady}
use Rattle.fitted_laws.specs.Fit.{quoted}
use Rattle.fitting.specs.inside.TableFit.{table_discount, table_state_price, table_accepted, TreeFitted, PastKept}
use Rattle.lattice.proofs.ShapeLaws.{table-room}

-- what holds after i rows
pub record Progress (b : ℕ) (l u d₀ p₀ d p : List ℕ) (i : ℕ) : Type 0 where
  pub discounts : d ≡ laid (rate_tree b) (table_discount b l u) i ++ drop (start (rate_tree b) i) d₀
  pub state-prices : p ≡ laid (rate_tree b) (table_state_price b l u) (suc i) ++ drop (start (rate_tree b) (suc i)) p₀
  pub accepted : each i (accepted_row (rate_tree b) (table_discount b l u)) ≡ true

-- lists that agree past a place agree past every later one
drop-later : (a c : ℕ) (x y : List ℕ) → a ≤ c → drop a x ≡ drop a y → drop c x ≡ drop c y
drop-later a c x y h e =
    let s : a + (c - a) ≡ c = add-sub_of_le h in
    rw (← s) (sym (drop-drop (c - a) a x) ∙ ap (drop (c - a)) e ∙ drop-drop (c - a) a y)

start_is : (b i : ℕ) → start (rate_tree b) i ≡ row_start b i
unfolding start row_start rate_tree
start_is b i = refl

nodes-are : (b i : ℕ) → (rate_tree b).nodes i ≡ node_count b i
unfolding rate_tree
nodes-are b i = refl

start-positive : (b n : ℕ) → 0 < row_start b (suc n)
start-positive b n = omega (arith, start-suc (rate_tree b) n, start_is b (suc n), nodes-are b n, count-positive b n)

-- a memory that starts with one
first-price : (n : ℕ) (p : List ℕ) → 0 < length p → n ≡ 1 → set p 0 one ≡ row n (λ k. one) ++ drop n (set p 0 one)
unfolding row
first-price n p h e =
    rw e (set_split p 0 one h ∙ ap (λ (x : List ℕ). one ∷ x) (sym (drop-set-lt 1 p 0 one (omega arith))))

root-start : (b : ℕ) → start (rate_tree b) 0 ≡ 0
unfolding start sum
root-start b = refl

module _ {b : ℕ} {l u downs d₀ p₀ a : List ℕ} (k : RowsReady b l u downs d₀ p₀ a) where
  factor-least : (i j : ℕ) → i < length l → j < node_count b i → least_factor ≤ table_factor b (length l) u i j
  unfolding table_factor
  factor-least i j h g = k.tables.factors-bounded.at_least _ (omega (arith, table-room b (length l - 1) i (omega arith)))

  factor-most : (i j : ℕ) → i < length l → j < node_count b i → table_factor b (length l) u i j ≤ most_factor
  unfolding table_factor
  factor-most i j h g = k.tables.factors-bounded.at_most _ (omega (arith, table-room b (length l - 1) i (omega arith)))

  count_most : (i : ℕ) → node_count b i ≤ 2 * i + 1
  unfolding node_count
  count_most i = omega (arith, half-within b i)

  curve : Curve (rate_tree b) (length l) (table_factor b (length l) u) (quoted l)
  unfolding quoted rate_tree
  curve =
      record {
        steps = k.tables.limits.steps-within-limit;
        counts = count_most;
        quote-low = k.quotes-least;
        quote-high = k.quotes-most;
        factor-low = factor-least;
        factor-high = factor-most;
      }

  sound : Sound (rate_tree b)
  sound = rate-tree-sound b k.tables.limits.reversion-within-limit

  ready : (i : ℕ) → i < length l →
      Fittable ((rate_tree b).step i) (node_count b i) (node_count b (suc i)) (quoted l (suc i))
      (table_state_price b l u i) (table_factor b (length l) u i)
  unfolding rate_tree
  ready i h = fittable (rate_tree b) sound (length l) (table_factor b (length l) u) (quoted l) curve i h

  root-nodes : (rate_tree b).nodes 0 ≡ 1
  root-nodes = sound.root

  -- the first row's state price
  root-state-prices : 0 < length p₀ → set p₀ 0 one ≡ laid (rate_tree b) (table_state_price b l u) 1 ++ drop (start (rate_tree b) 1) (set p₀ 0 one)
  unfolding laid fitted_state_price
  root-state-prices h =
      let e : (rate_tree b).nodes 0 ≡ start (rate_tree b) 1 = omega (arith, start-suc (rate_tree b) 0, root-start b) in
      first-price ((rate_tree b).nodes 0) p₀ h root-nodes
      ∙ ap (λ (x : ℕ). row ((rate_tree b).nodes 0) (λ k. one) ++ drop x (set p₀ 0 one)) e

  pub state-prices-some : 0 < length p₀
  state-prices-some = omega (arith, start-positive b (length l), k.room-state-prices)

  pub begun : Progress b l u d₀ (set p₀ 0 one) d₀ (set p₀ 0 one) 0
  unfolding laid start sum
  begun = record { discounts = refl; state-prices = root-state-prices state-prices-some; accepted = each_none _ }

  -- storing the first state price leaves what the fit asks
  pub stored-ready : RowsReady b l u downs d₀ (set p₀ 0 one) a
  stored-ready =
      record {
        tables = k.tables;
        quotes-least = k.quotes-least;
        quotes-most = k.quotes-most;
        room-discounts = k.room-discounts;
        room-state-prices = rw (length-set p₀ 0 one) k.room-state-prices;
        room-sums = k.room-sums;
      }

-- one row: the memories d and p before it
module _ {b : ℕ} {l u downs d₀ p₀ a : List ℕ} (k : RowsReady b l u downs d₀ p₀ a) {d p : List ℕ} {i : ℕ}
    (g : Progress b l u d₀ p₀ d p i) (hi : i < length l) where
  -- the row's own part of the memory
  row-part : take (node_count b i) (drop (row_start b i) p) ≡ row (node_count b i) (table_state_price b l u i)
  unfolding rate_tree start row_start
  row-part = rw g.state-prices (laid-row (rate_tree b) (table_state_price b l u) i (drop (start (rate_tree b) (suc i)) p₀))

  part-value : (j : ℕ) → j < node_count b i → part_values (row_start b i) (node_count b i) p j ≡ table_state_price b l u i j
  part-value j h = ap (λ (x : List ℕ). values x j) row-part ∙ values-row (node_count b i) j (table_state_price b l u i) h

  part-sum : sum (node_count b i) (part_values (row_start b i) (node_count b i) p) ≡ sum (node_count b i) (table_state_price b l u i)
  part-sum = sum-cong (node_count b i) _ _ part-value

  discounts-length : length d ≡ length d₀
  discounts-length =
      laid-length (rate_tree b) (table_discount b l u) i d d₀
      (omega (arith, start-grow (rate_tree b) (length l) i (omega arith), start_is b (length l), k.room-discounts)) g.discounts

  state-prices-length : length p ≡ length p₀
  state-prices-length =
      laid-length (rate_tree b) (table_state_price b l u) (suc i) p p₀
      (omega (arith, start-grow (rate_tree b) (suc (length l)) (suc i) (omega arith), start_is b (suc (length l)), k.room-state-prices)) g.state-prices

  pub row-asks : (a' : List ℕ) → length a' ≡ length a → TreeRowReady b (length l) i (values l i) u downs d p a'
  row-asks a' same =
      record {
        tables = k.tables;
        in_tree = hi;
        room-discounts = rw discounts-length k.room-discounts;
        room-state-prices = rw state-prices-length k.room-state-prices;
        room-sums = rw same k.room-sums;
        row-sum-least = rw part-sum (ready k i hi).sum_low;
        row-sum-most = rw part-sum (ready k i hi).sum-high;
        quote-within-limit = k.quotes-most i hi;
      }

  -- the row's discounts and the next state prices, by the definitions
  discount-is : (j : ℕ) → row_discounts (row_start b i) (node_count b i) (values l i) (table_factor b (length l) u i) p j ≡ table_discount b l u i j
  unfolding quoted fitted_discount rate_tree
  discount-is j = discount-cong (node_count b i) (values l i) _ (table_state_price b l u i) (table_factor b (length l) u i) part-value j

  price-is : (j : ℕ) →
      next_state_price ((rate_tree b).step i) (node_count b i) (part_values (row_start b i) (node_count b i) p)
      (row_discounts (row_start b i) (node_count b i) (values l i) (table_factor b (length l) u i) p) j
      ≡ table_state_price b l u (suc i) j
  unfolding fitted_state_price quoted rate_tree
  price-is j =
      next-cong ((rate_tree b).step i) (node_count b i) _ (table_state_price b l u i) _
      (discount (node_count b i) (table_state_price b l u i) (table_factor b (length l) u i) (values l i)) part-value
      (λ c h. discount-cong (node_count b i) (values l i) _ (table_state_price b l u i) (table_factor b (length l) u i) part-value c) j

  module _ {d' p' : List ℕ} {r : Bool} (f : RowFitted (row_start b i) (node_count b i) (node_count b (suc i)) (values l i)
      (table_factor b (length l) u i) ((rate_tree b).step i) d p d' p' r) where
    row-tested : r ≡ accepted_row (rate_tree b) (table_discount b l u) i
    unfolding accepted_row rate_tree
    row-tested = f.tested ∙ each-cong (node_count b i) _ _ (λ j _. ap is_discount (discount-is j))

    row-filled : r ≡ true → d' ≡ laid (rate_tree b) (table_discount b l u) (suc i) ++ drop (start (rate_tree b) (suc i)) d₀
    unfolding rate_tree start row_start
    row-filled e =
        f.filled e ∙ ap (place d (row_start b i)) (row-cong (node_count b i) _ _ (λ j _. discount-is j))
        ∙ laid_next (rate_tree b) (table_discount b l u) i d d₀ g.discounts

    -- the memory of state prices where the row was accepted, and where it was not
    stepped-true : r ≡ true → p' ≡ place p (row_start b (suc i)) (row (node_count b (suc i)) (table_state_price b l u (suc i)))
    stepped-true e =
        rw e at f.stepped
        ∙ ap (place p (row_start b i + node_count b i)) (row-cong (node_count b (suc i)) _ _ (λ j _. price-is j))
        ∙ ap (λ (x : ℕ). place p x (row (node_count b (suc i)) (table_state_price b l u (suc i)))) (sym (sizes.start-suc b i))

    row-stepped : r ≡ true → p' ≡ laid (rate_tree b) (table_state_price b l u) (suc (suc i)) ++ drop (start (rate_tree b) (suc (suc i))) p₀
    unfolding rate_tree start row_start
    row-stepped e = stepped-true e ∙ laid_next (rate_tree b) (table_state_price b l u) (suc i) p p₀ g.state-prices

    row_kept : r ≡ false → p' ≡ p
    row_kept e = rw e at f.stepped

    -- one row more
    pub progressed : r ≡ true → Progress b l u d₀ p₀ d' p' (i + 1)
    progressed e =
        rw (add-one i)
        (record {
          discounts = row-filled e;
          state-prices = row-stepped e;
          accepted = rw (add-one i) at (each_more i (accepted_row (rate_tree b) (table_discount b l u)) g.accepted (sym row-tested ∙ e));
        })

    -- or a refusal, with nothing past the tree changed
    pub refused : r ≡ false → false ≡ table_accepted b l u
    unfolding table_accepted
    refused e = sym (each-fails (length l) i (accepted_row (rate_tree b) (table_discount b l u)) hi (sym row-tested ∙ e))

    pub refused-past : r ≡ false → PastKept b (length l) d₀ p₀ d' p'
    unfolding start row_start rate_tree
    refused-past e =
        record {
          discounted =
              drop-later (row_start b i + node_count b i) (row_start b (length l)) d' d (row_ends b i (length l) hi) f.kept
              ∙ laid-past (rate_tree b) (table_discount b l u) i (length l) d d₀ (omega arith) g.discounts;
          priced = laid-past (rate_tree b) (table_state_price b l u) (suc i) (suc (length l)) p' p₀ (omega arith) (row_kept e ∙ g.state-prices);
        }

-- what lies past the tree was not changed by the first state price either
pub past-stored : {b n : ℕ} {d p d' p' : List ℕ} → PastKept b n d (set p 0 one) d' p' → PastKept b n d p d' p'
past-stored {b} {n} {d} {p} {d'} {p'} k =
    record { discounted = k.discounted; priced = k.priced ∙ drop-set-lt (row_start b (suc n)) p 0 one (start-positive b n) }

-- all rows done: p is the memory before the first state price was stored
module _ {b : ℕ} {l u d : List ℕ} (p : List ℕ) {d' p' : List ℕ} {i : ℕ} (e : i ≡ length l) (g : Progress b l u d (set p 0 one) d' p' i) where
  past_first : drop (row_start b (suc (length l))) (set p 0 one) ≡ drop (row_start b (suc (length l))) p
  past_first = drop-set-lt (row_start b (suc (length l))) p 0 one (start-positive b (length l))

  pub complete : TreeFitted b (length l) true (table_discount b l u) (table_state_price b l u) d p d' p'
  unfolding start row_start rate_tree
  complete =
      record {
        discounted = g.discounts ∙ ap (λ (n : ℕ). laid (rate_tree b) (table_discount b l u) n ++ drop (start (rate_tree b) n) d) e;
        priced =
            g.state-prices
            ∙ ap (λ (n : ℕ). laid (rate_tree b) (table_state_price b l u) (suc n) ++ drop (start (rate_tree b) (suc n)) (set p 0 one)) e
            ∙ ap (λ (x : List ℕ). laid (rate_tree b) (table_state_price b l u) (suc (length l)) ++ x) past_first;
      }

  pub complete-accepted : true ≡ table_accepted b l u
  unfolding table_accepted
  complete-accepted = sym (ap (λ (n : ℕ). each n (accepted_row (rate_tree b) (table_discount b l u))) (sym e) ∙ g.accepted)

  pub complete-past : PastKept b (length l) d p d' p'
  unfolding start row_start rate_tree
  complete-past =
      record {
        discounted = laid-past (rate_tree b) (table_discount b l u) (length l) (length l) d' d (le_refl _) complete.discounted;
        priced = laid-past (rate_tree b) (table_state_price b l u) (suc (length l)) (suc (length l)) p' p (le_refl _) complete.priced;
      }
