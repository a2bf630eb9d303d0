-- The state-price error bound by the tests and steps that code makes, and how large it gets.
-- Assumes nothing.
use mathlib.Core.Path.{◌≡◌, refl, sym, ap, ◌∙◌}
use mathlib.Core.List.{List}
use Prim.Native.Nat.{ℕ, zero, suc, ◌+◌, ◌-◌, ◌*◌, ◌≤◌, ◌<◌}
use native.Mathlib.Nat.{mul-le-mul, le_refl, zero-add, suc-add}
use native.Mathlib.Numerals.{add-one}
use native.Mathlib.Omega.{arith}
use lib.Dec.{lit≤}
use lib.ListN.{length, take, drop, replicate, length-drop}
use lib.Seq.{length-take-le, get_or-take, get_or-drop}
use borrow.Author.Tests.{eq-eqb, ne_eqb, lt-ltb, le-ltb}
use Rattle.arithmetic.specs.Rounding.{one, round_up}
use Rattle.arithmetic.specs.Sum.{greatest}
use Rattle.arithmetic.specs.Row.{values, greatest_of}
use Rattle.arithmetic.specs.Answers.{refused, answered, lowest_cause}
use Rattle.arithmetic.proofs.Numbers.{by_order, by_equal}
use Rattle.arithmetic.proofs.CauseLaws.{lowest-none}
use Rattle.arithmetic.proofs.PaddedLaws.{filled-padded}
use Rattle.arithmetic.proofs.RoundingLaws.{up-monotone}
use Rattle.arithmetic.proofs.RowLaws.{Filled, zeros}
use Rattle.arithmetic.proofs.SumLaws.{greatest-le, greatest-cong}
use Rattle.limits.specs.Limits.{most_steps, most_nodes, most_state_prices, most_discount}
use Rattle.tree.specs.Tree.{Tree}
use Rattle.lattice.specs.Shape.{node_count, row_start}
use Rattle.lattice.specs.RateTree.{rate_tree}
use Rattle.lattice.proofs.Sizes.{start_first, start-next, start-grow, start-within, row_ends, half-root, count-within}
use Rattle.lent_tree.specs.LentTree.{stored, discounts_cause, Accepted}
use Rattle.lent_tree.proofs.LentLaws.{accepted}
use Rattle.fit_laws.specs.StatePrices.{state_price_error_bound}
use Rattle.state_price_bound.specs.ErrorBound.{RowBounds}
use Rattle.state_price_bound.specs.ErrorBound.{
  row_cause,
  bound_cause,
  state_price_error_bound_answer,
  state_price_error_bounds,
  state_price_error_bounds_answer,
}
use Rattle.state_price_bound.specs.inside.Reached.{Bounded, Reached}

-- ---- refusals

pub row-past : (n i : ℕ) → n < i → 6 ≡ row_cause n i
unfolding row_cause
row-past n i h = rw (lt-ltb n i h)

pub row-there : (n i : ℕ) → i ≤ n → 0 ≡ row_cause n i
unfolding row_cause
row-there n i h = rw (le-ltb n i h)

row-present : (n i : ℕ) → row_cause n i ≡ 0 → i ≤ n
row-present n i e = by_order i n (λ h. h) (λ h. absurd (none (row-past n i h ∙ e)))
  where
    none : ◌≡◌ {A = ℕ} 6 0 → ⊥
    none z = omega arith

-- the tree is accepted and has the row
pub record Lent (n b : ℕ) (discounts : List ℕ) (i : ℕ) : Type 0 where
  pub tree : Accepted n b discounts
  pub present : i ≤ n

pub before-row : (n b : ℕ) (discounts : List ℕ) → Accepted n b discounts → (i : ℕ) → i ≤ n → Bounded b discounts i
before-row n b discounts a i h =
    let s = start-grow b i n h in
    record {
      reversion-within-limit = a.limits.reversion-within-limit;
      row-within-limit = omega (arith, a.limits.steps-within-limit);
      room = omega (arith, a.room);
      discounted = λ k l. a.discounted k (omega arith);
    }

module _ (n b : ℕ) (discounts : List ℕ) (i : ℕ) where
  pub refusal_is : {x d r : ℕ} → d ≡ discounts_cause n b discounts → r ≡ row_cause n i → x ≡ lowest_cause d r → x ≡ bound_cause n b discounts i
  unfolding bound_cause
  refusal_is ed er e = e ∙ rw (ed, er)

  pub not-refused : bound_cause n b discounts i ≡ 0 → Lent n b discounts i
  unfolding bound_cause
  not-refused e =
      let z = lowest-none (discounts_cause n b discounts) (row_cause n i) e in
      record { tree = accepted n b discounts z.0; present = row-present n i z.1 }

  module _ {x : ℕ} (ex : x ≡ bound_cause n b discounts i) where
    pub bound-refused : (x ≡ 0 → ⊥) → refused x ≡ state_price_error_bound_answer n b discounts i
    unfolding state_price_error_bound_answer
    bound-refused nz = rw (← ex, ne_eqb x 0 nz)

    module _ (z : x ≡ 0) where
      pub bound-answered : (y : ℕ) → y ≡ state_price_error_bound (rate_tree b) (stored b discounts) i →
          answered y ≡ state_price_error_bound_answer n b discounts i
      unfolding state_price_error_bound_answer
      bound-answered y f = let none = sym ex ∙ z in rw (none, f)

      -- what the loop over rows asks of an accepted tree
      pub row-needs : Bounded b discounts i
      row-needs = let l = not-refused (sym ex ∙ z) in before-row n b discounts l.tree i l.present

-- ---- the greatest value

-- the part of a memory between a start and an end that code has computed
greatest-part : (memory : List ℕ) (start count : ℕ) → start + count ≤ length memory →
    greatest_of (take (start + count - start) (drop start memory)) ≡ greatest count (λ k. values memory (start + k))
greatest-part memory start count h =
    rw (same, length-take-le count (drop start memory) room)
    (greatest-cong count _ _ (λ k l. rw (get_or-take, get_or-drop)))
  where
    same : start + count - start ≡ count
    same = omega arith

    room : count ≤ length (drop start memory)
    room = simp length-drop (omega arith)

-- ---- how large the bound gets

-- the bound of a tree of at most 121 nodes a row and discounts of at most 1,100,000,000
unfoldable pub ceiling : ℕ → ℕ
ceiling zero = 0
ceiling (suc i) = round_up (most_discount * ceiling i) one + most_nodes + most_nodes

ceiling-step : (i : ℕ) → ceiling i ≤ ceiling (suc i)
unfolding ceiling round_up
ceiling-step i = omega arith

ceiling-more : (i d : ℕ) → ceiling i ≤ ceiling (d + i)
ceiling-more i zero = rw (zero-add i) (le_refl (ceiling i))
ceiling-more i (suc d) = rw (suc-add d i) (omega (arith, ceiling-more i d, ceiling-step (d + i)))

pub ceiling-most : (i : ℕ) → i ≤ 60 → ceiling i ≤ 1000000
unfolding ceiling round_up
ceiling-most i h =
    let e : 60 - i + i ≡ 60 = omega arith in
    let top : ceiling 60 ≤ 1000000 = lit≤ tt in
    let most : ceiling i ≤ ceiling 60 = rw e at (ceiling-more i (60 - i)) in
    omega arith

pub bound-below : (t : Tree) (v : ℕ → ℕ → ℕ) (i : ℕ) → ((j : ℕ) → j ≤ i → t.nodes j ≤ most_nodes) →
    ((j : ℕ) → j < i → greatest (t.nodes j) (v j) ≤ most_discount) → state_price_error_bound t v i ≤ ceiling i
unfolding state_price_error_bound ceiling
bound-below t v zero wide high = omega arith
bound-below t v (suc i) wide high =
    let former = bound-below t v i (λ j l. wide j (omega arith)) (λ j l. high j (omega arith)) in
    omega (
      arith,
      up-monotone _ _ one (omega arith) (mul-le-mul (high i (omega arith)) former),
      wide i (omega arith),
      wide (suc i) (omega arith),
    )

-- ---- the loops over rows

pub reached-start : {b : ℕ} {discounts : List ℕ} {start nodes bound : ℕ} → (start ≡ 0) × (nodes ≡ 1) × (bound ≡ 0) → Reached b discounts 0 start nodes bound
unfolding state_price_error_bound node_count
reached-start {b} e =
    record { starts = e.0 ∙ sym (start_first b); counts = omega (arith, e.1, half-root b); bounds = e.2 }

-- the row after a row that is before a last one
pub before_last : (b : ℕ) (discounts : List ℕ) (row i : ℕ) → Bounded b discounts row → i < row → Bounded b discounts (i + 1)
before_last b discounts row i h l =
    let s = start-grow b (i + 1) row (omega arith) in
    record {
      reversion-within-limit = h.reversion-within-limit;
      row-within-limit = omega (arith, h.row-within-limit);
      room = omega (arith, h.room);
      discounted = λ k below. h.discounted k (omega arith);
    }

-- sizes that the loops meet
module _ (b : ℕ) (discounts : List ℕ) (row : ℕ) (h : Bounded b discounts row) where
  greatest-within : (i : ℕ) → i < row → greatest (node_count b i) (stored b discounts i) ≤ most_discount
  unfolding stored
  greatest-within i l =
      greatest-le (node_count b i) (λ k. values discounts (row_start b i + k)) most_discount
      (λ k below. h.discounted (row_start b i + k) (omega (arith, row_ends b i row l)))

  bound-within : (i : ℕ) → i ≤ row → state_price_error_bound (rate_tree b) (stored b discounts) i ≤ 1000000
  unfolding rate_tree
  bound-within i l =
      omega (
        arith,
        bound-below (rate_tree b) (stored b discounts) i (λ j m. count-within b j (omega (arith, h.row-within-limit)))
            (λ j m. greatest-within j (omega arith)),
        ceiling-most i (omega (arith, h.row-within-limit)),
      )

module _ {b : ℕ} {discounts : List ℕ} {i start nodes bound : ℕ} (r : Reached b discounts i start nodes bound) where
  pub reached-last : (row : ℕ) → i ≡ row → bound ≡ state_price_error_bound (rate_tree b) (stored b discounts) row
  reached-last row e = r.bounds ∙ ap (state_price_error_bound (rate_tree b) (stored b discounts)) e

  module _ (h : Bounded b discounts (i + 1)) where
    -- the row lies within the discounts, which are at most as many as the widest tree has
    pub reached-room : (start + nodes ≤ length discounts) × (start + nodes ≤ most_state_prices)
    reached-room =
        let ends = row_ends b i (i + 1) (omega arith) in (
          omega (arith, r.starts, r.counts, h.room),
          omega (arith, r.starts, r.counts, start-within b (i + 1) (omega (arith, h.row-within-limit))),
        )

    module _ (g : ℕ) (eg : g ≡ greatest_of (take (start + nodes - start) (drop start discounts))) (next : ℕ) (en : next ≡ node_count b (i + 1)) where
      reached-greatest : g ≡ greatest (node_count b i) (stored b discounts i)
      unfolding stored
      reached-greatest =
          eg ∙ greatest-part discounts start nodes reached-room.0
          ∙ ap (λ (s : ℕ). greatest nodes (λ k. values discounts (s + k))) r.starts
          ∙ ap (λ (n : ℕ). greatest n (λ k. values discounts (row_start b i + k))) r.counts

      -- nothing wraps on the way to the next row
      pub reached-sizes : (g ≤ most_discount) × (bound ≤ 1000000) × (nodes ≤ most_nodes) × (next ≤ most_nodes)
      reached-sizes = (
        omega (arith, reached-greatest, greatest-within b discounts (i + 1) h i (omega arith)),
        omega (arith, r.bounds, bound-within b discounts (i + 1) h i (omega arith)),
        omega (arith, r.counts, count-within b i (omega (arith, h.row-within-limit))),
        omega (arith, en, count-within b (i + 1) (omega (arith, h.row-within-limit))),
      )

      pub reached-next : (y : ℕ) → y ≡ round_up (g * bound) one + nodes + next → Reached b discounts (i + 1) (start + nodes) next y
      unfolding state_price_error_bound rate_tree
      reached-next y ey =
          record {
            starts = omega (arith, r.starts, r.counts, start-next b i);
            counts = en;
            bounds = rw (add-one i) (ey ∙ rw (reached-greatest, r.bounds, r.counts, en, add-one i));
          }

-- ---- all rows

module _ (b : ℕ) (discounts : List ℕ) where
  abbrev by_row : ℕ → ℕ
  by_row = state_price_error_bound (rate_tree b) (stored b discounts)

  first-none : (i : ℕ) → i ≡ 0 → by_row i ≡ 0
  unfolding state_price_error_bound
  first-none i z = rw z

  -- row 0 is filled with zeros
  pub bounds-start : Filled (replicate (most_steps + 1) 0) (replicate (most_steps + 1) 0) by_row 1
  bounds-start = record { same = refl; done = λ j h. zeros (most_steps + 1) j ∙ sym (first-none j (omega arith)); rest = λ j h. refl }

  pub bounds-filled : (n : ℕ) (l : List ℕ) → Filled (replicate (most_steps + 1) 0) l by_row (n + 1) → l ≡ state_price_error_bounds n b discounts
  unfolding state_price_error_bounds
  bounds-filled n l h = filled-padded (most_steps + 1) l (n + 1) by_row h

module _ (n b : ℕ) (discounts : List ℕ) (c : ℕ) (e : c ≡ discounts_cause n b discounts) where
  pub bounds-refused : (c ≡ 0 → ⊥) → (rows : List ℕ) → rows ≡ replicate (most_steps + 1) 0 →
      ◌≡◌ {A = RowBounds} (record { number = c; bounds = rows }) (state_price_error_bounds_answer n b discounts)
  unfolding state_price_error_bounds_answer
  bounds-refused nz rows er = rw (er, ← e, ne_eqb c 0 nz)

  module _ (z : c ≡ 0) where
    pub all-rows : Bounded b discounts n
    all-rows = before-row n b discounts (accepted n b discounts (sym e ∙ z)) n (le_refl n)

    pub bounds-given : (rows : List ℕ) → rows ≡ state_price_error_bounds n b discounts →
        ◌≡◌ {A = RowBounds} (record { number = 0; bounds = rows }) (state_price_error_bounds_answer n b discounts)
    unfolding state_price_error_bounds_answer
    bounds-given rows er = rw (er, eq-eqb (discounts_cause n b discounts) 0 (sym e ∙ z))

-- so the bound that is answered is at most a million
pub bound-most : (n b : ℕ) (discounts : List ℕ) (i : ℕ) → (state_price_error_bound_answer n b discounts i).value ≤ 1000000
unfolding state_price_error_bound_answer
bound-most n b discounts i =
    by_equal (bound_cause n b discounts i) 0 (λ z. rw z (within z)) (λ nz. rw (ne_eqb (bound_cause n b discounts i) 0 nz) (omega arith))
  where
    within : bound_cause n b discounts i ≡ 0 → state_price_error_bound (rate_tree b) (stored b discounts) i ≤ 1000000
    within z = bound-within b discounts i (row-needs n b discounts i {x = bound_cause n b discounts i} refl z) i (le_refl i)
