-- Facts about squares in memory: what the code reads and writes of them.
-- Assumes nothing.
use mathlib.Core.Path.{◌≡◌, refl, sym, ap, ◌∙◌}
use mathlib.Core.Bool.{Bool, true, false}
use mathlib.Core.List.{List}
use Prim.Native.Nat.{ℕ, ◌+◌, ◌-◌, ◌*◌, ◌/◌, ◌≤◌, ◌<◌, max}
use native.Mathlib.Nat.{mul-le-mul, mul-le-mul_left}
use native.Mathlib.Omega.{arith}
use lib.ListN.{set, length, take, drop}
use lib.Seq.{get_or-set_same, get_or-set_other}
use Rattle.arithmetic.specs.Rounding.{one}
use Rattle.arithmetic.specs.Row.{values}
use Rattle.arithmetic.specs.Sum.{greatest}
use Rattle.arithmetic.proofs.Numbers.{by_equal}
use Rattle.arithmetic.proofs.PartLaws.{part-value, part_length}
use Rattle.arithmetic.proofs.SumLaws.{greatest-cong, greatest-next}
use Rattle.tree.specs.Tree.{probability_total}
use Rattle.limits.specs.Limits.{most_discount, value_limit}
use Rattle.pricing_laws.specs.Pricer.{exercise, held_or_exercised}
use Rattle.pricing_laws.specs.TreePricer.{roll_rounding}
use Rattle.exercise.specs.Terms.{side}
use Rattle.row_branches.specs.declared.RowBranch.{RowBranch}
use Rattle.row_branches.specs.RowBranches.{row_branch}
use Rattle.row_branches.specs.inside.Transitions.{branch_up, branch_middle, branch_down, branch_total}
use Rattle.pricing.proofs.NodeLaws.{nearest-by-half}
use Rattle.pair_laws.specs.inside.Square.{line_size, cell, Cells, Most, Line, Column, Branched}
use Rattle.pair_laws.specs.inside.Square.{branch_average, rate_average, spread_value, PairRow, rolled_cell, RollablePair, exercised}

-- ---- one place

-- values up to 8 × one: the sum fits 64 bits with the half that is added, and the average is no larger
module _ (p q r : ℕ) {x y z : ℕ} (h : p + q + r ≡ 600000000) (hx : x ≤ value_limit) (hy : y ≤ value_limit) (hz : z ≤ value_limit) where
  pub sum_fits : p * x + q * y + r * z ≤ 4800000000000000000
  sum_fits = omega (arith, mul-le-mul_left p hx, mul-le-mul_left q hy, mul-le-mul_left r hz)

  pub average-is :
      ((p * x + q * y + r * z + 300000000) / 600000000 ≡ roll_rounding (p * x + q * y + r * z) probability_total)
      × ((p * x + q * y + r * z + 300000000) / 600000000 ≤ value_limit)
  average-is = (nearest-by-half (p * x + q * y + r * z) 300000000, omega (arith, sum_fits))

-- a value times the discount of a pair: 9.68 × 10^18, above the signed numbers
module _ (x d e : ℕ) (hx : x ≤ value_limit) (hd : d ≤ most_discount) (he : e ≤ most_discount) where
  pub discounts-fit : d * e ≤ 1210000000000000000
  discounts-fit = mul-le-mul {n₁ = d} {m₁ = e} {n₂ = most_discount} {m₂ = most_discount} hd he

  pub product-fits : x * (d * e / 1000000000) ≤ 9680000000000000000
  product-fits =
      let c : d * e / 1000000000 ≤ 1210000000 = omega (arith, discounts-fit) in
      mul-le-mul {n₁ = x} {m₁ = d * e / 1000000000} {n₂ = 8000000000} {m₂ = 1210000000} hx c

  pub discounted-is :
      ((x * (d * e / 1000000000) + 500000000) / 1000000000 ≡ roll_rounding (x * (d * e / 1000000000)) one)
      × ((x * (d * e / 1000000000) + 500000000) / 1000000000 ≤ 9680000000)
  discounted-is = (nearest-by-half (x * (d * e / 1000000000)) 500000000, omega (arith, product-fits))

-- the three places that an average reads, and the average from them
module _ (b : RowBranch) (xs : List ℕ) (from x : ℕ) where
  pub rate-from :
      (l : ℕ) → from ≡ line_size * b.low + l →
      x ≡ roll_rounding
      (branch_up b * values xs (from + 2 * line_size) + branch_middle b * values xs (from + line_size) + branch_down b * values xs from) probability_total →
      x ≡ branch_average b (λ a. cell xs a l)
  unfolding branch_average
  rate-from l e ex =
      let e1 : from + line_size ≡ line_size * (b.low + 1) + l = omega arith in
      let e2 : from + 2 * line_size ≡ line_size * (b.low + 2) + l = omega arith in
      ex ∙ rw (e2, e1, e)

  pub spread-from :
      (a d e y flow : ℕ) → from ≡ line_size * a + b.low →
      x ≡ roll_rounding (branch_up b * values xs (from + 2 * 1) + branch_middle b * values xs (from + 1) + branch_down b * values xs from) probability_total →
      y ≡ roll_rounding (x * (d * e / one)) one → y + flow ≡ spread_value b d e (cell xs a) + flow
  unfolding spread_value branch_average
  spread-from a d e y flow ef ex ey =
      let e1 : from + 1 ≡ line_size * a + (b.low + 1) = omega arith in
      let e2 : from + 2 * 1 ≡ line_size * a + (b.low + 2) = omega arith in
      let w : x ≡ branch_average b (cell xs a) = ex ∙ rw (e2, e1, ef) in
      ap (λ (z : ℕ). z + flow) (ey ∙ ap (λ (z : ℕ). roll_rounding (z * (d * e / one)) one) w)

pub cell-most :
    (g lines width : ℕ) (xs : List ℕ) → Most g lines width xs → (a l from : ℕ) → from ≡ line_size * a + l → a < lines → l < width → values xs from ≤ g
cell-most g lines width xs m a l from e ha hl = rw e (m.most a l ha hl)

-- an average of values within the limit is within the limit
pub average-most :
    (b : RowBranch) (v : ℕ → ℕ) → branch_total b ≡ probability_total → ((k : ℕ) → k < b.low + 3 → v k ≤ value_limit) → branch_average b v ≤ value_limit
unfolding branch_average
average-most b v total h =
    let a = average-is (branch_up b) (branch_middle b) (branch_down b) {x = v (b.low + 2)} {y = v (b.low + 1)} {z = v b.low} total
    (h (b.low + 2) (omega arith)) (h (b.low + 1) (omega arith)) (h b.low (omega arith)) in
    rw (sym a.0) a.1

pub middle-most :
    (downs : List ℕ) (next width : ℕ) (later middle : List ℕ) → Branched downs next → Most value_limit next width later →
    Cells (rate_average downs next later) (length downs) width middle → (lines : ℕ) → lines ≡ length downs → Most value_limit lines width middle
unfolding rate_average
middle-most downs next width later middle branched m cells lines e =
    record {
      most = λ a l ha hl.
          let ha' : a < length downs = omega arith in
          let lead = branched a ha' in
          rw (cells.same a l ha' hl)
          (average-most (row_branch downs next a) (λ k. cell later k l) lead.total (λ k hk. m.most k l (omega (arith, lead.inside)) hl));
    }

-- ---- lines and columns

-- a line that is written from its lowest place
pub line_first : (j : ℕ) (f : ℕ → ℕ) (xs : List ℕ) → Line j f xs xs 0
line_first j f xs = record { kept = λ t h. refl; line = λ t h. absurd (omega arith) }

pub line-more :
    (j : ℕ) (f : ℕ → ℕ) (before after : List ℕ) (l v : ℕ) → line_size * j + l < length after → Line j f before after l → v ≡ f l →
    Line j f before (set after (line_size * j + l) v) (l + 1)
line-more j f before after l v hl s e =
    record {
      kept = λ t h. get_or-set_other after (line_size * j + l) t v 0 (λ q. omega arith) ∙ s.kept t h;
      line = λ t h.
          by_equal t l
          (λ q. ap (λ (x : ℕ). cell (set after (line_size * j + l) v) j x) q ∙ get_or-set_same after (line_size * j + l) v 0 hl ∙ e ∙ ap f (sym q))
          (λ n. get_or-set_other after (line_size * j + l) (line_size * j + t) v 0 (λ q. n (omega arith)) ∙ s.line t (omega (arith, n)));
    }

pub line-done : {j : ℕ} {f : ℕ → ℕ} {before after : List ℕ} {l width : ℕ} → Line j f before after l → width ≤ l → Line j f before after width
line-done s h = record { kept = s.kept; line = λ t ht. s.line t (omega arith) }

-- a column that is written from its lowest place
pub column-first : (l : ℕ) (f : ℕ → ℕ) (xs : List ℕ) → Column l f xs xs 0
column-first l f xs = record { kept = λ t q h n. refl; column = λ t h. absurd (omega arith) }

places-apart : (a t l q : ℕ) → l < line_size → q < line_size → (q ≡ l → ⊥) → line_size * t + q ≡ line_size * a + l → ⊥
places-apart a t l q hl hq n e = n (omega arith)

lines-apart : (a t l : ℕ) → (t ≡ a → ⊥) → line_size * t + l ≡ line_size * a + l → ⊥
lines-apart a t l n e = n (omega arith)

pub column-more :
    (l : ℕ) (f : ℕ → ℕ) (before after : List ℕ) (a v : ℕ) → l < line_size → line_size * a + l < length after → Column l f before after a → v ≡ f a →
    Column l f before (set after (line_size * a + l) v) (a + 1)
column-more l f before after a v hl ha s e =
    record {
      kept = λ t q hq n. get_or-set_other after (line_size * a + l) (line_size * t + q) v 0 (places-apart a t l q hl hq n) ∙ s.kept t q hq n;
      column = λ t h.
          by_equal t a
          (λ q. ap (λ (x : ℕ). cell (set after (line_size * a + l) v) x l) q ∙ get_or-set_same after (line_size * a + l) v 0 ha ∙ e ∙ ap f (sym q))
          (λ n. get_or-set_other after (line_size * a + l) (line_size * t + l) v 0 (lines-apart a t l n) ∙ s.column t (omega (arith, n)));
    }

pub column-done :
    {l : ℕ} {f : ℕ → ℕ} {before after : List ℕ} {a lines : ℕ} → Column l f before after a → lines ≤ a → Column l f before after lines
column-done s h = record { kept = s.kept; column = λ t ht. s.column t (omega arith) }

-- line after line
pub cells-none : (f : ℕ → ℕ → ℕ) (width : ℕ) (xs : List ℕ) → Cells f 0 width xs
cells-none f width xs = record { same = λ a l h q. absurd (omega arith) }

pub cells-line :
    (f : ℕ → ℕ → ℕ) (width : ℕ) (before after : List ℕ) (j : ℕ) → width ≤ line_size → Cells f j width before → Line j (f j) before after width →
    Cells f (j + 1) width after
cells-line f width before after j hw s line =
    record {
      same = λ a l h q.
          by_equal a j
          (λ e. rw e (line.line l q))
          (λ n. line.kept (line_size * a + l) (omega (arith, n)) ∙ s.same a l (omega (arith, n)) q);
    }

pub cells-done :
    {f : ℕ → ℕ → ℕ} {lines width lines' width' : ℕ} {xs : List ℕ} → Cells f lines width xs → lines' ≤ lines → width' ≤ width →
    Cells f lines' width' xs
cells-done s h g = record { same = λ a l ha hl. s.same a l (omega arith) (omega arith) }

-- column after column
pub cells-empty : (f : ℕ → ℕ → ℕ) (lines : ℕ) (xs : List ℕ) → Cells f lines 0 xs
cells-empty f lines xs = record { same = λ a l h q. absurd (omega arith) }

pub cells-column :
    (f : ℕ → ℕ → ℕ) (lines : ℕ) (before after : List ℕ) (l : ℕ) → l < line_size → Cells f lines l before → Column l (λ a. f a l) before after lines →
    Cells f lines (l + 1) after
cells-column f lines before after l hl s column =
    record {
      same = λ a q h hq.
          by_equal q l
          (λ e. rw e (column.column a h))
          (λ n. column.kept a q (omega arith) n ∙ s.same a q h (omega (arith, n)));
    }

-- the line's average as the row's: the branch under its other name
pub line-of-row :
    (b : RowBranch) (downs : List ℕ) (next : ℕ) (later before after : List ℕ) (j width : ℕ) → b ≡ row_branch downs next j →
    Line j (λ l. branch_average b (λ a. cell later a l)) before after width → Line j (rate_average downs next later j) before after width
unfolding rate_average
line-of-row b downs next later before after j width e s =
    record { kept = s.kept; line = λ t h. s.line t h ∙ ap (λ (x : RowBranch). branch_average x (λ a. cell later a t)) e }

pub column-of-row :
    (b : RowBranch) (downs : List ℕ) (next : ℕ) (rates spreads middle before after : List ℕ) (flow l e lines : ℕ) → b ≡ row_branch downs next l →
    e ≡ values spreads l → Column l (λ a. spread_value b (values rates a) e (cell middle a) + flow) before after lines →
    Column l (λ a. spread_value (row_branch downs next l) (values rates a) (values spreads l) (cell middle a) + flow) before after lines
column-of-row b downs next rates spreads middle before after flow l e lines eb ee s =
    record {
      kept = s.kept;
      column = λ t h.
          s.column t h
          ∙ ap (λ (x : RowBranch). spread_value x (values rates t) e (cell middle t) + flow) eb
          ∙ ap (λ (x : ℕ). spread_value (row_branch downs next l) (values rates t) x (cell middle t) + flow) ee;
    }

-- what the code asks of the branch of node k
module _ (downs : List ℕ) (next k : ℕ) (branched : Branched downs next) (hk : k < length downs) (room : next ≤ line_size)
    (b : RowBranch) (e : b ≡ row_branch downs next k) where
  low-is : b.low ≡ (row_branch downs next k).low
  low-is = ap (λ (x : RowBranch). x.low) e

  pub leads-inside : b.low + 2 < line_size
  leads-inside = omega (arith, low-is, (branched k hk).inside)

  pub leads-whole : branch_total b ≡ probability_total
  leads-whole = rw e (branched k hk).total

  pub leads-limited : (width : ℕ) (xs : List ℕ) → Most value_limit next width xs → Most value_limit (b.low + 3) width xs
  leads-limited width xs m = record { most = λ a l ha hl. m.most a l (omega (arith, low-is, (branched k hk).inside)) hl }

  pub leads-across : (lines : ℕ) (xs : List ℕ) → Most value_limit lines next xs → Most value_limit lines (b.low + 3) xs
  leads-across lines xs m = record { most = λ a l ha hl. m.most a l ha (omega (arith, low-is, (branched k hk).inside)) }

-- ---- the greatest value

-- of a line, from its part of the memory
pub line-greatest :
    (xs part : List ℕ) (a width x : ℕ) → line_size * a + width ≤ length xs → part ≡ take width (drop (line_size * a) xs) →
    x ≡ greatest (length part) (values part) → x ≡ greatest width (λ l. cell xs a l)
line-greatest xs part a width x room ep ex =
    let n : length part ≡ width = ap length ep ∙ part_length xs (line_size * a) width room in
    ex
    ∙ ap (λ (m : ℕ). greatest m (values part)) n
    ∙ greatest-cong width (values part) (λ l. cell xs a l)
    (λ l h. ap (λ (p : List ℕ). values p l) ep ∙ part-value xs (line_size * a) width l h)

pub lines-greatest :
    (xs : List ℕ) (width a best x best' : ℕ) → best ≡ greatest a (λ t. greatest width (λ l. cell xs t l)) → x ≡ greatest width (λ l. cell xs a l) →
    best' ≡ max best x → best' ≡ greatest (a + 1) (λ t. greatest width (λ l. cell xs t l))
lines-greatest xs width a best x best' eb ex e =
    omega (arith, e, eb, ex, greatest-next a (λ t. greatest width (λ l. cell xs t l)))

-- ---- exercise

pub exercised-not : (listed call : Bool) (strike flow rolled value : ℕ) → listed ≡ false → rolled ≡ exercised listed call strike flow rolled value
unfolding exercised held_or_exercised
exercised-not listed call strike flow rolled value e = rw e

pub exercised-on :
    (listed call : Bool) (strike flow rolled value x y : ℕ) → listed ≡ true → x ≡ exercise (side call) strike (value - flow) → y ≡ max rolled x →
    y ≡ exercised listed call strike flow rolled value
unfolding exercised held_or_exercised
exercised-on listed call strike flow rolled value x y e ex ey = ey ∙ ap (λ (z : ℕ). max rolled z) ex ∙ rw e

-- a memory of which the first k places are changed, each by itself
pub record Changed (f : ℕ → ℕ → ℕ) (before after : List ℕ) (k : ℕ) : Type 0 where
  pub done : (t : ℕ) → t < k → values after t ≡ f t (values before t)
  pub left : (t : ℕ) → k ≤ t → values after t ≡ values before t

pub changed-first : (f : ℕ → ℕ → ℕ) (xs : List ℕ) → Changed f xs xs 0
changed-first f xs = record { done = λ t h. absurd (omega arith); left = λ t h. refl }

pub changed-more :
    (f : ℕ → ℕ → ℕ) (before after : List ℕ) (k v : ℕ) → k < length after → Changed f before after k → v ≡ f k (values after k) →
    Changed f before (set after k v) (k + 1)
changed-more f before after k v h s e =
    record {
      done = λ t ht.
          by_equal t k
          (λ q. ap (λ (x : ℕ). values (set after k v) x) q ∙ get_or-set_same after k v 0 h ∙ e ∙ ap (f k) (s.left k (omega arith))
          ∙ ap (λ (x : ℕ). f x (values before x)) (sym q))
          (λ n. get_or-set_other after k t v 0 n ∙ s.done t (omega (arith, n)));
      left = λ t ht. get_or-set_other after k t v 0 (λ q. omega arith) ∙ s.left t (omega arith);
    }

-- ---- the roll

-- both sides together
pub rolled-square :
    (r : PairRow) (later middle after : List ℕ) (flow : ℕ) → RollablePair r flow →
    Cells (rate_average r.rate_downs r.rate_next later) (length r.rate_downs) r.spread_next middle →
    Cells (λ a l. spread_value (row_branch r.spread_downs r.spread_next l) (values r.rates a) (values r.spreads l) (cell middle a) + flow)
    (length r.rates) (length r.spreads) after →
    Cells (λ a l. rolled_cell r later a l + flow) (length r.rates) (length r.spreads) after
unfolding rolled_cell spread_value branch_average
rolled-square r later middle after flow h hm ha =
    record {
      same = λ a l la ll.
          let lead = h.spread-branches l (omega (arith, h.spread-count)) in
          let line : (q : ℕ) → q < r.spread_next → cell middle a q ≡ rate_average r.rate_downs r.rate_next later a q
          = λ q hq. hm.same a q (omega (arith, h.rate-count)) hq in
          let t = (row_branch r.spread_downs r.spread_next l).low in
          ha.same a l la ll
          ∙ rw (line (t + 2) lead.inside, line (t + 1) (omega (arith, lead.inside)), line t (omega (arith, lead.inside)));
    }
