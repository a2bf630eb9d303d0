-- The walk back through an accepted tree: what the code holds at each row.
-- Assumes nothing.
use mathlib.Core.Path.{◌≡◌, refl, sym, ap, ap₂, ◌∙◌, subst}
use mathlib.Core.Bool.{Bool}
use mathlib.Core.List.{List}
use Prim.Native.Nat.{ℕ, zero, suc, ◌+◌, ◌-◌, ◌≤◌, ◌<◌, max}
use native.Mathlib.Nat.{le_refl}
use native.Mathlib.Omega.{arith}
use Rattle.arithmetic.specs.Row.{values}
use Rattle.arithmetic.specs.Sum.{greatest}
use Rattle.arithmetic.proofs.Numbers.{by_order}
use Rattle.arithmetic.proofs.SumLaws.{greatest-cong}
use Rattle.arithmetic.specs.Answers.{refused, answered}
use Rattle.limits.specs.Limits.{value_limit, most_nodes, limit_cause}
use Rattle.limits.proofs.LimitLaws.{limit-above, limit-kept, limit-accepted}
use Rattle.lattice.specs.Shape.{node_count}
use Rattle.lattice.specs.RateTree.{rate_tree}
use Rattle.lattice.proofs.Sizes.{count-within, count-positive}
use Rattle.lattice.proofs.RateTreeLaws.{rate-tree-sound}
use Rattle.pricing_laws.specs.Pricer.{bond, Side, Schedule, exercise, held_or_exercised}
use Rattle.pricing_laws.specs.TreePricer.{roll_rounding, roll, engine}
use Rattle.pricing_laws.specs.Peak.{peak, greatest_value}
use Rattle.pricing_laws.proofs.Peaks.{peak-grows}
use Rattle.pricing_laws.proofs.Recurrences.{bond-before}
use Rattle.pricing_laws.proofs.PriceLaws.{On, row-greatest, roll-local}
use Rattle.pricing_laws.proofs.Backward as back
use Rattle.pricing.specs.declared.walk.Rolled.{Rolled}
use Rattle.price_laws.specs.Prices.{flow_at, bond_value, bond_peak, option_value, option_peak, option_limit}
use Rattle.pricing.specs.inside.Rows.{Limited, Holds, FilledRow, FilledRows}
use Rattle.pricing.specs.inside.Trees.{rolled_at, bond_step, option_step, BondRolled, BothRolled}
use Rattle.pricing.specs.inside.Strips.{bare_value, KeptFrom, strike_step, beside_bond}
use Rattle.lent_tree.specs.LentTree.{stored, Accepted}
use Rattle.price_causes.specs.Causes.{most_strike}
use Rattle.price_causes.specs.inside.Flows.{AcceptedFlows}
use Rattle.pricing.proofs.TreeRows.{flow-within}

-- the greatest of two rows together
greatest-max : (n : ℕ) (f g : ℕ → ℕ) → greatest n (λ k. max (f k) (g k)) ≡ max (greatest n f) (greatest n g)
unfolding greatest
greatest-max zero f g = omega arith
greatest-max (suc n) f g = rw (greatest-max n f g) (omega arith)

-- the greatest value of a row, as the laws of a walk take it
abbrev top : ℕ → ℕ → (ℕ → ℕ) → ℕ
top b i v = greatest ((rate_tree b).nodes i) v

-- what a walk answers: a value above the limit, or the first values of two rows
abbrev pub passed : Rolled
passed = record { number = 12; bond = 0; option = 0 }

abbrev pub stood : List ℕ → List ℕ → Rolled
stood bond option = record { number = 0; bond = values bond 0; option = values option 0 }

-- the bond at row i stands in a list
pub Bonds : ℕ → ℕ → List ℕ → List ℕ → ℕ → List ℕ → Type 0
Bonds n b discounts flows i l =
    back.Bond-state n (On (rate_tree b)) (top b) (roll (rate_tree b) (stored b discounts) roll_rounding) (flow_at flows) i (values l)

pub bonds-inside : {n : ℕ} (b : ℕ) (discounts flows : List ℕ) {i : ℕ} (l : List ℕ) → Bonds n b discounts flows i l → i ≤ n
unfolding Bonds
bonds-inside b discounts flows l s = s.in_tree

-- the option at row i stands in a list
pub Options : ℕ → ℕ → List ℕ → List ℕ → Side → ℕ → Schedule → ℕ → List ℕ → Type 0
Options n b discounts flows side strike rows i l =
    back.Option-state n (On (rate_tree b)) (top b) (roll (rate_tree b) (stored b discounts) roll_rounding) (flow_at flows)
    side strike rows i (values l)

module _ (n b : ℕ) (discounts flows : List ℕ) (a : Accepted n b discounts) (f : AcceptedFlows n flows) where
  abbrev the_roll : ℕ → (ℕ → ℕ) → ℕ → ℕ
  the_roll = roll (rate_tree b) (stored b discounts) roll_rounding

  great : back.Greatest (On (rate_tree b)) (top b)
  great = row-greatest (rate_tree b)

  local : back.Local (On (rate_tree b)) the_roll
  local = roll-local (rate_tree b) (rate-tree-sound b a.limits.reversion-within-limit) (stored b discounts) roll_rounding

  narrow : (i k : ℕ) → i ≤ n → k < node_count b i → k < most_nodes
  narrow i k h l = omega (arith, count-within b i (omega (arith, a.limits.steps-within-limit)))

  -- row n: its flow
  pub bonds-first : (l : List ℕ) → Holds l most_nodes (λ k. flow_at flows n) → Bonds n b discounts flows n l
  unfolding Bonds rate_tree
  bonds-first l h =
      back.bond-first n (On (rate_tree b)) (top b) great the_roll local (flow_at flows) (values l)
      (omega (arith, flow-within n flows f n (le_refl n))) (λ k hk. h k (narrow n k (le_refl n) hk))

  pub bonds-limited : (i : ℕ) (later : List ℕ) → Bonds n b discounts flows i later → Limited later (node_count b i)
  unfolding Bonds rate_tree
  bonds-limited i later s = back.bond-limit n (On (rate_tree b)) (top b) great the_roll local (flow_at flows) i (values later) s

  pub bonds-held : (i : ℕ) (l : List ℕ) → Bonds n b discounts flows i l → Holds l (node_count b i) (bond_value n b discounts flows i)
  unfolding Bonds rate_tree bond_value
  bonds-held i l s = s.held

  -- one row back
  module _ (r : ℕ) (later : List ℕ) (some : 0 < r) (s : Bonds n b discounts flows r later) (l : List ℕ)
      (h : Holds l (node_count b (r - 1)) (bond_step b discounts (flow_at flows (r - 1)) (r - 1) later)) where
    before : Bonds n b discounts flows (suc (r - 1)) later
    before = let e : r ≡ suc (r - 1) = omega arith in subst (λ (x : ℕ). Bonds n b discounts flows x later) e s

    inside : r - 1 < n
    unfolding Bonds
    inside = omega (arith, s.in_tree)

    module _ (found : ℕ) (ef : found ≡ greatest (node_count b (r - 1)) (values l)) where
      pub bonds-over : value_limit < found → value_limit < peak (greatest_value (rate_tree b) (bond_value n b discounts flows)) n (r - 1)
      unfolding Bonds rate_tree rolled_at greatest_value bond_value
      bonds-over o =
          back.bond-over n (On (rate_tree b)) (top b) great the_roll local (flow_at flows) (r - 1) (values later) inside before (values l) h found ef o

      pub bonds-next : found ≤ value_limit → Bonds n b discounts flows (r - 1) l
      unfolding Bonds rate_tree rolled_at
      bonds-next o =
          back.bond-step n (On (rate_tree b)) (top b) great the_roll local (flow_at flows) (r - 1) (values later) inside before (values l) h found ef o

  -- the answer of the walk back to row `last`
  module _ (last : ℕ) where
    pub bond-refused :
        (r : ℕ) (l : List ℕ) → last < r → r ≤ n → value_limit < peak (greatest_value (rate_tree b) (bond_value n b discounts flows)) n (r - 1) →
        BondRolled n b discounts flows last 12 l
    bond-refused r l h hr o =
        let e : last + (r - 1 - last) ≡ r - 1 = omega arith in
        let g = rw e at (peak-grows (greatest_value (rate_tree b) (bond_value n b discounts flows)) n last (r - 1 - last) (omega arith)) in
        record { cause = limit-above _ (omega (arith, g)); held = λ z. absurd (none z) }
      where
        none : ◌≡◌ {A = ℕ} 12 0 → ⊥
        none z = omega arith

    row-rolled : (l : List ℕ) → Bonds n b discounts flows last l → BondRolled n b discounts flows last 0 l
    unfolding Bonds rate_tree greatest_value bond_value
    row-rolled l s = record { cause = limit-kept _ s.within-limit; held = λ z. s.held }

    pub bond-rolled : (r : ℕ) (l : List ℕ) → r ≡ last → Bonds n b discounts flows r l → BondRolled n b discounts flows last 0 l
    bond-rolled r l e s = row-rolled l (subst (λ (x : ℕ). Bonds n b discounts flows x l) e s)

    -- and back from its answer
    pub bonds-from : (l : List ℕ) → last ≤ n → BondRolled n b discounts flows last 0 l → Bonds n b discounts flows last l
    unfolding Bonds rate_tree greatest_value bond_value
    bonds-from l h s = record { in_tree = h; held = s.held refl; within-limit = limit-accepted _ (sym s.cause) }

  -- the option beside the bond
  module _ (side : Side) (strike : ℕ) (rows : Schedule) (hl : rows.last ≤ n) where
    abbrev Right : ℕ → List ℕ → Type 0
    Right = Options n b discounts flows side strike rows

    -- exercise values of a limited bond and strike are limited
    exercise-limited : (s : Side) (k v : ℕ) → k ≤ most_strike → v ≤ value_limit → exercise s k v ≤ value_limit
    unfolding exercise
    exercise-limited Side.call k v hk hv = omega arith
    exercise-limited Side.put k v hk hv = omega arith

    -- on the last row: the exercise values
    pub options-first :
        (bonds l : List ℕ) → strike ≤ most_strike → Bonds n b discounts flows rows.last bonds →
        Holds l (node_count b rows.last) (λ k. exercise side strike (values bonds k - flow_at flows rows.last)) → Right rows.last l
    unfolding Bonds Options rate_tree
    options-first bonds l hs s h =
        back.option-first n (On (rate_tree b)) (top b) great the_roll local (flow_at flows) side strike rows (values bonds) (values l) s value-is
        (λ k hk. rw (value-is k hk) (exercise-limited side strike (values bonds k - flow_at flows rows.last) hs (less-flow _ _
        (back.bond-limit n (On (rate_tree b)) (top b) great the_roll local (flow_at flows) rows.last (values bonds) s k hk))))
      where
        less-flow : (x y : ℕ) → x ≤ value_limit → x - y ≤ value_limit
        less-flow x y h = omega arith

        value-is : (k : ℕ) → k < node_count b rows.last → values l k ≡ exercise side strike (values bonds k - flow_at flows rows.last)
        value-is k hk = h k hk

    pub options-limited : (i : ℕ) (later : List ℕ) → Right i later → Limited later (node_count b i)
    unfolding Options rate_tree
    options-limited i later s =
        back.option-limit n (On (rate_tree b)) (top b) great the_roll local (flow_at flows) side strike rows i (values later) s

    -- one row back, bond and option together
    module _ (r : ℕ) (bonds options : List ℕ) (some : 0 < r) (sb : Bonds n b discounts flows r bonds) (so : Right r options)
        (listed : Bool) (el : listed ≡ rows.listed (r - 1)) (bond option : List ℕ) (found : ℕ)
        (filled : FilledRows bond option (node_count b (r - 1)) (bond_step b discounts (flow_at flows (r - 1)) (r - 1) bonds)
        (option_step side strike listed b discounts (r - 1) bonds options) found) where
      options-before : Right (suc (r - 1)) options
      options-before = let e : r ≡ suc (r - 1) = omega arith in subst (λ (x : ℕ). Right x options) e so

      before_last : r - 1 < rows.last
      unfolding Options
      before_last = omega (arith, so.before_last)

      option-value-is :
          (k : ℕ) → k < node_count b (r - 1) →
          values option k
          ≡ held_or_exercised (rows.listed (r - 1)) (rolled_at b discounts (r - 1) options k) (exercise side strike (rolled_at b discounts (r - 1) bonds k))
      option-value-is k h =
          filled.option-held k h
          ∙ ap
          (λ (t : Bool). held_or_exercised t (rolled_at b discounts (r - 1) options k) (exercise side strike (rolled_at b discounts (r - 1) bonds k)))
          el

      bond-found : ℕ
      bond-found = greatest (node_count b (r - 1)) (values bond)

      option-found : ℕ
      option-found = greatest (node_count b (r - 1)) (values option)

      found-is : found ≡ max bond-found option-found
      unfolding bond-found option-found
      found-is =
          filled.found
          ∙ greatest-cong (node_count b (r - 1)) _ (λ k. max (values bond k) (values option k))
          (λ k h. ap₂ max (sym (filled.bond-held k h)) (sym (filled.option-held k h)))
          ∙ greatest-max (node_count b (r - 1)) (values bond) (values option)

      pub both-next : found ≤ value_limit → Bonds n b discounts flows (r - 1) bond × Right (r - 1) option
      unfolding Bonds Options rate_tree rolled_at bond-found option-found
      both-next o = (
        bonds-next r bonds some sb bond filled.bond-held bond-found refl (omega (arith, found-is)),
        back.option-step n (On (rate_tree b)) (top b) great the_roll local (flow_at flows) side strike rows (r - 1) (values options)
            before_last options-before (values bonds) (before r bonds some sb bond filled.bond-held) (values option) option-value-is
            option-found refl (omega (arith, found-is)),
      )

      -- a value above the limit is one of the bond or one of the option
      over-bond : value_limit < bond-found → value_limit < bond_peak n b discounts flows
      unfolding bond-found bond_peak
      over-bond h =
          let e : 0 + (r - 1) ≡ r - 1 = omega arith in
          let w = greatest_value (rate_tree b) (bond_value n b discounts flows) in
          omega (
            arith,
            bonds-over r bonds some sb bond filled.bond-held bond-found refl h,
            rw e at (peak-grows w n 0 (r - 1) (omega (arith, inside r bonds some sb bond filled.bond-held))),
          )

      over-option : value_limit < option-found → value_limit < option_peak n b discounts flows side strike rows
      unfolding Bonds Options rate_tree rolled_at greatest_value option_value option_peak option-found
      over-option h =
          let e : 0 + (r - 1) ≡ r - 1 = omega arith in
          let w = greatest_value (rate_tree b) (option_value n b discounts flows side strike rows) in
          omega (
            arith,
            back.option-over n (On (rate_tree b)) (top b) great the_roll local (flow_at flows) side strike rows (r - 1) (values options)
                before_last options-before (values bonds) (before r bonds some sb bond filled.bond-held) (values option) option-value-is
                option-found refl h,
            rw e at (peak-grows w rows.last 0 (r - 1) (omega (arith, before_last))),
          )

      pub both-over : value_limit < found → BothRolled n b discounts flows side strike rows passed
      unfolding option_limit
      both-over o =
          record {
            cause =
                limit-above _
                (by_order bond-found value_limit
                (λ h. let g : value_limit < option-found = omega (arith, found-is) in omega (arith, over-option g))
                (λ h. omega (arith, over-bond h)));
            bond-held = λ z. absurd (none z);
            option-held = λ z. absurd (none z);
          }
        where
          none : ◌≡◌ {A = ℕ} 12 0 → ⊥
          none z = omega arith

    -- at row 0
    at-root : (bonds l : List ℕ) → Bonds n b discounts flows 0 bonds → Right 0 l → BothRolled n b discounts flows side strike rows (stood bonds l)
    unfolding Bonds Options rate_tree greatest_value bond_value option_value bond_peak option_peak option_limit
    at-root bonds l s o =
        record {
          cause = limit-kept _ (omega (arith, s.within-limit, o.within-limit));
          bond-held = λ z. s.held 0 (count-positive b 0);
          option-held = λ z. o.held 0 (count-positive b 0);
        }

    pub both-rolled :
        (r : ℕ) (bonds l : List ℕ) → r ≡ 0 → Bonds n b discounts flows r bonds → Right r l →
        BothRolled n b discounts flows side strike rows (stood bonds l)
    both-rolled r bonds l e s o =
        at-root bonds l (subst (λ (x : ℕ). Bonds n b discounts flows x bonds) e s) (subst (λ (x : ℕ). Right x l) e o)

    -- the bond passes the limit before the option's last row is reached
    pub late-refused :
        (number : ℕ) (bonds : List ℕ) → BondRolled n b discounts flows rows.last number bonds → (number ≡ 0 → ⊥) →
        BothRolled n b discounts flows side strike rows passed
    unfolding bond_peak option_limit
    late-refused number bonds s z =
        record {
          cause =
              by_order late value_limit
              (λ low. absurd (z (s.cause ∙ sym (limit-kept late low))))
              (λ high. limit-above _ (omega (arith, grown)));
          bond-held = λ e. absurd (none e);
          option-held = λ e. absurd (none e);
        }
      where
        none : ◌≡◌ {A = ℕ} 12 0 → ⊥
        none e = omega arith

        tops : ℕ → ℕ
        tops = greatest_value (rate_tree b) (bond_value n b discounts flows)

        late : ℕ
        late = peak tops n rows.last

        grown : late ≤ peak tops n 0
        grown = let e : 0 + rows.last ≡ rows.last = omega arith in rw e at (peak-grows tops n 0 rows.last (omega arith))

    -- the option alone, where no value of the bond is above the limit
    module _ (within : bond_peak n b discounts flows ≤ value_limit) where
      standing : (i : ℕ) → i ≤ n → back.Bond-state n (On (rate_tree b)) (top b) the_roll (flow_at flows) i (bond_value n b discounts flows i)
      unfolding rate_tree greatest_value bond_value bond_peak
      standing i h =
          let e : 0 + i ≡ i = omega arith in
          let grown = rw e at (peak-grows (greatest_value (rate_tree b) (bond_value n b discounts flows)) n 0 i (omega arith)) in
          record { in_tree = h; held = λ k hk. refl; within-limit = omega (arith, grown) }

      -- on the last row: the exercise values
      pub alone-first :
          (bare l : List ℕ) → strike ≤ most_strike →
          ((k : ℕ) → k < node_count b rows.last → values bare k ≡ bare_value n b discounts flows rows.last k) →
          Holds l (node_count b rows.last) (λ k. exercise side strike (values bare k)) → Right rows.last l
      unfolding Options rate_tree
      alone-first bare l hs kept h =
          back.option-first n (On (rate_tree b)) (top b) great the_roll local (flow_at flows) side strike rows
          (bond_value n b discounts flows rows.last) (values l) (standing rows.last hl) value-is
          (λ k hk. rw (value-is k hk) (exercise-limited side strike (bare_value n b discounts flows rows.last k) hs (less-flow _ _
          (back.bond-limit n (On (rate_tree b)) (top b) great the_roll local (flow_at flows) rows.last
          (bond_value n b discounts flows rows.last) (standing rows.last hl) k hk))))
        where
          less-flow : (x y : ℕ) → x ≤ value_limit → x - y ≤ value_limit
          less-flow x y h = omega arith

          value-is : (k : ℕ) → k < node_count b rows.last → values l k ≡ exercise side strike (bare_value n b discounts flows rows.last k)
          value-is k hk = h k hk ∙ ap (exercise side strike) (kept k hk)

      -- the row that is kept is the later row rolled back
      bare-rolled : (i k : ℕ) → i < n → bare_value n b discounts flows i k ≡ the_roll i (bond_value n b discounts flows (suc i)) k
      unfolding bond_value
      bare-rolled i k h = omega (arith, bond-before (engine (rate_tree b) (stored b discounts)) (flow_at flows) n i h k)

      module _ (r : ℕ) (options kept : List ℕ) (some : 0 < r) (so : Right r options) (rows-kept : KeptFrom n b discounts flows 0 kept)
          (listed : Bool) (el : listed ≡ rows.listed (r - 1)) (option : List ℕ) (found : ℕ)
          (filled : FilledRow option (node_count b (r - 1)) (strike_step side strike listed b discounts (r - 1) kept options) found) where
        later-option : Right (suc (r - 1)) options
        later-option = let e : r ≡ suc (r - 1) = omega arith in subst (λ (x : ℕ). Right x options) e so

        earlier : r - 1 < rows.last
        unfolding Options
        earlier = omega (arith, so.before_last)

        alone-value :
            (k : ℕ) → k < node_count b (r - 1) →
            values option k
            ≡ held_or_exercised (rows.listed (r - 1)) (rolled_at b discounts (r - 1) options k)
            (exercise side strike (the_roll (r - 1) (bond_value n b discounts flows (suc (r - 1))) k))
        alone-value k h =
            filled.held k h
            ∙ ap₂ (λ (t : Bool) (x : ℕ). held_or_exercised t (rolled_at b discounts (r - 1) options k) (exercise side strike x)) el
            (rows-kept (r - 1) k (omega arith) (omega (arith, earlier)) h ∙ bare-rolled (r - 1) k (omega (arith, earlier)))

        alone-found : found ≡ greatest (node_count b (r - 1)) (values option)
        alone-found = filled.found ∙ greatest-cong (node_count b (r - 1)) _ _ (λ k h. sym (filled.held k h))

        pub alone-next : found ≤ value_limit → Right (r - 1) option
        unfolding Options rate_tree rolled_at
        alone-next o =
            back.option-step n (On (rate_tree b)) (top b) great the_roll local (flow_at flows) side strike rows (r - 1) (values options)
            earlier later-option (bond_value n b discounts flows (suc (r - 1))) (standing (suc (r - 1)) (omega (arith, earlier))) (values option)
            alone-value found alone-found o

        alone-peak : value_limit < found → value_limit < option_peak n b discounts flows side strike rows
        unfolding Options rate_tree rolled_at greatest_value option_value option_peak
        alone-peak h =
            let e : 0 + (r - 1) ≡ r - 1 = omega arith in
            let w = greatest_value (rate_tree b) (option_value n b discounts flows side strike rows) in
            omega (
              arith,
              back.option-over n (On (rate_tree b)) (top b) great the_roll local (flow_at flows) side strike rows (r - 1) (values options)
                  earlier later-option (bond_value n b discounts flows (suc (r - 1))) (standing (suc (r - 1)) (omega (arith, earlier)))
                  (values option) alone-value found alone-found h,
              rw e at (peak-grows w rows.last 0 (r - 1) (omega (arith, earlier))),
            )

        pub alone-over : value_limit < found → BothRolled n b discounts flows side strike rows (beside_bond n b discounts flows (refused 12))
        unfolding option_limit
        alone-over o =
            record { cause = limit-above _ (omega (arith, alone-peak o)); bond-held = λ z. refl; option-held = λ z. absurd (none z) }
          where
            none : ◌≡◌ {A = ℕ} 12 0 → ⊥
            none z = omega arith

      alone-root : (l : List ℕ) → Right 0 l → BothRolled n b discounts flows side strike rows (beside_bond n b discounts flows (answered (values l 0)))
      unfolding Options rate_tree greatest_value option_value option_peak option_limit
      alone-root l o =
          record {
            cause = limit-kept _ (omega (arith, o.within-limit));
            bond-held = λ z. refl;
            option-held = λ z. o.held 0 (count-positive b 0);
          }

      pub alone-rolled :
          (r : ℕ) (l : List ℕ) → r ≡ 0 → Right r l →
          BothRolled n b discounts flows side strike rows (beside_bond n b discounts flows (answered (values l 0)))
      alone-rolled r l e o = alone-root l (subst (λ (x : ℕ). Right x l) e o)

    -- a bond that passes the limit refuses every option
    pub bond-over :
        (number : ℕ) → number ≡ limit_cause (bond_peak n b discounts flows) → (number ≡ 0 → ⊥) →
        BothRolled n b discounts flows side strike rows (beside_bond n b discounts flows (refused number))
    unfolding option_limit
    bond-over number e z =
        by_order (bond_peak n b discounts flows) value_limit (λ low. absurd (z (e ∙ sym (limit-kept _ low))))
        (λ high.
        record {
          cause = e ∙ sym (limit-above _ high) ∙ limit-above _ (omega arith);
          bond-held = λ w. refl;
          option-held = λ w. absurd (z w);
        })

-- a walk that was not refused
pub rolled-through :
    {n b : ℕ} {discounts flows : List ℕ} {i number : ℕ} {l : List ℕ} → number ≡ 0 → BondRolled n b discounts flows i number l →
    BondRolled n b discounts flows i 0 l
rolled-through {n} {b} {discounts} {flows} {i} {l} z s = subst (λ (x : ℕ). BondRolled n b discounts flows i x l) z s

-- what a walk came to, as the code answers it
pub rolled-answer : {n b : ℕ} {discounts flows : List ℕ} {side : Side} {strike : ℕ} {rows : Schedule} {found : Rolled} (r : Rolled) → r ≡ found →
    BothRolled n b discounts flows side strike rows found → BothRolled n b discounts flows side strike rows r
rolled-answer {n} {b} {discounts} {flows} {side} {strike} {rows} r e s =
    subst (λ (x : Rolled). BothRolled n b discounts flows side strike rows x) (sym e) s
