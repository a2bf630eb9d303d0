-- What a shelf promises (document 02, requests (vii), (viii) and (x)), for every shelf reached from the empty one beside any memory by any calls of its
-- entries with any arguments. Each line is about the answers that the entries' contracts give, where shelf and memory are not altered between calls.
-- Assumes nothing.
use Rattle.std.specs.Prelude.{◌≡◌, true, false, cond, List, ◌∷◌, ◌++◌, ℕ, suc, ◌+◌, ◌-◌, ◌*◌, ◌^◌, ◌≤◌, ◌<◌, eqb, length, replicate}
use Rattle.arithmetic.specs.Row.{values}
use Rattle.tree.specs.Tree.{unit}
use Rattle.limits.specs.Limits.{most_steps, shape_cause}
use Rattle.lattice.specs.Shape.{discounts_needed, state_prices_needed}
use Rattle.lent_tree.specs.LentTree.{discounts_cause}
use Rattle.fitted_laws.specs.Entry.{fit_number}
use Rattle.price_bound.specs.PriceBound.{tree_error_bound, greatest_discounts}
use Rattle.price_laws.specs.declared.Price.{Price}
use Rattle.price_laws.specs.Prices.{refused_price}
use Rattle.price_laws.specs.Exact.{Accurate}
use Rattle.price_laws.specs.Strips.{strip_cause, Shown}
use Rattle.promises.specs.Promises.{NoneAboveOne}
use Rattle.shelf_laws.specs.Parts.{zeros, part}
use Rattle.shelf_laws.specs.Shelf.{room, nodes_held, part_of, slot_of, name_cause}
use Rattle.shelf_prices.specs.ShelfPrices.{shelf_bond_and_option, shelf_bond_and_dated, shelf_strip, shelf_dated_strip, shelf_kind_strip}
use Rattle.shelf_promises.specs.Model.{ShelvedTree, absent, present, Quoted, fit_number_of, fit_discounts_of, fitted_tree}
use Rattle.shelf_promises.specs.Model.{Pricing, bond, option, dated, flows_of, plain_price, exact_of}
use Rattle.shelf_promises.specs.Model.{Call, asking, committing, releasing, pricing, locating, name_of}
use Rattle.shelf_promises.specs.Model.{held_by, desk_price, desk_number, desk_after, desk_run}
use Rattle.shelf_promises.specs.History.{Kept, seen, price_of, number_of, after, run, empty_shelf, Reached, asked_in, released_in}

-- ---- trees

-- a tree's discounts are those of a fit that was accepted
pub record Committed (t : ShelvedTree) : Type 0 where
  pub quoted : Quoted
  pub accepted : fit_number_of quoted t.steps t.reversion ≡ 0
  pub discounts-are : t.discounts ≡ fit_discounts_of quoted t.steps t.reversion

-- what holds of every tree on the shelf
pub record GoodTree (t : ShelvedTree) : Type 0 where
  pub shape : shape_cause t.steps t.reversion ≡ 0
  pub nodes : length t.discounts ≡ discounts_needed t.steps t.reversion
  pub unfitted : t.fitted ≡ false → t.discounts ≡ zeros (discounts_needed t.steps t.reversion)
  pub committed : t.fitted ≡ true → Committed t
  pub accepted : t.fitted ≡ true → discounts_cause t.steps t.reversion t.discounts ≡ 0
  -- what it carries: the rule's numbers for its stored discounts, or zeros
  pub unfitted-bound : t.fitted ≡ false → t.bound ≡ 0
  pub unfitted-greatest : t.fitted ≡ false → t.greatest ≡ replicate most_steps 0
  pub fitted-bound : t.fitted ≡ true → t.bound ≡ tree_error_bound t.steps t.reversion t.discounts
  pub fitted-greatest : t.fitted ≡ true → t.greatest ≡ greatest_discounts t.steps t.reversion t.discounts

-- some call of the history was a commit of name i + 1 that was accepted, and its fit's discounts are the tree's
pub record CommittedIn (k : Kept) (calls : List Call) (i : ℕ) (t : ShelvedTree) : Type 0 where
  pub earlier : List Call
  pub later : List Call
  pub quoted : Quoted
  pub split : calls ≡ earlier ++ (committing (suc i) quoted ∷ later)
  pub accepted : number_of (run k earlier) (committing (suc i) quoted) ≡ 0
  pub tree_is : t ≡ fitted_tree quoted t.steps t.reversion

-- ---- prices

-- a price that is given: the tree was fitted, its bound is the one that the tree carries, the answer is the plain entry's for its discounts, within
-- that bound of the exact price (demand 3), and where no discount is above one the bound is at most 2 billionths a step
pub record PricedTree (k : Kept) (name : ℕ) (p : Pricing) : Type 0 where
  pub tree : ShelvedTree
  pub found : seen k (name - 1) ≡ present tree
  pub fitted : tree.fitted ≡ true
  pub carried : (price_of k name p).bound ≡ tree.bound
  pub answered : price_of k name p ≡ plain_price p tree.steps tree.reversion tree.discounts
  pub accurate :
      Accurate (unit ^ tree.steps) (price_of k name p) (exact_of p tree.steps tree.reversion tree.discounts)
  pub a-step : NoneAboveOne tree.steps tree.reversion tree.discounts → tree.bound ≤ 2 * tree.steps

-- ---- calls

-- an asking for a free name within the limits: accepted exactly where the asked nodes and those held fit
pub record AskedExactly (k : Kept) (name n b : ℕ) : Type 0 where
  pub taken : discounts_needed n b + nodes_held k.slots ≤ room → number_of k (asking name n b) ≡ 0
  pub full : room < discounts_needed n b + nodes_held k.slots → number_of k (asking name n b) ≡ 14

-- everything but an asking
pub data Alone : Call → Type 0 where
  commits : (name : ℕ) (q : Quoted) → Alone (committing name q)
  releases : (name : ℕ) → Alone (releasing name)
  prices : (name : ℕ) (p : Pricing) → Alone (pricing name p)
  locates : (name : ℕ) → Alone (locating name)

-- whatever is asked about a name is refused with 15, and it has no part
pub record Refused (k : Kept) (name : ℕ) : Type 0 where
  pub asked : (n b : ℕ) → number_of k (asking name n b) ≡ 15
  pub committed : (q : Quoted) → number_of k (committing name q) ≡ 15
  pub released : number_of k (releasing name) ≡ 15
  pub priced : (p : Pricing) → price_of k name p ≡ refused_price 15
  pub located : part_of k.slots name ≡ record { start = 0; count = 0 }

pub record ShelfPromises : Type 0 where
  -- the shelf is what the model says: each call's number, each price and each tree afterwards; and over a whole history
  pub numbers-seen : (k : Kept) → Reached k → (call : Call) → number_of k call ≡ desk_number (seen k) call
  pub prices-seen : (k : Kept) → Reached k → (name : ℕ) (p : Pricing) → price_of k name p ≡ desk_price (seen k) name p
  pub trees-seen : (k : Kept) → Reached k → (call : Call) (i : ℕ) → seen (after k call) i ≡ desk_after (seen k) call i
  pub history-seen : (m : List ℕ) → length m ≡ room → (calls : List Call) (i : ℕ) →
      seen (run (empty_shelf m) calls) i ≡ desk_run (λ j. absent) calls i
  -- nodes held are those of successful askings less releases, and those of the trees that are seen; they never pass 3,600
  pub nodes-held : (m : List ℕ) → length m ≡ room → (calls : List Call) →
      nodes_held (run (empty_shelf m) calls).slots + released_in (empty_shelf m) calls ≡ asked_in (empty_shelf m) calls
  pub nodes-seen : (k : Kept) → Reached k → nodes_held k.slots ≡ held_by (seen k) 8
  pub nodes-fit : (k : Kept) → Reached k → nodes_held k.slots ≤ room
  pub asked-exactly : (k : Kept) → Reached k → (name n b : ℕ) → 1 ≤ name → name ≤ 8 → seen k (name - 1) ≡ absent → shape_cause n b ≡ 0 →
      AskedExactly k name n b
  -- an unfitted tree's discounts are all 0; a fitted one's are those of a commit of its own name, all accepted
  pub trees-good : (k : Kept) → Reached k → (i : ℕ) (t : ShelvedTree) → seen k i ≡ present t → GoodTree t
  pub own-commit : (m : List ℕ) → length m ≡ room → (calls : List Call) (i : ℕ) (t : ShelvedTree) →
      seen (run (empty_shelf m) calls) i ≡ present t → t.fitted ≡ true → CommittedIn (empty_shelf m) calls i t
  -- the commit of a tree that awaits it has the number of the fit in any memories that are long enough
  pub commit-as-fit : (k : Kept) → Reached k → (name : ℕ) (q : Quoted) (t : ShelvedTree) → 1 ≤ name → name ≤ 8 → seen k (name - 1) ≡ present t →
      t.fitted ≡ false → (discounts prices : ℕ) → discounts_needed t.steps t.reversion ≤ discounts →
      state_prices_needed t.steps t.reversion ≤ prices →
      number_of k (committing name q)
      ≡ fit_number q.frequency t.steps t.reversion q.volatility q.rows q.kinds q.figures discounts prices
  -- a call on one name leaves every other name's tree, and no answer but an asking's depends on other names
  pub others-kept : (k : Kept) → Reached k → (call : Call) (i : ℕ) → (suc i ≡ name_of call → ⊥) → seen (after k call) i ≡ seen k i
  pub numbers-alone : (k j : Kept) → Reached k → Reached j → (call : Call) → Alone call → seen k (name_of call - 1) ≡ seen j (name_of call - 1) →
      number_of k call ≡ number_of j call
  pub prices-alone : (k j : Kept) → Reached k → Reached j → (name : ℕ) (p : Pricing) → seen k (name - 1) ≡ seen j (name - 1) →
      price_of k name p ≡ price_of j name p
  pub askings-alone : (k j : Kept) → Reached k → Reached j → (name n b : ℕ) →
      seen k (name - 1) ≡ seen j (name - 1) → nodes_held k.slots ≡ nodes_held j.slots →
      number_of k (asking name n b) ≡ number_of j (asking name n b)
  -- pricing, and every refused call, leaves slots and memory as they were
  pub pricing-kept : (k : Kept) (name : ℕ) (p : Pricing) → after k (pricing name p) ≡ k
  pub locating-kept : (k : Kept) (name : ℕ) → after k (locating name) ≡ k
  pub refused-kept : (k : Kept) → Reached k → (call : Call) → (number_of k call ≡ 0 → ⊥) → after k call ≡ k
  -- an unfitted tree is priced with 9, or 6 where the flows are not its steps; a fitted one never with 9
  pub unfitted-priced : (k : Kept) → Reached k → (name : ℕ) (t : ShelvedTree) → 1 ≤ name → name ≤ 8 → seen k (name - 1) ≡ present t → t.fitted ≡ false →
      (p : Pricing) →
      (length (flows_of p) ≡ t.steps → (price_of k name p).number ≡ 9) × ((length (flows_of p) ≡ t.steps → ⊥) → (price_of k name p).number ≡ 6)
  pub fitted-priced : (k : Kept) → Reached k → (name : ℕ) (t : ShelvedTree) → seen k (name - 1) ≡ present t → t.fitted ≡ true → (p : Pricing) →
      (price_of k name p).number ≡ 9 → ⊥
  -- the price of a tree that is there, given or refused, is the plain entry's whole answer for its discounts
  pub prices-plain : (k : Kept) → Reached k → (name : ℕ) (t : ShelvedTree) → 1 ≤ name → name ≤ 8 → seen k (name - 1) ≡ present t → (p : Pricing) →
      price_of k name p ≡ plain_price p t.steps t.reversion t.discounts
  -- demand 3 for bonds, kinds and date lists
  pub prices-accurate : (k : Kept) → Reached k → (name : ℕ) (p : Pricing) → (price_of k name p).number ≡ 0 → PricedTree k name p
  -- bond and option in one roll are the two prices, for kinds and for date lists
  pub kinds-paired : (k : Kept) (name : ℕ) (flows : List ℕ) (kind expiry strike : ℕ) →
      shelf_bond_and_option k.slots k.memory name flows kind expiry strike
      ≡ record { bond = price_of k name (bond flows); option = price_of k name (option flows kind expiry strike) }
  pub lists-paired : (k : Kept) (name : ℕ) (flows : List ℕ) (side : ℕ) (dates : List ℕ) (strike : ℕ) →
      shelf_bond_and_dated k.slots k.memory name flows side dates strike
      ≡ record { bond = price_of k name (bond flows); option = price_of k name (dated flows side dates strike) }
  -- strips: each answer is the price of its strike alone; 15 for the name, then the strip's own causes
  pub lists-strip : (k : Kept) (name : ℕ) (flows : List ℕ) (side : ℕ) (dates strikes : List ℕ) →
      Shown (shelf_dated_strip k.slots k.memory name flows side dates strikes) (length strikes)
      (λ i. price_of k name (dated flows side dates (values strikes i)))
  pub kinds-strip : (k : Kept) (name : ℕ) (flows : List ℕ) (kind expiry : ℕ) (strikes : List ℕ) →
      Shown (shelf_kind_strip k.slots k.memory name flows kind expiry strikes) (length strikes)
      (λ i. price_of k name (option flows kind expiry (values strikes i)))
  pub strips-numbered : (k : Kept) (name count : ℕ) (price : ℕ → Price) →
      (shelf_strip k.slots name count price).number
      ≡ cond (eqb (name_cause k.slots name) 0) (strip_cause (slot_of k.slots name).steps (slot_of k.slots name).reversion count) 15
  -- where the discounts of a name's tree stand
  pub parts-shown : (k : Kept) → Reached k → (name : ℕ) (t : ShelvedTree) → 1 ≤ name → name ≤ 8 → seen k (name - 1) ≡ present t →
      part k.memory (part_of k.slots name).start (part_of k.slots name).count ≡ t.discounts
  -- a shelf that holds more nodes than the memory has is reached by no calls: it is refused with 15 and left as it was
  pub unreached-refused : (k : Kept) → room < nodes_held k.slots → (name : ℕ) → Refused k name
  pub unreached-kept : (k : Kept) → room < nodes_held k.slots → (call : Call) → after k call ≡ k
