-- Shelf and memory, a call on them as the entries' contracts say it, and histories of calls.
-- Assumes nothing.
use Rattle.std.specs.Prelude.{◌≡◌, ℕ, ◌+◌, cond, List, [], ◌∷◌, eqb, length}
use Rattle.lattice.specs.Shape.{discounts_needed}
use Rattle.price_laws.specs.declared.Price.{Price}
use Rattle.shelf_laws.specs.declared.Slot.{Slot}
use Rattle.shelf_laws.specs.Shelf.{room, empty_slots, slot_at, nodes_of, discounts_at, slot_of, name_cause}
use Rattle.shelf_prices.specs.ShelfPrices.{shelf_price}
use Rattle.shelf_laws.specs.Shelf.{ask_number, ask_slots, ask_memory, commit_number, commit_slots, commit_memory, release_slots, release_memory}
use Rattle.shelf_promises.specs.Model.{Seen, absent, present, Pricing, plain_price}
use Rattle.shelf_promises.specs.Model.{Call, asking, committing, releasing, pricing, locating}

-- a shelf's slots beside its memory
pub record Kept : Type 0 where
  pub slots : List Slot
  pub memory : List ℕ

-- the desk that they stand for
abbrev pub seen_slot : Slot → List ℕ → Seen
seen_slot t discounts =
    cond (eqb t.status 0) absent
    (present (record {
      fitted = eqb t.status 2;
      steps = t.steps;
      reversion = t.reversion;
      discounts = discounts;
      bound = t.bound;
      greatest = t.greatest;
    }))

unfoldable pub seen : Kept → ℕ → Seen
seen k i = seen_slot (slot_at k.slots i) (discounts_at k.slots k.memory i)

-- what a price's entry answers
unfoldable pub price_of : Kept → ℕ → Pricing → Price
price_of k name p = shelf_price (plain_price p) k.slots k.memory name

-- a call's number
unfoldable pub number_of : Kept → Call → ℕ
number_of k (asking name n b) = ask_number k.slots name n b
number_of k (committing name q) = commit_number k.slots name q.frequency q.volatility q.rows q.kinds q.figures
number_of k (releasing name) = name_cause k.slots name
number_of k (pricing name p) = (price_of k name p).number
number_of k (locating name) = 0

-- slots and memory after a call. The entries of prices and places change neither: they take the shelf by value, borrow the memory and give no shelf back
unfoldable pub after : Kept → Call → Kept
after k (asking name n b) =
    record { slots = ask_slots k.slots name n b; memory = ask_memory k.slots k.memory name n b }
after k (committing name q) =
    record {
      slots = commit_slots k.slots k.memory name q.frequency q.volatility q.rows q.kinds q.figures;
      memory = commit_memory k.slots k.memory name q.frequency q.volatility q.rows q.kinds q.figures;
    }
after k (releasing name) = record { slots = release_slots k.slots name; memory = release_memory k.slots k.memory name }
after k (pricing name p) = k
after k (locating name) = k

unfoldable pub run : Kept → List Call → Kept
run k [] = k
run k (call ∷ calls) = run (after k call) calls

-- the empty shelf, beside any memory
abbrev pub empty_shelf : List ℕ → Kept
empty_shelf memory = record { slots = empty_slots; memory = memory }

-- reached from the empty shelf by any calls with any arguments
pub record Reached (k : Kept) : Type 0 where
  pub memory : List ℕ
  pub long : length memory ≡ room
  pub calls : List Call
  pub by : k ≡ run (empty_shelf memory) calls

-- the nodes that a call sets aside, and those that it gives back
unfoldable pub asked : Kept → Call → ℕ
asked k (asking name n b) = cond (eqb (ask_number k.slots name n b) 0) (discounts_needed n b) 0
asked k (committing name q) = 0
asked k (releasing name) = 0
asked k (pricing name p) = 0
asked k (locating name) = 0

unfoldable pub released : Kept → Call → ℕ
released k (asking name n b) = 0
released k (committing name q) = 0
released k (releasing name) = cond (eqb (name_cause k.slots name) 0) (nodes_of (slot_of k.slots name)) 0
released k (pricing name p) = 0
released k (locating name) = 0

-- the same, summed over a history
unfoldable pub asked_in : Kept → List Call → ℕ
asked_in k [] = 0
asked_in k (call ∷ calls) = asked k call + asked_in (after k call) calls

unfoldable pub released_in : Kept → List Call → ℕ
released_in k [] = 0
released_in k (call ∷ calls) = released k call + released_in (after k call) calls
