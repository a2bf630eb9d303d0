-- Work on one name changes nothing under another, and only an asking's answer depends on other names.
-- Assumes nothing.
use mathlib.Core.Path.{◌≡◌, refl, sym, ap, ◌∙◌}
use Prim.Native.Nat.{ℕ, suc, ◌-◌, ◌≤◌, ◌<◌}
use native.Mathlib.Omega.{arith}
use borrow.Author.Tests.{ne_eqb, le-ltb}
use Rattle.arithmetic.proofs.Numbers.{by_order, by_equal}
use Rattle.limits.specs.Limits.{shape_cause}
use Rattle.price_laws.specs.declared.Price.{Price}
use Rattle.shelf_laws.specs.Shelf.{room, nodes_held, status_of, name_cause, located_tree}
use Rattle.shelf_prices.specs.ShelfPrices.{shelf_price}
use Rattle.shelf_laws.specs.Shelf.{ask_slots, ask_memory, commit_number, commit_slots, commit_memory, release_slots, release_memory}
use Rattle.shelf_laws.proofs.NameLaws.{status-zero, status-high, status-broken, cause-none, ask-name, ask-full, ask-taken}
use Rattle.shelf_promises.specs.Model.{Seen, absent, Quoted, Pricing, held_by}
use Rattle.shelf_promises.specs.Model.{Call, asking, committing, releasing, pricing, locating, name_of}
use Rattle.shelf_promises.specs.Model.{desk_status, desk_cause, desk_price, desk_number, desk_taken}
use Rattle.shelf_promises.specs.History.{Kept, seen, price_of, number_of, after}
use Rattle.shelf_promises.specs.ShelfPromises.{AskedExactly, Alone, commits, releases, prices, locates, Refused}
use Rattle.shelf_promises.proofs.DeskLaws.{status-is, held-seen, price-is, put_other, taken, refused}
use Rattle.shelf_promises.proofs.Trees.{asking-told, committing-told, name-low, releasing-told}
use Rattle.shelf_promises.proofs.Histories.{Valid, follows}

-- ---- other names
apart : (i name : ℕ) → 0 < name → (suc i ≡ name → ⊥) → i ≡ name - 1 → ⊥
apart i name low h e = h (omega arith)

others-taken : (desk : ℕ → Seen) (call : Call) (i : ℕ) → desk_number desk call ≡ 0 → (suc i ≡ name_of call → ⊥) → desk_taken desk call i ≡ desk i
unfolding desk_taken
others-taken desk (asking name n b) i z e =
    sym (put_other desk (name - 1) _ i (apart i name (name-low desk name (omega (arith, (asking-told desk name n b z).0))) e))
others-taken desk (committing name q) i z e =
    sym (put_other desk (name - 1) _ i (apart i name (name-low desk name (omega (arith, (committing-told desk name q z).0))) e))
others-taken desk (releasing name) i z e = sym (put_other desk (name - 1) _ i (apart i name (releasing-told desk name z) e))
others-taken desk (pricing name p) i z e = refl
others-taken desk (locating name) i z e = refl

pub others-stay : (k : Kept) → Valid k → (call : Call) (i : ℕ) → (suc i ≡ name_of call → ⊥) → seen (after k call) i ≡ seen k i
others-stay k v call i e =
    (follows k v call).desk i
    ∙ by_equal (desk_number (seen k) call) 0
    (λ (z : desk_number (seen k) call ≡ 0). ap (λ (d : ℕ → Seen). d i) (sym (taken (seen k) call z)) ∙ others-taken (seen k) call i z e)
    (λ (z : desk_number (seen k) call ≡ 0 → ⊥). ap (λ (d : ℕ → Seen). d i) (sym (refused (seen k) call z)))

-- ---- answers that depend on one name
module _ (d e : ℕ → Seen) (name : ℕ) (same : d (name - 1) ≡ e (name - 1)) where
  status-alone : desk_status d name ≡ desk_status e name
  unfolding desk_status
  status-alone = rw same

  cause-alone : desk_cause d name ≡ desk_cause e name
  unfolding desk_cause
  cause-alone = rw status-alone

  price-alone : (p : Pricing) → desk_price d name p ≡ desk_price e name p
  unfolding desk_price
  price-alone p = rw (cause-alone, same)

  commit-alone : (q : Quoted) → desk_number d (committing name q) ≡ desk_number e (committing name q)
  unfolding desk_number
  commit-alone q = rw (status-alone, same)

  asking-alone : (n b : ℕ) → held_by d 8 ≡ held_by e 8 → desk_number d (asking name n b) ≡ desk_number e (asking name n b)
  unfolding desk_number
  asking-alone n b h = rw (status-alone, h)

alone-seen : (d e : ℕ → Seen) (call : Call) → Alone call → d (name_of call - 1) ≡ e (name_of call - 1) → desk_number d call ≡ desk_number e call
unfolding desk_number
alone-seen d e (committing name q) (commits _ _) same = commit-alone d e name same q
alone-seen d e (releasing name) (releases _) same = cause-alone d e name same
alone-seen d e (pricing name p) (prices _ _) same = ap (λ (x : Price). x.number) (price-alone d e name same p)
alone-seen d e (locating name) (locates _) same = refl
alone-seen d e (asking _ _ _) never same = elim never [ ]

module _ (k j : Kept) (v : Valid k) (w : Valid j) where
  pub number-alone : (call : Call) → Alone call → seen k (name_of call - 1) ≡ seen j (name_of call - 1) → number_of k call ≡ number_of j call
  number-alone call a same =
      (follows k v call).number ∙ alone-seen (seen k) (seen j) call a same ∙ sym (follows j w call).number

  pub prices-stay : (name : ℕ) (p : Pricing) → seen k (name - 1) ≡ seen j (name - 1) → price_of k name p ≡ price_of j name p
  prices-stay name p same =
      price-is k v.sound name p ∙ price-alone (seen k) (seen j) name same p ∙ sym (price-is j w.sound name p)

  pub askings-stay : (name n b : ℕ) → seen k (name - 1) ≡ seen j (name - 1) → nodes_held k.slots ≡ nodes_held j.slots →
      number_of k (asking name n b) ≡ number_of j (asking name n b)
  askings-stay name n b same h =
      (follows k v (asking name n b)).number
      ∙ asking-alone (seen k) (seen j) name same n b (sym (held-seen k v.sound) ∙ h ∙ held-seen j w.sound)
      ∙ sym (follows j w (asking name n b)).number

-- ---- an asking for a free name
module _ (k : Kept) (v : Valid k) (name n b : ℕ) (low : 1 ≤ name) (high : name ≤ 8) (gone : seen k (name - 1) ≡ absent) (shape : shape_cause n b ≡ 0) where
  free_seen : desk_status (seen k) name ≡ 0
  unfolding desk_status
  free_seen = rw (ne_eqb name 0 (λ z. omega arith), le-ltb 8 name high, gone)

  free : status_of k.slots name ≡ 0
  free = status-is k v.sound name ∙ free_seen

  pub asked-exact : AskedExactly k name n b
  unfolding number_of
  asked-exact =
      record { taken = λ h. ask-taken k.slots name n b free shape h; full = λ h. ask-full k.slots name n b free shape h }

-- ---- a shelf that no calls reach
module _ (k : Kept) (broken : room < nodes_held k.slots) where
  status-3 : (name : ℕ) → status_of k.slots name ≡ 3
  status-3 name =
      by_equal name 0
      (λ (z : name ≡ 0). status-zero k.slots name z)
      (λ (z : name ≡ 0 → ⊥). by_order name 8
      (λ (h : name ≤ 8). status-broken k.slots name z h broken)
      (λ (h : 8 < name). status-high k.slots name h))

  cause-15 : (name : ℕ) → name_cause k.slots name ≡ 15
  cause-15 name = cause-none k.slots name (λ e. omega (arith, status-3 name)) (λ e. omega (arith, status-3 name))

  number-15 : (name : ℕ) (q : Quoted) → commit_number k.slots name q.frequency q.volatility q.rows q.kinds q.figures ≡ 15
  unfolding commit_number
  number-15 name q = rw (status-3 name)

  pub broken-refused : (name : ℕ) → Refused k name
  unfolding number_of price_of shelf_price located_tree
  broken-refused name =
      record {
        asked = λ n b. ask-name k.slots name n b (λ e. omega (arith, status-3 name));
        committed = λ q. number-15 name q;
        released = cause-15 name;
        priced = λ p. rw (cause-15 name);
        located = rw (cause-15 name);
      }

  pub broken-stays : (call : Call) → after k call ≡ k
  unfolding after ask_slots ask_memory commit_slots commit_memory release_slots release_memory
  broken-stays (asking name n b) = rw (ask-name k.slots name n b (λ e. omega (arith, status-3 name)))
  broken-stays (committing name q) = rw (number-15 name q, status-3 name)
  broken-stays (releasing name) = rw (cause-15 name)
  broken-stays (pricing name p) = refl
  broken-stays (locating name) = refl
