-- The promises of a shelf are kept.
-- Assumes nothing.
use mathlib.Core.Path.{◌≡◌, refl}
use mathlib.Core.Bool.{Bool, true, false, cond}
use mathlib.Core.List.{List}
use Prim.Native.Nat.{ℕ}
use native.Mathlib.Omega.{arith}
use lib.Dec.{eqb}
use lib.ListN.{length}
use Rattle.arithmetic.specs.Row.{values}
use Rattle.arithmetic.proofs.Numbers.{by-test}
use Rattle.price_laws.specs.declared.Price.{Price}
use Rattle.price_laws.specs.declared.Strip.{Strip}
use Rattle.price_laws.specs.Strips.{strip_cause, refused_strip, strip_answer, Shown}
use Rattle.price_laws.proofs.StripLaws.{answer-shown, refused-shown, strip-number}
use Rattle.shelf_laws.specs.Shelf.{slot_of, name_cause}
use Rattle.shelf_prices.specs.ShelfPrices.{shelf_bond_and_option, shelf_bond_and_dated, shelf_strip, shelf_dated_strip, shelf_kind_strip}
use Rattle.shelf_promises.specs.Model.{Pricing, bond, option, dated, pricing, locating}
use Rattle.shelf_promises.specs.History.{Kept, price_of, after}
use Rattle.shelf_promises.specs.ShelfPromises.{ShelfPromises}
use Rattle.shelf_promises.proofs.DeskLaws.{held-seen, price-is}
use Rattle.shelf_promises.proofs.Histories.{follows, valid, history-is, held-is, own-commit-is}
use Rattle.shelf_promises.proofs.Alone.{others-stay, number-alone, prices-stay, askings-stay, asked-exact, broken-refused, broken-stays}
use Rattle.shelf_promises.proofs.Prices.{plain-is, unfitted-is, commit-is-fit, fitted-is, accurate-is, parts_are}

pricing-stays : (k : Kept) (name : ℕ) (p : Pricing) → after k (pricing name p) ≡ k
unfolding after
pricing-stays k name p = refl

locating-stays : (k : Kept) (name : ℕ) → after k (locating name) ≡ k
unfolding after
locating-stays k name = refl

kinds-pair : (k : Kept) (name : ℕ) (flows : List ℕ) (kind expiry strike : ℕ) →
    shelf_bond_and_option k.slots k.memory name flows kind expiry strike
    ≡ record { bond = price_of k name (bond flows); option = price_of k name (option flows kind expiry strike) }
unfolding price_of
kinds-pair k name flows kind expiry strike = refl

lists-pair : (k : Kept) (name : ℕ) (flows : List ℕ) (side : ℕ) (dates : List ℕ) (strike : ℕ) →
    shelf_bond_and_dated k.slots k.memory name flows side dates strike
    ≡ record { bond = price_of k name (bond flows); option = price_of k name (dated flows side dates strike) }
unfolding price_of
lists-pair k name flows side dates strike = refl

-- strips
shelf-shown : (k : Kept) (name count : ℕ) (price : ℕ → Price) → Shown (shelf_strip k.slots name count price) count price
unfolding shelf_strip
shelf-shown k name count price =
    by-test (eqb (name_cause k.slots name) 0) (λ (s : Strip). Shown s count price) _ (refused_strip 15)
    (λ e. answer-shown _ _ count price) (λ e. refused-shown 15 count price (λ z. omega (arith, z)))

lists-shown : (k : Kept) (name : ℕ) (flows : List ℕ) (side : ℕ) (dates strikes : List ℕ) →
    Shown (shelf_dated_strip k.slots k.memory name flows side dates strikes) (length strikes)
    (λ i. price_of k name (dated flows side dates (values strikes i)))
unfolding price_of
lists-shown k name flows side dates strikes = shelf-shown k name (length strikes) _

kinds-shown : (k : Kept) (name : ℕ) (flows : List ℕ) (kind expiry : ℕ) (strikes : List ℕ) →
    Shown (shelf_kind_strip k.slots k.memory name flows kind expiry strikes) (length strikes)
    (λ i. price_of k name (option flows kind expiry (values strikes i)))
unfolding price_of
kinds-shown k name flows kind expiry strikes = shelf-shown k name (length strikes) _

shelf-numbered : (k : Kept) (name count : ℕ) (price : ℕ → Price) →
    (shelf_strip k.slots name count price).number
    ≡ cond (eqb (name_cause k.slots name) 0) (strip_cause (slot_of k.slots name).steps (slot_of k.slots name).reversion count) 15
unfolding shelf_strip
shelf-numbered k name count price = by_name (eqb (name_cause k.slots name) 0)
  where
    n : ℕ
    n = (slot_of k.slots name).steps

    b : ℕ
    b = (slot_of k.slots name).reversion

    by_name : (t : Bool) → (cond t (strip_answer n b count price) (refused_strip 15)).number ≡ cond t (strip_cause n b count) 15
    by_name true = strip-number n b count price
    by_name false = refl

pub shelf-kept : ShelfPromises
shelf-kept =
    record {
      numbers-seen = λ k r call. (follows k (valid k r) call).number;
      prices-seen = λ k r name p. price-is k (valid k r).sound name p;
      trees-seen = λ k r call i. (follows k (valid k r) call).desk i;
      history-seen = history-is;
      nodes-held = held-is;
      nodes-seen = λ k r. held-seen k (valid k r).sound;
      nodes-fit = λ k r. (valid k r).sound.fits;
      asked-exactly = λ k r name n b low high gone shape. asked-exact k (valid k r) name n b low high gone shape;
      trees-good = λ k r i t e. (valid k r).good i t e;
      own-commit = own-commit-is;
      commit-as-fit = λ k r name q t low high found e ds ps h l. commit-is-fit k (valid k r) name q t low high found e ds ps h l;
      others-kept = λ k r call i e. others-stay k (valid k r) call i e;
      numbers-alone = λ k j r s call a same. number-alone k j (valid k r) (valid j s) call a same;
      prices-alone = λ k j r s name p same. prices-stay k j (valid k r) (valid j s) name p same;
      askings-alone = λ k j r s name n b same h. askings-stay k j (valid k r) (valid j s) name n b same h;
      pricing-kept = pricing-stays;
      locating-kept = locating-stays;
      refused-kept = λ k r call z. (follows k (valid k r) call).kept z;
      unfitted-priced = λ k r name t low high found e p. unfitted-is k (valid k r) name t low high found e p;
      fitted-priced = λ k r name t found f p e. fitted-is k (valid k r) name t found f p e;
      prices-plain = λ k r name t low high found p. plain-is k (valid k r) name t low high found p;
      prices-accurate = λ k r name p z. accurate-is k (valid k r) name p z;
      kinds-paired = kinds-pair;
      lists-paired = lists-pair;
      lists-strip = lists-shown;
      kinds-strip = kinds-shown;
      strips-numbered = shelf-numbered;
      parts-shown = λ k r name t low high found. parts_are k (valid k r) name t low high found;
      unreached-refused = λ k h name. broken-refused k h name;
      unreached-kept = λ k h call. broken-stays k h call;
    }
