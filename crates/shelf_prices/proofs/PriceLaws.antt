-- What the price entries answer, by what the code found, over plain variables.
-- Assumes nothing.
use mathlib.Core.Path.{◌≡◌, refl, ap, ap₂, ◌∙◌}
use Prim.Native.Nat.{ℕ, ◌+◌, ◌-◌}
use mathlib.Core.List.{List}
use borrow.Author.Tests.{eq-eqb, ne_eqb}
use lib.ListN.{take, drop}
use Rattle.price_laws.specs.declared.Price.{Price}
use Rattle.price_laws.specs.declared.BondAndOption.{BondAndOption}
use Rattle.price_laws.specs.declared.BondAndOptionValues.{BondAndOptionValues}
use Rattle.price_laws.specs.declared.Strip.{Strip}
use Rattle.price_laws.specs.Prices.{refused_price, priced, value_alone, with_bound}
use Rattle.price_laws.specs.Strips.{refused_strip, strip_answer, each_with}
use Rattle.price_laws.proofs.StripLaws.{strip-alike}
use Rattle.arithmetic.specs.declared.Answer.{Answer}
use Rattle.arithmetic.proofs.Implied.{Implied, lastly, ◌▸◌}
use Rattle.shelf_laws.specs.declared.Slot.{Slot}
use Rattle.shelf_laws.specs.declared.Located.{Located}
use Rattle.shelf_laws.specs.Shelf.{name_cause, located_tree}
use Rattle.shelf_laws.proofs.PartLaws.{lent-part}
use Rattle.shelf_laws.proofs.NameLaws.{none_found, tree-found}
use Rattle.shelf_prices.specs.ShelfPrices.{shelf_price, shelf_strip}

-- a value with the bound that its tree carries
pub carried-refused : (value : Answer) (bound : ℕ) → (value.number ≡ 0 → ⊥) →
    ◌≡◌ {A = Price} (record { number = value.number; value = 0; bound = 0 }) (with_bound value bound)
unfolding priced
carried-refused value bound z = rw (ne_eqb value.number 0 z)

pub carried-given : (value : Answer) (bound : ℕ) → value.number ≡ 0 →
    ◌≡◌ {A = Price} (record { number = 0; value = value.value; bound = bound }) (with_bound value bound)
unfolding priced
carried-given value bound z = rw (eq-eqb value.number 0 z)

-- one price
module _ (price : ℕ → ℕ → List ℕ → Price) (slots : List Slot) (m : List ℕ) (name : ℕ) {l : Located} (e : l ≡ located_tree slots name) where
  pub price-none : l.status ≡ 0 → refused_price 15 ≡ shelf_price price slots m name
  unfolding shelf_price
  price-none h = rw (none_found slots name l e h)

  -- the value of the plain entry on the tree's part, with the bound that the tree carries
  pub price-there : (l.status ≡ 0 → ⊥) → (value : Answer) →
      value ≡ value_alone (price l.steps l.reversion (take (l.start + l.count - l.start) (drop l.start m))) →
      (x : Price) → x ≡ with_bound value l.bound → x ≡ shelf_price price slots m name
  unfolding shelf_price
  price-there h value ev x ex =
      let t = tree-found slots name l e h in
      ex
      ∙ ap (λ (v : Answer). with_bound v l.bound) ev
      ∙ ap (λ (d : List ℕ). with_bound (value_alone (price l.steps l.reversion d)) l.bound) (lent-part m l.start l.count)
      ∙ rw (t.steps-is, t.reversion-is, t.start_is, t.count-is, t.bound-is, eq-eqb (name_cause slots name) 0 t.cause)

-- two prices at once
module _ {bond option : ℕ → ℕ → List ℕ → Price} {slots : List Slot} {m : List ℕ} {name : ℕ} {l : Located}
    (_ : Implied (bond ▸ option ▸ slots ▸ m ▸ lastly name)) (e : l ≡ located_tree slots name) where
  abbrev both : BondAndOption
  both = record { bond = shelf_price bond slots m name; option = shelf_price option slots m name }

  paired : {b o : Price} → b ≡ shelf_price bond slots m name → o ≡ shelf_price option slots m name → record { bond = b; option = o } ≡ both
  paired eb eo = ap₂ (λ (x y : Price). record { bond = x; option = y }) eb eo

  pub both-none : l.status ≡ 0 → record { bond = refused_price 15; option = refused_price 15 } ≡ both
  both-none h = paired (price-none bond slots m name e h) (price-none option slots m name e h)

  pub both-there : (l.status ≡ 0 → ⊥) → (values : BondAndOptionValues) →
      values
      ≡ record {
        bond = value_alone (bond l.steps l.reversion (take (l.start + l.count - l.start) (drop l.start m)));
        option = value_alone (option l.steps l.reversion (take (l.start + l.count - l.start) (drop l.start m)));
      } →
      (b o : Price) → b ≡ with_bound values.bond l.bound → o ≡ with_bound values.option l.bound → record { bond = b; option = o } ≡ both
  both-there h values ev b o eb eo =
      paired
      (price-there bond slots m name e h values.bond (ap (λ (v : BondAndOptionValues). v.bond) ev) b eb)
      (price-there option slots m name e h values.option (ap (λ (v : BondAndOptionValues). v.option) ev) o eo)

-- a strip: the price of place k of a tree
module _ (price : ℕ → ℕ → List ℕ → ℕ → Price) (slots : List Slot) (m : List ℕ) (name count : ℕ) (l : Located)
    (e : l ≡ located_tree slots name) where
  abbrev on-shelf : ℕ → Price
  on-shelf k = shelf_price (λ (n b : ℕ) (d : List ℕ). price n b d k) slots m name

  pub strip-none : l.status ≡ 0 → refused_strip 15 ≡ shelf_strip slots name count on-shelf
  unfolding shelf_strip
  strip-none h = rw (none_found slots name l e h)

  pub strip-there : (l.status ≡ 0 → ⊥) → (x : Strip) →
      x ≡ strip_answer l.steps l.reversion count
      (each_with l.bound (price l.steps l.reversion (take (l.start + l.count - l.start) (drop l.start m)))) →
      x ≡ shelf_strip slots name count on-shelf
  unfolding shelf_strip
  strip-there h x ex =
      let t = tree-found slots name l e h in
      ex
      ∙ strip-alike l.steps l.reversion count _ on-shelf
      (λ k. price-there (λ (n b : ℕ) (d : List ℕ). price n b d k) slots m name e h _ refl _ refl)
      ∙ ap₂ (λ (n b : ℕ). strip_answer n b count on-shelf) t.steps-is t.reversion-is
      ∙ rw (eq-eqb (name_cause slots name) 0 t.cause)
