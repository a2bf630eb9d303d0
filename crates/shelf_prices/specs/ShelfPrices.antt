-- Prices on the trees of a shelf (document 02, requests (vii), (viii) and (x)): 15 for the name, or number and value of what a plain entry answers for
-- the tree's discounts, with the error bound that the slot carries. For any slots and any memory.
-- Assumes nothing.
use Rattle.std.specs.Prelude.{ℕ, cond, List, eqb, length}
use Rattle.arithmetic.specs.Row.{values}
use Rattle.price_laws.specs.declared.Price.{Price}
use Rattle.price_laws.specs.declared.BondAndOption.{BondAndOption}
use Rattle.price_laws.specs.declared.Strip.{Strip}
use Rattle.price_laws.specs.Prices.{refused_price, value_alone, with_bound, bond_price, option_price, dated_price}
use Rattle.price_laws.specs.Strips.{refused_strip, strip_answer}
use Rattle.shelf_laws.specs.declared.Slot.{Slot}
use Rattle.shelf_laws.specs.Shelf.{slot_of, discounts_of, name_cause}

unfoldable pub shelf_price : (ℕ → ℕ → List ℕ → Price) → List Slot → List ℕ → ℕ → Price
shelf_price price slots memory name =
    cond (eqb (name_cause slots name) 0)
    (with_bound (value_alone (price (slot_of slots name).steps (slot_of slots name).reversion (discounts_of slots memory name))) (slot_of slots name).bound)
    (refused_price 15)

abbrev pub shelf_bond : List Slot → List ℕ → ℕ → List ℕ → Price
shelf_bond slots memory name flows = shelf_price (λ n b discounts. bond_price n b discounts flows) slots memory name

abbrev pub shelf_option : List Slot → List ℕ → ℕ → List ℕ → ℕ → ℕ → ℕ → Price
shelf_option slots memory name flows kind expiry strike =
    shelf_price (λ n b discounts. option_price n b discounts flows kind expiry strike) slots memory name

abbrev pub shelf_dated : List Slot → List ℕ → ℕ → List ℕ → ℕ → List ℕ → ℕ → Price
shelf_dated slots memory name flows side dates strike =
    shelf_price (λ n b discounts. dated_price n b discounts flows side dates strike) slots memory name

-- a bond and an option on it, each as its own entry answers

abbrev pub shelf_bond_and_option : List Slot → List ℕ → ℕ → List ℕ → ℕ → ℕ → ℕ → BondAndOption
shelf_bond_and_option slots memory name flows kind expiry strike =
    record { bond = shelf_bond slots memory name flows; option = shelf_option slots memory name flows kind expiry strike }

abbrev pub shelf_bond_and_dated : List Slot → List ℕ → ℕ → List ℕ → ℕ → List ℕ → ℕ → BondAndOption
shelf_bond_and_dated slots memory name flows side dates strike =
    record { bond = shelf_bond slots memory name flows; option = shelf_dated slots memory name flows side dates strike }

-- a strip: 15 for the name, or the strip's own causes; each answer is that of the entry for its strike alone

unfoldable pub shelf_strip : List Slot → ℕ → ℕ → (ℕ → Price) → Strip
shelf_strip slots name count price =
    cond (eqb (name_cause slots name) 0) (strip_answer (slot_of slots name).steps (slot_of slots name).reversion count price) (refused_strip 15)

abbrev pub shelf_dated_strip : List Slot → List ℕ → ℕ → List ℕ → ℕ → List ℕ → List ℕ → Strip
shelf_dated_strip slots memory name flows side dates strikes =
    shelf_strip slots name (length strikes) (λ k. shelf_dated slots memory name flows side dates (values strikes k))

abbrev pub shelf_kind_strip : List Slot → List ℕ → ℕ → List ℕ → ℕ → ℕ → List ℕ → Strip
shelf_kind_strip slots memory name flows kind expiry strikes =
    shelf_strip slots name (length strikes) (λ k. shelf_option slots memory name flows kind expiry (values strikes k))
