-- What a reader of node discounts finds at its place (document 01: the sheet is drawn through a reader that keeps the lent discounts and the next node).
-- Assumes nothing.
use Rattle.std.specs.Prelude.{ℕ, cond, List, length, get_or, ltb, Result, Ok, Err}
use Rattle.arithmetic.specs.Refusals.{number_of}
use Rattle.arithmetic.specs.declared.Refusal.{Refusal}

-- a node's discount that may be refused: its number, and the discount
pub record Node : Type 0 where
  pub number : ℕ
  pub discount : ℕ

-- what the reader answers, as such
abbrev pub node_of : Result ℕ Refusal → Node
node_of (Ok discount) = record { number = 0; discount = discount }
node_of (Err refusal) = record { number = number_of refusal; discount = 0 }

-- the node at a place: number 0 and its discount, or 6 with a zero where there is no node
abbrev pub node_at : List ℕ → ℕ → Node
node_at discounts next = cond (ltb next (length discounts)) (record { number = 0; discount = get_or discounts next 0 }) (record { number = 6; discount = 0 })
