-- Arguments that a call leaves out, although they stand only under definitions: in the law's signature they are listed in an `Implied`,
-- and the call has one word, `implied`, in their place.
-- Assumes nothing.

pub data Arguments : Type 1 where
  lastly : {A : Type 0} → A → Arguments
  ◌▸◌ : {A : Type 0} → A → Arguments → Arguments

infixr 5 ◌▸◌
pub record Implied (arguments : Arguments) : Type 0 where

pub implied : {arguments : Arguments} → Implied arguments
implied = record {}
