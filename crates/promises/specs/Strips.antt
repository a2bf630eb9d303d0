-- Strips of strikes (document 02, request (x)): each answer, price or refusal, is what a call for that strike alone gives, so that all that is promised of
-- such a call holds of it; in the order handed in.
-- Assumes nothing.
use Rattle.std.specs.Prelude.{List, ℕ, length}
use Rattle.arithmetic.specs.Row.{values}
use Rattle.price_laws.specs.Prices.{option_price, dated_price}
use Rattle.price_laws.specs.Strips.{Shown, option_strip, kind_strip}

pub record StripPromises : Type 0 where
  pub listed-strips : (n b : ℕ) (discounts flows : List ℕ) (side : ℕ) (dates strikes : List ℕ) →
      Shown (option_strip n b discounts flows side dates strikes) (length strikes) (λ k. dated_price n b discounts flows side dates (values strikes k))
  pub kind-strips : (n b : ℕ) (discounts flows : List ℕ) (kind expiry : ℕ) (strikes : List ℕ) →
      Shown (kind_strip n b discounts flows kind expiry strikes) (length strikes) (λ k. option_price n b discounts flows kind expiry (values strikes k))
