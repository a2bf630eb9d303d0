-- A strip of strikes (document 02, request (x)): up to 16 of one side and one list of dates, or of one kind and expiry, each answer what a call for that
-- strike alone gives.
-- Assumes nothing.
use Rattle.std.specs.Prelude.{◌≡◌, cond, ◌&&◌, List, ℕ, ◌≤◌, ◌<◌, eqb, leb, length, replicate}
use Rattle.arithmetic.specs.Row.{values, padded}
use Rattle.limits.specs.Limits.{shape_cause}
use Rattle.price_laws.specs.declared.Price.{Price}
use Rattle.price_laws.specs.declared.Strip.{Strip}
use Rattle.arithmetic.specs.Answers.{first_cause}
use Rattle.price_laws.specs.Prices.{refused_price, value_alone, with_bound, option_price, dated_price}

abbrev pub most_strikes : ℕ
most_strikes = 16

-- the strip's own causes: 3, then 4, then 6 for no strike or more than 16; 0 where there is none
unfoldable pub strip_cause : ℕ → ℕ → ℕ → ℕ
strip_cause n b count = first_cause (shape_cause n b) (cond (leb 1 count && leb count most_strikes) 0 6)

-- a refusal's number with zeros
abbrev pub refused_strip : ℕ → Strip
refused_strip cause =
    record { number = cause; numbers = replicate most_strikes 0; values = replicate most_strikes 0; bounds = replicate most_strikes 0 }

-- answers in the order handed in, one for each strike, zeros after them
abbrev pub strip_of : ℕ → (ℕ → Price) → Strip
strip_of count price =
    record {
      number = 0;
      numbers = padded most_strikes count (λ k. (price k).number);
      values = padded most_strikes count (λ k. (price k).value);
      bounds = padded most_strikes count (λ k. (price k).bound);
    }

-- the strip of a tree of n steps and reversion b, by the answer of each place
unfoldable pub strip_answer : ℕ → ℕ → ℕ → (ℕ → Price) → Strip
strip_answer n b count price = cond (eqb (strip_cause n b count) 0) (strip_of count price) (refused_strip (strip_cause n b count))

module _ (n b : ℕ) (discounts flows : List ℕ) where
  -- the answer of place k: what a call for that strike alone gives, on listed rows and of a kind
  abbrev pub strike_price : ℕ → List ℕ → List ℕ → ℕ → Price
  strike_price side dates strikes k = dated_price n b discounts flows side dates (values strikes k)

  abbrev pub kind_price : ℕ → ℕ → List ℕ → ℕ → Price
  kind_price kind expiry strikes k = option_price n b discounts flows kind expiry (values strikes k)

  abbrev pub option_strip : ℕ → List ℕ → List ℕ → Strip
  option_strip side dates strikes = strip_answer n b (length strikes) (strike_price side dates strikes)

  abbrev pub kind_strip : ℕ → ℕ → List ℕ → Strip
  kind_strip kind expiry strikes = strip_answer n b (length strikes) (kind_price kind expiry strikes)

-- the answers of the places with an error bound that is known
abbrev pub each_with : ℕ → (ℕ → Price) → ℕ → Price
each_with bound price k = with_bound (value_alone (price k)) bound

-- ---- what is read off a strip

-- place k holds a price, whole
pub record Placed (s : Strip) (k : ℕ) (price : Price) : Type 0 where
  pub number : values s.numbers k ≡ price.number
  pub value : values s.values k ≡ price.value
  pub bound : values s.bounds k ≡ price.bound

-- 16 places, an answer for each of so many strikes in the order handed in, and zeros after them; a strip that is refused has zeros alone
pub record Shown (s : Strip) (count : ℕ) (price : ℕ → Price) : Type 0 where
  pub places : (length s.numbers ≡ 16) × (length s.values ≡ 16) × (length s.bounds ≡ 16)
  pub answered : s.number ≡ 0 → (k : ℕ) → k < count → Placed s k (price k)
  pub past : (k : ℕ) → count ≤ k → Placed s k (refused_price 0)
  pub refused : (s.number ≡ 0 → ⊥) → (k : ℕ) → Placed s k (refused_price 0)
