-- The sheet of document 01's job with an option for today, line by line, and the starred rate, computed.
-- Assumes nothing.
use mathlib.Core.Path.{◌≡◌, refl}
use mathlib.Core.List.{[], ◌∷◌}
use lib.IntN.{pos}
use Rattle.arithmetic.specs.Rounding.{nearest}
use Rattle.step_rate.specs.StepRate.{rate_answer}
use Rattle.text_laws.specs.Decimal.{natural, natural_within, last_digits, decimal, signed_decimal}
use Rattle.text_laws.specs.Lines.{percent, node_line, row_line, price_line, bond_line, option_line, refused_line}

-- `node 0 0 1.002500000 -0.2493766`
pub node-figure :
    node_line 0 (pos 0) 1002500000 (rate_answer 1002500000).value
    ≡ 110 ∷ 111 ∷ 100 ∷ 101 ∷ 32 ∷ 48 ∷ 32 ∷ 48 ∷ 32 ∷
    49 ∷ 46 ∷ 48 ∷ 48 ∷ 50 ∷ 53 ∷ 48 ∷ 48 ∷ 48 ∷ 48 ∷ 48 ∷ 32 ∷
    45 ∷ 48 ∷ 46 ∷ 50 ∷ 52 ∷ 57 ∷ 51 ∷ 55 ∷ 54 ∷ 54 ∷ 10 ∷ []
unfolding natural natural_within last_digits decimal signed_decimal node_line rate_answer nearest
node-figure = refl

-- `row 1 1.002500000 1.002499999 4`
pub row-figure :
    row_line 1 1002500000 1002499999 4
    ≡ 114 ∷ 111 ∷ 119 ∷ 32 ∷ 49 ∷ 32 ∷
    49 ∷ 46 ∷ 48 ∷ 48 ∷ 50 ∷ 53 ∷ 48 ∷ 48 ∷ 48 ∷ 48 ∷ 48 ∷ 32 ∷
    49 ∷ 46 ∷ 48 ∷ 48 ∷ 50 ∷ 52 ∷ 57 ∷ 57 ∷ 57 ∷ 57 ∷ 57 ∷ 32 ∷ 52 ∷ 10 ∷ []
unfolding natural natural_within last_digits decimal signed_decimal row_line
row-figure = refl

-- `bond 1.002500000 2`
pub bond-figure : bond_line 1002500000 2 ≡ 98 ∷ 111 ∷ 110 ∷ 100 ∷ 32 ∷ 49 ∷ 46 ∷ 48 ∷ 48 ∷ 50 ∷ 53 ∷ 48 ∷ 48 ∷ 48 ∷ 48 ∷ 48 ∷ 32 ∷ 50 ∷ 10 ∷ []
unfolding natural natural_within last_digits decimal signed_decimal price_line
bond-figure = refl

-- `option 0.007500000 2`
pub option-figure : option_line 7500000 2 ≡ 111 ∷ 112 ∷ 116 ∷ 105 ∷ 111 ∷ 110 ∷ 32 ∷ 48 ∷ 46 ∷ 48 ∷ 48 ∷ 55 ∷ 53 ∷ 48 ∷ 48 ∷ 48 ∷ 48 ∷ 48 ∷ 32 ∷ 50 ∷ 10 ∷ []
unfolding natural natural_within last_digits decimal signed_decimal price_line
option-figure = refl

-- `refused 12`
pub refused-figure : refused_line 12 ≡ 114 ∷ 101 ∷ 102 ∷ 117 ∷ 115 ∷ 101 ∷ 100 ∷ 32 ∷ 49 ∷ 50 ∷ 10 ∷ []
unfolding natural natural_within last_digits decimal signed_decimal refused_line
refused-figure = refl

-- * a discount of 1,000,000,001 has the rate -1, printed -0.0000001
pub small-rate-figure : percent (rate_answer 1000000001).value ≡ 45 ∷ 48 ∷ 46 ∷ 48 ∷ 48 ∷ 48 ∷ 48 ∷ 48 ∷ 48 ∷ 49 ∷ []
unfolding natural natural_within last_digits decimal signed_decimal rate_answer nearest
small-rate-figure = refl
