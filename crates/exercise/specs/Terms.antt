-- The kinds of option as the code holds them.
-- Assumes nothing.
use Rattle.std.specs.Prelude.{Bool, true, false, ◌||◌, ℕ, eqb}
use Rattle.pricing_laws.specs.Pricer.{Side, call, put}
use Rattle.exercise.specs.declared.Terms.{Terms}

abbrev pub side : Bool → Side
side true = call
side false = put

-- kinds 1 and 3 are calls
unfoldable pub terms_of : ℕ → ℕ → ℕ → Terms
terms_of kind expiry strike = record { call = eqb kind 1 || eqb kind 3; strike = strike; last = expiry }
