-- Causes of refusal about flows and about an option (document 01, When the engine declines).
-- Assumes nothing.
use Rattle.std.specs.Prelude.{ℕ, cond, ◌&&◌, List, eqb, leb, ltb, length}
use Rattle.arithmetic.specs.Row.{values, each, between}

-- a flow is at most 2 × one, a strike at most 4 × one
abbrev pub most_flow : ℕ
most_flow = 2000000000

abbrev pub most_strike : ℕ
most_strike = 4000000000

-- 6: flows not n; 10: a flow above its limit
unfoldable pub flows_cause : ℕ → List ℕ → ℕ
flows_cause n flows = cond (eqb (length flows) n) (cond (each (length flows) (between 0 most_flow (values flows))) 0 10) 6

-- 11: kind, expiry or strike outside its limit; on row n the bond has been repaid, so expiry is 0 to n − 1
unfoldable pub option_cause : ℕ → ℕ → ℕ → ℕ → ℕ
option_cause n kind expiry strike = cond (leb 1 kind && leb kind 4 && ltb expiry n && leb strike most_strike) 0 11

-- 11 of a dated option: a side that is neither 1 nor 2, or a strike above its limit
unfoldable pub terms_cause : ℕ → ℕ → ℕ
terms_cause side strike = cond (leb 1 side && leb side 2 && leb strike most_strike) 0 11
