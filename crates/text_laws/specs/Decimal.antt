-- Numbers as decimal text in ASCII (document 01, Job and sheet).
-- Assumes nothing.
use Rattle.std.specs.Prelude.{ℕ, zero, suc, ◌+◌, ◌/◌, ◌%◌, ◌^◌, cond, List, [], ◌∷◌, ◌++◌, ltb, ℤ, pos, negsuc, nat_abs}

-- the ASCII code of a digit
abbrev pub digit : ℕ → ℕ
digit d = 48 + d

-- the digits of n without zeros in front, at least one; `most` bounds how many more there may be, and n is enough
unfoldable pub natural_within : ℕ → ℕ → List ℕ
natural_within zero n = digit (n % 10) ∷ []
natural_within (suc most) n = cond (ltb n 10) (digit n ∷ []) (natural_within most (n / 10) ++ (digit (n % 10) ∷ []))

-- a whole number
unfoldable pub natural : ℕ → List ℕ
natural n = natural_within n n

-- the last k digits of n
unfoldable pub last_digits : ℕ → ℕ → List ℕ
last_digits zero n = []
last_digits (suc k) n = last_digits k (n / 10) ++ (digit (n % 10) ∷ [])

-- n over 10 ^ k, with k decimals; without decimals there is no point
unfoldable pub decimal : ℕ → ℕ → List ℕ
decimal zero n = natural n
decimal (suc k) n = natural (n / 10 ^ suc k) ++ (46 ∷ last_digits (suc k) n)

-- the sign is the number's, whatever its whole part is
abbrev pub sign_of : ℤ → List ℕ
sign_of (pos n) = []
sign_of (negsuc n) = 45 ∷ []

-- the same of a number with a sign
unfoldable pub signed_decimal : ℕ → ℤ → List ℕ
signed_decimal k z = sign_of z ++ decimal k (nat_abs z)
