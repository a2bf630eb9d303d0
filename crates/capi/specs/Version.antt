-- The version of the library, as one number.
-- Assumes nothing.
use Rattle.std.specs.Prelude.{ℕ, ◌+◌, ◌*◌}

-- a million for each of its first number, a thousand for each of its second, one for each of its third
abbrev pub version_number : ℕ → ℕ → ℕ → ℕ
version_number major minor patch = major * 1000000 + minor * 1000 + patch

abbrev pub version : ℕ
version = version_number 0 14 2
