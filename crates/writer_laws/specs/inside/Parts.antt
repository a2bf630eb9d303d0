-- What the functions that write a record put into its bytes, part by part.
-- Assumes nothing.
use Rattle.std.specs.Prelude.{ℕ, ◌+◌, List, ◌++◌, cond, eqb}
use Rattle.arithmetic.specs.Row.{values}
use Rattle.job_record.specs.Bytes.{number_bytes}
use Rattle.job_record.specs.Form.{after_field, version_at, option_width, list_head}
use Rattle.job_record.specs.Grammar.{field}

-- the fields that stand once, at the front
abbrev pub head_fields : ℕ → ℕ → ℕ → ℕ → List ℕ
head_fields f n b s = field 1 (number_bytes 1 f) ++ (field 2 (number_bytes 1 n) ++ (field 3 (number_bytes 2 b) ++ field 4 (number_bytes 4 s)))

-- where the quotes start: behind the version, or in its place
unfoldable pub quotes_from : ℕ → ℕ
quotes_from v = cond (eqb v 0) version_at (after_field version_at 1)

-- the quote and the flow of a row, from their columns
abbrev pub quote_of : List ℕ → List ℕ → ℕ → List ℕ
quote_of kinds figures i = field (values kinds i) (number_bytes 8 (values figures i))

abbrev pub flow_of : List ℕ → ℕ → List ℕ
flow_of flows i = field 7 (number_bytes 4 (values flows i))

-- the bytes of 08, and of 0A with its dates
abbrev pub kind_bytes : ℕ → ℕ → ℕ → List ℕ
kind_bytes kind expiry strike = number_bytes 1 kind ++ (number_bytes 1 expiry ++ number_bytes 4 strike)

abbrev pub list_bytes : ℕ → ℕ → List ℕ → List ℕ
list_bytes side strike dates = number_bytes 1 side ++ (number_bytes 4 strike ++ dates)

-- how many bytes the field of an option has, by its tag and the number of its dates
unfoldable pub option_size : ℕ → ℕ → ℕ
option_size tag count = cond (eqb tag 8) (after_field 0 option_width) (cond (eqb tag 10) (after_field 0 list_head + count) 0)
