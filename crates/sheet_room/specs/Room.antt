-- Room for every sheet.
-- Assumes nothing.
use Rattle.std.specs.Prelude.{ℕ}

-- the longest sheet has 3,600 nodes, 60 rows and two prices, 128 bytes a line
abbrev pub sheet_room : ℕ
sheet_room = 468736
