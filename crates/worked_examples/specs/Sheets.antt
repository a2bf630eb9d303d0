-- The figures that document 02 prints (requests (ii) and (vi)), of document 01's own job (Job and sheet), as bytes of the sheet.
-- Assumes nothing.
use Rattle.std.specs.Prelude.{◌≡◌, [], ◌∷◌, ◌++◌, ℕ, ◌≤◌}
use Rattle.job_record.specs.Example.{example_quote, job_with, example}
use Rattle.sheet_room.specs.Room.{sheet_room}
use Rattle.sheet_laws.specs.WholeJob.{printed_text}

pub record Sheets : Type 0 where
  -- the job prints `refused 11`: its option expires on row n
  pub own-job : (room : ℕ) → sheet_room ≤ room → printed_text example room ≡ 114 ∷ 101 ∷ 102 ∷ 117 ∷ 115 ∷ 101 ∷ 100 ∷ 32 ∷ 49 ∷ 49 ∷ 10 ∷ []
  -- without its option record it prints, whole, and with bond allowance 2,
  -- `node 0 0 1.002500000 -0.2493766`
  -- `row 1 1.002500000 1.002499999 4`
  -- `bond 1.002500000 2`
  pub without-option : (room : ℕ) → sheet_room ≤ room →
      printed_text (job_with example_quote []) room
      ≡ (110 ∷ 111 ∷ 100 ∷ 101 ∷ 32 ∷ 48 ∷ 32 ∷ 48 ∷ 32 ∷
      49 ∷ 46 ∷ 48 ∷ 48 ∷ 50 ∷ 53 ∷ 48 ∷ 48 ∷ 48 ∷ 48 ∷ 48 ∷ 32 ∷ 45 ∷ 48 ∷ 46 ∷ 50 ∷ 52 ∷ 57 ∷ 51 ∷ 55 ∷ 54 ∷ 54 ∷ 10 ∷ [])
      ++ ((114 ∷ 111 ∷ 119 ∷ 32 ∷ 49 ∷ 32 ∷
      49 ∷ 46 ∷ 48 ∷ 48 ∷ 50 ∷ 53 ∷ 48 ∷ 48 ∷ 48 ∷ 48 ∷ 48 ∷ 32 ∷
      49 ∷ 46 ∷ 48 ∷ 48 ∷ 50 ∷ 52 ∷ 57 ∷ 57 ∷ 57 ∷ 57 ∷ 57 ∷ 32 ∷ 52 ∷ 10 ∷ [])
      ++ (98 ∷ 111 ∷ 110 ∷ 100 ∷ 32 ∷ 49 ∷ 46 ∷ 48 ∷ 48 ∷ 50 ∷ 53 ∷ 48 ∷ 48 ∷ 48 ∷ 48 ∷ 48 ∷ 32 ∷ 50 ∷ 10 ∷ []))
