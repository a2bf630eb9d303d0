-- A whole job (document 01, Job and sheet; When the engine declines): its number and its sheet, and what the sheet program prints.
-- Assumes nothing.
use Rattle.std.specs.Prelude.{ℕ, cond, List, eqb, ltb, length}
use Rattle.arithmetic.specs.Answers.{lowest_cause, first_cause}
use Rattle.limits.specs.Limits.{most_discounts, most_state_prices}
use Rattle.job_record.specs.declared.Job.{Job}
use Rattle.job_record.specs.Reader.{reading_of}
use Rattle.job_laws.specs.RecordFit.{job_reversion, job_quotes, job_discounts, job_state_prices}
use Rattle.job_laws.specs.JobPrices.{has_option, job_bond, job_option, record_number}
use Rattle.text_laws.specs.Lines.{refused_line, line_number}
use Rattle.text_laws.specs.Put.{Placed, place_of, with_text}
use Rattle.sheet_room.specs.Room.{sheet_room}
use Rattle.sheet_laws.specs.TreeSheet.{tree_sheet}

-- 6 where the lent room is too short
unfoldable pub room_cause : ℕ → ℕ
room_cause room = cond (ltb room sheet_room) 6 0

module _ (job : Job) where
  -- the lower of the number of the job's prices and of 6 for the room
  unfoldable pub job_number : ℕ → ℕ
  job_number room = lowest_cause (record_number job most_discounts most_state_prices) (room_cause room)

  unfoldable pub job_text : List ℕ
  job_text =
      tree_sheet job.steps (job_reversion job) (job_quotes job) (job_discounts job) (job_state_prices job)
      (job_bond job) (has_option job.option) (job_option job)

-- the number of the whole job, 1 first, and its sheet
unfoldable pub sheet_number : List ℕ → ℕ → ℕ
sheet_number bytes room = first_cause (reading_of bytes).number (job_number (reading_of bytes).job room)

abbrev pub sheet_text : List ℕ → List ℕ
sheet_text bytes = job_text (reading_of bytes).job

-- the room afterwards: the sheet at its end, or all as it was
abbrev pub sheet_memory : List ℕ → List ℕ → List ℕ
sheet_memory bytes out = with_text (sheet_number bytes (length out)) out (length out) (sheet_text bytes)

-- what the sheet program prints: the sheet, or `refused` and the number; 6 where not even that line has room
unfoldable pub printed_text : List ℕ → ℕ → List ℕ
printed_text bytes room = cond (eqb (sheet_number bytes room) 0) (sheet_text bytes) (refused_line (sheet_number bytes room))

unfoldable pub printed_number : List ℕ → ℕ → ℕ
printed_number bytes room = cond (eqb (sheet_number bytes room) 0) 0 (line_number room room)

-- the answer, and the room afterwards
abbrev pub printed_answer : List ℕ → List ℕ → Placed
printed_answer bytes out = place_of (printed_number bytes (length out)) (length out) (printed_text bytes (length out))

abbrev pub printed_memory : List ℕ → List ℕ → List ℕ
printed_memory bytes out = with_text (printed_number bytes (length out)) out (length out) (printed_text bytes (length out))
