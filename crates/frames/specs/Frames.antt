-- Framed input: each frame stands after its length in two bytes, high byte first.
-- Assumes nothing.
use Rattle.std.specs.Prelude.{ℕ, ◌+◌, ◌*◌, true, false, cond, List, leb, length, get_or, take, drop}
use Rattle.frames.specs.declared.Frame.{Frame}

-- room for the inputs of the programs here
abbrev pub input_room : ℕ
input_room = 262144

-- the length that stands at a place
unfoldable pub size_at : List ℕ → ℕ → ℕ
size_at input at = get_or input at 0 * 256 + get_or input (at + 1) 0

abbrev pub no_frame : Frame
no_frame = record { found = false; start = 0; size = 0 }

-- the frame whose length stands at a place; none where it is cut short
unfoldable pub frame_at : List ℕ → ℕ → Frame
frame_at input at = cond (leb (at + 2 + size_at input at) (length input)) (record { found = true; start = at + 2; size = size_at input at }) no_frame

-- the bytes of the frame that the input begins with
unfoldable pub frame_bytes : List ℕ → List ℕ
frame_bytes input = take (frame_at input 0).size (drop 2 input)

-- what follows that frame
unfoldable pub after_frame : List ℕ → List ℕ
after_frame input = drop (2 + (frame_at input 0).size) input
