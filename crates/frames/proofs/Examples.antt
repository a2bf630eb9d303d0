-- A framed input of two frames, computed.
-- Assumes nothing.
use mathlib.Core.Path.{◌≡◌, refl}
use mathlib.Core.List.{[], ◌∷◌}
use mathlib.Core.Bool.{false}
use Rattle.frames.specs.Frames.{size_at, frame_at, frame_bytes, after_frame}

pub frame-figure : frame_bytes (0 ∷ 2 ∷ 7 ∷ 8 ∷ 0 ∷ 1 ∷ 9 ∷ []) ≡ 7 ∷ 8 ∷ []
unfolding frame_bytes frame_at size_at
frame-figure = refl

pub after-figure : after_frame (0 ∷ 2 ∷ 7 ∷ 8 ∷ 0 ∷ 1 ∷ 9 ∷ []) ≡ 0 ∷ 1 ∷ 9 ∷ []
unfolding after_frame frame_at size_at
after-figure = refl

-- the high byte of a length comes first, so that 256 bytes are missing here
pub cut-figure : (frame_at (1 ∷ 0 ∷ 7 ∷ []) 0).found ≡ false
unfolding frame_at size_at
cut-figure = refl
