-- A frame by the tests that the code makes.
-- Assumes nothing.
use mathlib.Core.Path.{◌≡◌, refl, sym, ap, ◌∙◌}
use mathlib.Core.Bool.{Bool, true, false, cond, true≢false}
use mathlib.Core.List.{List}
use Prim.Native.Nat.{ℕ, ◌+◌, ◌*◌, ◌≤◌, ◌<◌}
use native.Mathlib.Omega.{arith}
use lib.ListN.{length, get_or, take, drop}
use lib.Seq.{drop-drop}
use borrow.Author.Tests.{le-leb, lt-leb}
use Rattle.frames.specs.declared.Frame.{Frame}
use Rattle.frames.specs.Frames.{size_at, no_frame, frame_at, frame_bytes, after_frame}

abbrev pub Framed : List ℕ → ℕ → Frame → Type 0
Framed input at r = (r ≡ frame_at input at) × (r.start + r.size ≤ length input)

module _ (input : List ℕ) (at : ℕ) where
  pub cut_short : (r : Frame) → r ≡ no_frame → length input < at + 2 + size_at input at → Framed input at r
  unfolding frame_at
  cut_short r e h = rw e (rw (lt-leb (at + 2 + size_at input at) (length input) h), omega arith)

  module _ (size : ℕ) (e : size ≡ get_or input at 0 * 256 + get_or input (at + 1) 0) where
    size_is : size ≡ size_at input at
    unfolding size_at
    size_is = e

    pub frame-cut : (r : Frame) → r ≡ no_frame → length input < at + 2 + size → Framed input at r
    frame-cut r n h = cut_short r n (omega (arith, size_is))

    pub frame_found : at + 2 + size ≤ length input → Framed input at (record { found = true; start = at + 2; size = size })
    unfolding frame_at
    frame_found h = (rw (size_is, le-leb (at + 2 + size_at input at) (length input) (omega (arith, size_is))), h)

-- a frame that is there starts behind its length
pub frame-start : (input : List ℕ) → (frame_at input 0).found ≡ true → (frame_at input 0).start ≡ 2
unfolding frame_at
frame-start input h = go _ h
  where
    go : (b : Bool) → (cond b (record { found = true; start = 2; size = size_at input 0 }) no_frame).found ≡ true
        → (cond b (record { found = true; start = 2; size = size_at input 0 }) no_frame).start ≡ 2
    go true e = refl
    go false e = absurd (true≢false (sym e))

-- the frame and what follows it, cut off in turn
pub frame-parts : (input whole frame after : List ℕ) → (frame_at input 0).found ≡ true → whole ≡ drop (frame_at input 0).start input
    → frame ≡ take (frame_at input 0).size whole → after ≡ drop (frame_at input 0).size whole
    → ((frame_at input 0).found ≡ true) × (frame ≡ frame_bytes input) × (after ≡ after_frame input)
unfolding frame_bytes after_frame
frame-parts input whole frame after h w f a =
    let e : whole ≡ drop 2 input = w ∙ ap (λ (start : ℕ). drop start input) (frame-start input h) in
    (h, f ∙ ap (take (frame_at input 0).size) e, a ∙ ap (drop (frame_at input 0).size) e ∙ drop-drop (frame_at input 0).size 2 input)
