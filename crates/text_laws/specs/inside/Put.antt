-- A text that stands in a lent buffer up to a place.
-- Assumes nothing.
use Rattle.std.specs.Prelude.{ℕ, ◌+◌, ◌≤◌, ◌≡◌, List, length}
use Rattle.text_laws.specs.Put.{put_before}

-- the text stands in `after` from `start` to the place `end`, everything else as it was in `out`
pub record Put (out : List ℕ) (end : ℕ) (text : List ℕ) (start : ℕ) (after : List ℕ) : Type 0 where
  pub place : start + length text ≡ end
  pub within : end ≤ length out
  pub same : length after ≡ length out
  pub memory : after ≡ put_before out end text
