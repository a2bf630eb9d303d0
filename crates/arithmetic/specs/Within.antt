-- How far a rounded number may be from an exact one.
-- Assumes nothing.
use Rattle.std.specs.Prelude.{ℕ, ◌+◌, ◌*◌, ◌≤◌}

-- a value within e of an exact number, which is held times m
pub record Within (e m value exact : ℕ) : Type 0 where
  pub above : value * m ≤ exact + e * m
  pub below : exact ≤ (value + e) * m
