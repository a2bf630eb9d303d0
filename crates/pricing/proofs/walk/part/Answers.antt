use mathlib.Core.Path.{◌≡◌, ap}
use Prim.Native.Nat.{ℕ, ◌+◌, ◌-◌}
use native.Mathlib.Omega.{arith}
use lib.ListN.{take, drop}
use Rattle.pricing.proofs.walk.part.Goals as goal

pub returns : goal.returns
returns c =
    let s = c.args in
    let e : s.start + s.count - s.start ≡ s.count = omega arith in
    ap (λ (m : ℕ). take m (drop s.start s.memory.now)) e
