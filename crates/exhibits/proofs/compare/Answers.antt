use Prim.Native.Nat.{◌*◌, ◌≤◌}
use native.Mathlib.Omega.{arith}
use native.Mathlib.Nat.{mul-le-mul}
use Rattle.exhibits.proofs.compare.Goals as goal
use Rattle.exhibits.proofs.compare.Goals.{Else-value-gt2000000000, Start}

-- the products of what the contract bounds, and of a value that has passed its test
exact-most : (c : Else-value-gt2000000000) → c.args.value * c.args.scale ≤ 2000000000000
exact-most c =
    mul-le-mul {n₁ = c.args.value} {m₁ = c.args.scale} {n₂ = 2000000000} {m₂ = 1000} c.if-value-gt2000000000.false c.requires.0

shown-most : (s : Start) → s.args.printed * s.args.unit ≤ 6000000000000
shown-most s = mul-le-mul {n₁ = s.args.printed} {m₁ = s.args.unit} {n₂ = 10000} {m₂ = 600000000} s.requires.1 s.requires.2

room_most : (s : Start) → s.args.units * s.args.unit ≤ 1200000000
room_most s = mul-le-mul {n₁ = s.args.units} {m₁ = s.args.unit} {n₂ = 2} {m₂ = 600000000} s.requires.3 s.requires.2

pub overflow_mul-exact : goal.overflow_mul-exact
overflow_mul-exact c = omega (arith, exact-most c)

pub overflow_mul-shown : goal.overflow_mul-shown
overflow_mul-shown c = omega (arith, shown-most (goal.at.overflow_mul-shown c).Start)

pub overflow_mul-room : goal.overflow_mul-room
overflow_mul-room c = omega (arith, room_most (goal.at.overflow_mul-room c).Start)

pub overflow_add-exact : goal.overflow_add-exact
overflow_add-exact c = omega (arith, exact-most c, room_most (goal.at.overflow_add-exact c).Start)

pub overflow_add-shown : goal.overflow_add-shown
overflow_add-shown c = omega (arith, shown-most (goal.at.overflow_add-shown c).Start, room_most (goal.at.overflow_add-shown c).Start)
