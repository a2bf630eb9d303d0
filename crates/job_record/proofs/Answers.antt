use mathlib.Core.Bool.{Bool, true, false, ◌&&◌}
use mathlib.Core.Path.{◌≡◌, refl, sym, ◌∙◌}

-- From what a call that tests says of its answer, and the branch on it, to the tested fact; and the parts of a test.
-- Assumes nothing.

-- after `if !f(..) { return .. }`
pub passed : {r t : Bool} → r ≡ t → r ≡ true → t ≡ true
passed e h = sym e ∙ h

pub failed : {r t : Bool} → r ≡ t → r ≡ false → t ≡ false
failed e h = sym e ∙ h

-- the parts of a test that holds. The first test is given: antt finds the second
pub first : (a b : Bool) → (a && b) ≡ true → a ≡ true
first true b h = refl
first false b h = h

pub second : (a : Bool) {b : Bool} → (a && b) ≡ true → b ≡ true
second true h = h
second false h = cc

-- and back
pub both : {a b : Bool} → a ≡ true → b ≡ true → (a && b) ≡ true
both {a} {b} p q = rw (p, q)
