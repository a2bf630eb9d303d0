use mathlib.Core.Path.{◌≡◌, sym, ◌∙◌, ap}
use mathlib.Core.Bool.{false}
use Prim.Native.Nat.{ℕ, ◌≤◌}
use native.Mathlib.Omega.{arith}
use lib.Dec.{T}
use mir.Syntax.{w64}
use mir.Facts.{to_z_pos}
use lib.Ieee.{Float, binary64, fits}
use borrow.Author.Rules.{rules}
use Rattle.figure.specs.Figure.{beyond, accepted_figure}
use Rattle.figure.proofs.FigureLaws.{figure-refused, figure-accepted, not-nan, field-small, size_small, plus, minus}
use Rattle.arithmetic.proofs.Signed.{minus-fits, minus-back}
use Rattle.figure.proofs.billionths.Goals as goal
use Rattle.figure.proofs.billionths.Goals.{After-magnitude-size, Else-is_beyond}

pub returns-then-is_beyond : goal.returns-then-is_beyond
returns-then-is_beyond c = sym (figure-refused c.before.before.args.x (sym c.before.is_beyond.ensures ∙ c.if-is_beyond.true))

-- what is known where the test has passed
in-format : (c : Else-is_beyond) → T (fits binary64 c.before.before.args.x)
in-format c = search rules

within : (c : Else-is_beyond) → beyond c.before.before.args.x ≡ false
within c = sym c.before.is_beyond.ensures ∙ c.if-is_beyond.false

pub float_to_bits-bits : goal.float_to_bits-bits
float_to_bits-bits c = not-nan c.before.before.args.x (within c)

pub magnitude-size-requires : goal.magnitude-size-requires
magnitude-size-requires c = field-small c.before.before.args.x (in-format c) (within c)

small : (c : After-magnitude-size) → c.magnitude-size.result ≤ 10000000000
small c =
    size_small c.before.before.before.args.x (in-format c.before) (within c.before) c.magnitude-size.result
    c.magnitude-size.ensures

pub overflow_cast-result : goal.overflow_cast-result
overflow_cast-result c = record { sfits = omega (arith, small c.before) }

pub returns-then-bits-lt9223372036854775808 : goal.returns-then-bits-lt9223372036854775808
returns-then-bits-lt9223372036854775808 c =
    let x : Float = c.before.before.before.before.args.x in
    let m : ℕ = c.before.magnitude-size.result in
    let e = c.before.before in
    ap accepted_figure
    (to_z_pos w64 (omega (arith, small c.before))
    ∙ sym (plus x (in-format e) (within e) m c.before.magnitude-size.ensures c.if-bits-lt9223372036854775808.true))
    ∙ sym (figure-accepted x (within e))

pub overflow_cast-result-2 : goal.overflow_cast-result-2
overflow_cast-result-2 c = record { sfits = omega (arith, small c.before) }

pub overflow_sub-result : goal.overflow_sub-result
overflow_sub-result c = minus-fits c.before.magnitude-size.result (omega (arith, small c.before))

pub returns : goal.returns
returns c =
    let x : Float = c.before.before.before.before.args.x in
    let m : ℕ = c.before.magnitude-size.result in
    let e = c.before.before in
    ap accepted_figure
    (minus-back m (omega (arith, small c.before))
    ∙ sym (minus x (in-format e) (within e) m c.before.magnitude-size.ensures c.if-bits-lt9223372036854775808.false))
    ∙ sym (figure-accepted x (within e))
