use Rattle.std.proofs.Common.{arith, sym, ◌∙◌, ◌≡◌, ◌+◌, ◌-◌, ◌≤◌, ℕ}
use Rattle.text_laws.specs.Decimal.{last_digits}
use Rattle.text_laws.proofs.DecimalLaws.{digits_step, digits-none, length_digits, fraction-none, fraction-point, fraction-length}
use Rattle.text_laws.proofs.PutLaws.{put-nothing, put-none, put_last, put_whole, put_then}
use Rattle.text.proofs.put_fraction.Goals as goal
use Rattle.text.proofs.put_fraction.Goals.{Else-decimals-eq0}

pub returns-then-decimals-eq0 : goal.returns-then-decimals-eq0
returns-then-decimals-eq0 c =
    rw (fraction-none c.args.decimals c.args.number c.if-decimals-eq0.true) (put-none c.args.out.now c.args.end c.requires.1)

room : (c : Else-decimals-eq0) → 1 + c.args.decimals ≤ c.args.end
room c = omega (arith, fraction-length c.args.decimals c.args.number (omega arith), c.requires.0)

pub overflow_sub-point : goal.overflow_sub-point
overflow_sub-point c = omega (arith, room (goal.at.overflow_sub-point c).Else-decimals-eq0)

pub overflow_sub-point-2 : goal.overflow_sub-point-2
overflow_sub-point-2 c = omega (arith, room (goal.at.overflow_sub-point-2 c).Else-decimals-eq0)

pub bounds-out-point : goal.bounds-out-point
bounds-out-point c = omega (arith, room (goal.at.bounds-out-point c).Else-decimals-eq0)

pub loop-place-init : goal.loop-place-init
loop-place-init c =
    let r = room (goal.at.loop-place-init c).Else-decimals-eq0 in
    let e : c.args.end - (c.args.end - c.args.decimals - 1 + 1) ≡ c.args.decimals = omega arith in
    (omega arith, rw e)

pub loop-place-preserved : goal.loop-place-preserved
loop-place-preserved c =
    let l = c.loop-place in
    let low : ℕ = c.args.end - c.args.decimals - 1 + 1 in
    let left : ℕ = l.place - low in
    let e : l.place - 1 - low ≡ left - 1 = omega arith in (
      omega arith,
      rw e (put_last l.out _ (last_digits left l.rest) _ l.place _ (digits_step left l.rest (omega arith))
          (omega (arith, length_digits left l.rest)) (omega arith) l.invariant.1),
    )

pub returns : goal.returns
returns c =
    let a = c.args in
    let l = c.loop-place in
    let r = room (goal.at.returns c).Else-decimals-eq0 in
    let low : ℕ = a.end - a.decimals - 1 + 1 in
    let e : low - 1 ≡ a.end - a.decimals - 1 = omega arith in
    let reached : l.place ≡ low = omega arith in
    let none = digits-none (l.place - low) l.rest (omega arith) in
    rw (fraction-point a.decimals a.number (omega arith), ← e)
    (put_then 46
    (put_whole a.out.now l.out (last_digits a.decimals a.number) a.end low
    (omega (arith, length_digits a.decimals a.number)) c.requires.1
    (sym (put-nothing l.out low) ∙ rw (none, reached) at l.invariant.1))
    (omega arith))
