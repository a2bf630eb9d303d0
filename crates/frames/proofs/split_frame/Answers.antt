use Rattle.std.proofs.Common.{arith, ap, sym, ◌∙◌, ◌≡◌, not, Bool, true, false, true≢false, refl, length, length-drop}
use Rattle.frames.specs.declared.Frame.{Frame}
use Rattle.frames.proofs.FrameLaws as laws
use Rattle.frames.proofs.split_frame.Goals as goal

there : (found : Bool) → not found ≡ false → found ≡ true
there true h = refl
there false h = absurd (true≢false h)

pub returns-clause-frame : goal.returns-clause-frame
returns-clause-frame c =
    let found = there c.frame_at-frame.result.found c.if-not-frame.false in
    let e = c.frame_at-frame.ensures.frame in
    let known = sym (ap (λ (f : Frame). f.found) e) ∙ found in
    laws.frame-parts c.args.input.now c.split_at.result.1.now _ _ known (rw (sym e) c.split_at.ensures.back)
    (rw (sym e) c.split_at-2.ensures.front) (rw (sym e) c.split_at-2.ensures.back)

pub returns-clause-shorter : goal.returns-clause-shorter
returns-clause-shorter c =
    let found = there c.frame_at-frame.result.found c.if-not-frame.false in
    let e = c.frame_at-frame.ensures.frame in
    let known = sym (ap (λ (f : Frame). f.found) e) ∙ found in
    let start : c.frame_at-frame.result.start ≡ 2 = rw e (laws.frame-start c.args.input.now known) in
    let back = ap length c.split_at.ensures.back ∙ length-drop c.frame_at-frame.result.start c.args.input.now in
    let rest = ap length c.split_at-2.ensures.back ∙ length-drop c.frame_at-frame.result.size c.split_at.result.1.now in
    omega (arith, start, back, rest, c.frame_at-frame.ensures.inside)
