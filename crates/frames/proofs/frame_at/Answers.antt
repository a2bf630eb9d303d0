use native.Mathlib.Omega.{arith}
use Rattle.frames.proofs.FrameLaws as laws
use Rattle.frames.proofs.frame_at.Goals as goal

clauses-frame-inside : {A B : Type 0} → A × B → record { frame : A; inside : B }
clauses-frame-inside w = record { frame = w.0; inside = w.1 }

pub returns-then-input-lt2 : goal.returns-then-input-lt2
returns-then-input-lt2 c = clauses-frame-inside (laws.cut_short _ _ _ c.no_frame.ensures (omega (arith, c.if-input-lt2.true)))

pub returns-then-input-at : goal.returns-then-input-at
returns-then-input-at c = clauses-frame-inside (laws.cut_short _ _ _ c.no_frame-then-input-at.ensures (omega (arith, c.if-input-at.true)))

pub returns-then-input-start : goal.returns-then-input-start
returns-then-input-start c =
    clauses-frame-inside (laws.frame-cut _ _ _ c.size_of-size.ensures _ c.no_frame-then-input-start.ensures (omega (arith, c.if-input-start.true)))

pub returns : goal.returns
returns c = clauses-frame-inside (laws.frame_found _ _ _ c.size_of-size.ensures (omega (arith, c.if-input-start.false)))
