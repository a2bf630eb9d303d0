use mathlib.Core.Path.{sym}
use Prim.Native.Nat.{◌≤◌}
use native.Mathlib.Omega.{arith}
use lib.ListN.{length}
use Rattle.std.proofs.lemmas.Result.{err_from_is_err_and}
use Rattle.arithmetic.proofs.RefusalLaws.{refusal-some}
use Rattle.text_laws.specs.Lines.{row_word, row_line, longest_line}
use Rattle.text_laws.proofs.DecimalLaws.{field_room}
use Rattle.text_laws.proofs.LineLaws as laws
use Rattle.text_laws.proofs.LineLaws.{room-known, line_refused, line-put, room-left, bounded-room}
use Rattle.text_laws.proofs.PutLaws.{put-before}
use Rattle.text.proofs.row_line.Goals as goal
use Rattle.text.proofs.row_line.Goals.{After-put_bounded-total_start, After-put_field-quote_start, In_ok-line_cause}

clauses-value-out_after : {A B : Type 0} → A × B → record { value : A; out_after : B }
clauses-value-out_after w = record { value = w.0; out_after = w.1 }

pub returns-in_err-line_cause : goal.returns-in_err-line_cause
returns-in_err-line_cause c =
    let p = err_from_is_err_and c.from_residual.result c.from_residual.ensures.1 in
    rw (p.1, p.2) (clauses-value-out_after (line_refused c.args.out.now c.args.end _ _ c.in_err-line_cause.ensures (refusal-some _)))

room : (c : In_ok-line_cause) → (longest_line ≤ c.args.end) × (c.args.end ≤ length c.args.out.now)
room c =
    let a = c.args in
    room-known (length a.out.now) a.end (sym c.in_ok-line_cause.ensures)

pub put_bounded-total_start-requires : goal.put_bounded-total_start-requires
put_bounded-total_start-requires c =
    let r = room (goal.at.put_bounded-total_start-requires c).In_ok-line_cause in
    (omega (arith, r.0), r.1)

total-put : (c : After-put_bounded-total_start) →
    (75 ≤ c.put_bounded-total_start.result) × (c.put_bounded-total_start.result ≤ length c.put_bounded-total_start.new.out)
total-put c =
    room-left 53 75 c.put_bounded-total_start.ensures (omega (arith, (room (goal.at.After-put_bounded-total_start c).In_ok-line_cause).0))
    (bounded-room c.args.total c.args.bound c.ranges.total.fits c.ranges.bound.fits)

pub put_field-quote_start-requires : goal.put_field-quote_start-requires
put_field-quote_start-requires c =
    let r = total-put (goal.at.put_field-quote_start-requires c).After-put_bounded-total_start in
    (omega arith, omega (arith, field_room 9 c.args.quote 32 c.ranges.quote.fits), r.1)

quote-put : (c : After-put_field-quote_start) →
    (44 ≤ c.put_field-quote_start.result) × (c.put_field-quote_start.result ≤ length c.put_field-quote_start.new.out)
quote-put c =
    let r = total-put (goal.at.After-put_field-quote_start c).After-put_bounded-total_start in
    room-left 31 44 c.put_field-quote_start.ensures (omega arith) (field_room 9 c.args.quote 32 c.ranges.quote.fits)

pub put_label-requires : goal.put_label-requires
put_label-requires c = let r = quote-put (goal.at.put_label-requires c).After-put_field-quote_start in (omega arith, r.1)

pub returns : goal.returns
unfolding row_line
returns c =
    let a = c.args in
    let fields = put-before c.put_bounded-total_start.ensures c.put_field-quote_start.ensures in
    clauses-value-out_after
    (line-put a.out.now a.end _ (room (goal.at.returns c).In_ok-line_cause).0 (laws.put-label row_word _ fields c.put_label.ensures))
