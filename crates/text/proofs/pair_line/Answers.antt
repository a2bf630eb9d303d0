use Rattle.std.proofs.Common.{refl}
use Prim.Native.Nat.{◌≤◌}
use native.Mathlib.Omega.{arith}
use lib.ListN.{length}
use Rattle.std.proofs.lemmas.Result.{err_from_is_err_and}
use Rattle.arithmetic.proofs.RefusalLaws.{refusal-some}
use Rattle.text_laws.specs.Lines.{longest_line}
use Rattle.text_laws.specs.WordLines.{pair_line, longest_word}
use Rattle.text_laws.proofs.DecimalLaws.{field_room}
use Rattle.text_laws.proofs.LineLaws.{room-left, put-label}
use Rattle.text_laws.proofs.WordLineLaws.{word-known, word-refused, word-put}
use Rattle.text.proofs.pair_line.Goals as goal
use Rattle.text.proofs.pair_line.Goals.{After-put_field-second_start, In_ok-word_cause}

clauses-value-out_after : {A B : Type 0} → A × B → record { value : A; out_after : B }
clauses-value-out_after w = record { value = w.0; out_after = w.1 }

pub returns-in_err-word_cause : goal.returns-in_err-word_cause
returns-in_err-word_cause c =
    let p = err_from_is_err_and c.from_residual.result c.from_residual.ensures.1 in
    rw (p.1, p.2) (clauses-value-out_after (word-refused c.args.word.now c.args.out.now c.args.end _ _ c.in_err-word_cause.ensures (refusal-some _)))

room : (c : In_ok-word_cause) →
    (length c.args.word.now ≤ longest_word) × (longest_line ≤ c.args.end)
    × (c.args.end ≤ length c.args.out.now)
room c =
    let a = c.args in
    word-known (length a.word.now) (length a.out.now) a.end _ c.in_ok-word_cause.ensures refl

pub put_field-second_start-requires : goal.put_field-second_start-requires
put_field-second_start-requires c =
    let r = room (goal.at.put_field-second_start-requires c).In_ok-word_cause in
    (omega arith, omega (arith, field_room 0 c.args.second 10 c.ranges.second.fits), r.2)

-- where the second number is put, and the room that it leaves
put-room : (c : After-put_field-second_start) →
    (106 ≤ c.put_field-second_start.result) × (c.put_field-second_start.result ≤ length c.put_field-second_start.new.out)
put-room c =
    let r = room (goal.at.After-put_field-second_start c).In_ok-word_cause in
    room-left 22 106 c.put_field-second_start.ensures (omega arith) (field_room 0 c.args.second 10 c.ranges.second.fits)

pub put_label-requires : goal.put_label-requires
put_label-requires c =
    let p = put-room (goal.at.put_label-requires c).After-put_field-second_start in
    let r = room (goal.at.put_label-requires c).In_ok-word_cause in
    (omega arith, p.1)

pub returns : goal.returns
unfolding pair_line
returns c =
    let a = c.args in clauses-value-out_after (word-put a.word.now a.out.now a.end _ _ c.in_ok-word_cause.ensures refl
    (put-label a.word.now _ c.put_field-second_start.ensures c.put_label.ensures))
