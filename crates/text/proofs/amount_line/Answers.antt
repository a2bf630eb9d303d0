use Rattle.std.proofs.Common.{refl}
use Prim.Native.Nat.{◌≤◌}
use native.Mathlib.Omega.{arith}
use lib.ListN.{length}
use Rattle.std.proofs.lemmas.Result.{err_from_is_err_and}
use Rattle.arithmetic.proofs.RefusalLaws.{refusal-some}
use Rattle.text_laws.specs.Lines.{longest_line}
use Rattle.text_laws.specs.WordLines.{amount_line, longest_word}
use Rattle.text_laws.proofs.DecimalLaws.{field_room}
use Rattle.text_laws.proofs.LineLaws.{room-left}
use Rattle.text_laws.proofs.PutLaws.{put-before}
use Rattle.text_laws.proofs.WordLineLaws.{word-known, word-refused, word-put}
use Rattle.text.proofs.amount_line.Goals as goal
use Rattle.text.proofs.amount_line.Goals.{After-put_field-value_start, In_ok-word_cause}

clauses-value-out_after : {A B : Type 0} → A × B → record { value : A; out_after : B }
clauses-value-out_after w = record { value = w.0; out_after = w.1 }

pub returns-in_err-word_cause : goal.returns-in_err-word_cause
returns-in_err-word_cause c =
    let p = err_from_is_err_and c.from_residual.result c.from_residual.ensures.1 in
    rw (p.1, p.2) (clauses-value-out_after (word-refused c.args.word.now c.args.out.now c.args.end _ _ c.in_err-word_cause.ensures (refusal-some _)))

room : (c : In_ok-word_cause) →
    (length c.args.word.now ≤ longest_word) × (longest_line ≤ c.args.end)
    × (c.args.end ≤ length c.args.out.now)
room c =
    let a = c.args in
    word-known (length a.word.now) (length a.out.now) a.end _ c.in_ok-word_cause.ensures refl

pub put_field-value_start-requires : goal.put_field-value_start-requires
put_field-value_start-requires c =
    let r = room (goal.at.put_field-value_start-requires c).In_ok-word_cause in
    (omega arith, omega (arith, field_room 9 c.args.value 10 c.ranges.value.fits), r.2)

-- where the amount is put, and the room that it leaves
put-room : (c : After-put_field-value_start) → (97 ≤ c.put_field-value_start.result) × (c.put_field-value_start.result ≤ length c.put_field-value_start.new.out)
put-room c =
    let r = room (goal.at.After-put_field-value_start c).In_ok-word_cause in
    room-left 31 97 c.put_field-value_start.ensures (omega arith) (field_room 9 c.args.value 10 c.ranges.value.fits)

pub put_word-requires : goal.put_word-requires
put_word-requires c =
    let p = put-room (goal.at.put_word-requires c).After-put_field-value_start in
    let r = room (goal.at.put_word-requires c).In_ok-word_cause in
    (omega arith, p.1)

pub returns : goal.returns
unfolding amount_line
returns c =
    let a = c.args in clauses-value-out_after (word-put a.word.now a.out.now a.end _ _ c.in_ok-word_cause.ensures refl
    (put-before c.put_field-value_start.ensures c.put_word.ensures))
