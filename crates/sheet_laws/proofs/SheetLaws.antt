-- Laws of a whole job's number, sheet and print.
-- Assumes nothing.
use mathlib.Core.Path.{◌≡◌, sym, ap, ◌∙◌, subst}
use mathlib.Core.List.{List}
use Prim.Native.Nat.{ℕ, ◌+◌, ◌-◌, ◌≤◌, ◌<◌}
use native.Mathlib.Omega.{arith}
use borrow.Author.Tests.{lt-ltb, le-ltb, eq-eqb, ne_eqb}
use lib.ListN.{length, take, drop, length-append}
use Rattle.arithmetic.proofs.CauseLaws.{unless-refused, lowest-none}
use Rattle.arithmetic.specs.Answers.{lowest_cause, first_cause}
use Rattle.arithmetic.proofs.Numbers.{by_order, by_equal}
use Rattle.limits.specs.Limits.{most_discounts, most_state_prices}
use Rattle.job_record.specs.declared.Job.{Job}
use Rattle.job_record.specs.declared.Reading.{Reading}
use Rattle.job_record.specs.Reader.{reading_of}
use Rattle.job_laws.specs.RecordFit.{job_reversion, job_quotes, job_discounts, job_state_prices}
use Rattle.job_laws.specs.declared.JobPrices.{JobPrices}
use Rattle.job_laws.specs.JobPrices.{has_option, job_bond, job_option, record_number, record_prices}
use Rattle.job_laws.proofs.PriceLaws.{prices-given, prices-number}
use Rattle.text_laws.specs.Put.{Placed, put_before, place_of, with_text}
use Rattle.text_laws.specs.inside.Put.{Put}
use Rattle.text_laws.specs.Lines.{refused_line, line_number}
use Rattle.text_laws.proofs.PutLaws.{Answered, put-answered, put_whole}
use Rattle.sheet_room.specs.Room.{sheet_room}
use Rattle.sheet_laws.specs.TreeSheet.{tree_sheet}
use Rattle.sheet_laws.specs.WholeJob.{room_cause, job_number, job_text, sheet_number, sheet_text, sheet_memory, printed_text, printed_number}

-- ---- causes

pub room-short : (room : ℕ) → room < sheet_room → 6 ≡ room_cause room
unfolding room_cause
room-short room h = rw (lt-ltb room 468736 h)

pub room-enough : (room : ℕ) → sheet_room ≤ room → 0 ≡ room_cause room
unfolding room_cause
room-enough room h = rw (le-ltb room 468736 h)

pub room-known : (room : ℕ) → room_cause room ≡ 0 → sheet_room ≤ room
room-known room z = by_order 468736 room (λ h. h) (λ h. absurd (apart (room-short room h ∙ z)))
  where
    apart : ◌≡◌ {A = ℕ} 6 0 → ⊥
    apart e = omega arith

-- ---- the number of a record's sheet

module _ (job : Job) (prices : JobPrices) (ep : prices ≡ record_prices job most_discounts most_state_prices) where
  pub prices-number-is : prices.number ≡ record_number job most_discounts most_state_prices
  unfolding record_prices
  prices-number-is = ap (λ (p : JobPrices). p.number) ep ∙ prices-number _ _ _ _

  pub prices-known : prices.number ≡ 0 → prices ≡ record { number = 0; bond = job_bond job; has_option = has_option job.option; option = job_option job }
  unfolding record_prices
  prices-known z = ep ∙ sym (prices-given _ _ _ _ (sym prices-number-is ∙ z))

  module _ (out : List ℕ) (room cause : ℕ) (er : room ≡ room_cause (length out)) (ec : cause ≡ lowest_cause prices.number room) where
    pub cause-is : cause ≡ job_number job (length out)
    unfolding job_number
    cause-is = ec ∙ rw (prices-number-is, er)

    pub priced-none : cause ≡ 0 → prices.number ≡ 0
    priced-none z = (lowest-none prices.number room (sym ec ∙ z)).0

    pub room-given : cause ≡ 0 → sheet_room ≤ length out
    room-given z = room-known (length out) (sym er ∙ (lowest-none prices.number room (sym ec ∙ z)).1)

-- the text that is put is the job's sheet
pub text-put : (job : Job) (b : ℕ) (quotes discounts state-prices : List ℕ) (prices : JobPrices) → b ≡ job_reversion job →
    quotes ≡ job_quotes job → discounts ≡ job_discounts job → state-prices ≡ job_state_prices job →
    prices ≡ record { number = 0; bond = job_bond job; has_option = has_option job.option; option = job_option job } →
    (out : List ℕ) (end start : ℕ) (after : List ℕ) →
    Put out end (tree_sheet job.steps b quotes discounts state-prices prices.bond prices.has_option prices.option) start after →
    Put out end (job_text job) start after
unfolding job_text
text-put job b quotes discounts state-prices prices eb eq ed es ep out end start after put =
    subst (λ (text : List ℕ). Put out end text start after) (rw (eb, eq, ed, es, ep)) put

-- ---- the room afterwards

pub memory-refused : (number : ℕ) (text out : List ℕ) → (number ≡ 0 → ⊥) → out ≡ with_text number out (length out) text
unfolding with_text
memory-refused number text out nz = sym (unless-refused number _ out nz)

pub memory-put : (number : ℕ) (text out : List ℕ) (start : ℕ) (after : List ℕ) → number ≡ 0 → Put out (length out) text start after →
    after ≡ with_text number out (length out) text
unfolding with_text
memory-put number text out start after z p = rw (eq-eqb number 0 z) p.memory

-- ---- the number of a job's bytes

module _ (bytes : List ℕ) (room : ℕ) (q : Reading) (e : q ≡ reading_of bytes) where
  number_read : q.number ≡ (reading_of bytes).number
  number_read = ap (λ (q : Reading). q.number) e

  pub number-refused : (q.number ≡ 0 → ⊥) → q.number ≡ sheet_number bytes room
  unfolding sheet_number first_cause
  number-refused nz = rw (← number_read, ne_eqb q.number 0 nz)

  pub number-accepted : q.number ≡ 0 → job_number (reading_of bytes).job room ≡ sheet_number bytes room
  unfolding sheet_number first_cause
  number-accepted z = rw (← number_read, eq-eqb q.number 0 z)

-- ---- what is printed

-- the answer, and the room afterwards
abbrev pub Printed : List ℕ → List ℕ → Placed → List ℕ → Type 0
Printed bytes out = Answered (printed_number bytes (length out)) out (length out) (printed_text bytes (length out))

-- a sheet's number, its size where there is none, and the room that it left
module _ (bytes out : List ℕ) (number size : ℕ) (after : List ℕ) (en : number ≡ sheet_number bytes (length out))
    (es : number ≡ 0 → size ≡ length (sheet_text bytes)) (em : after ≡ sheet_memory bytes out) where
  module _ (nz : number ≡ 0 → ⊥) where
    none : sheet_number bytes (length out) ≡ 0 → ⊥
    none z = nz (en ∙ z)

    room-kept : after ≡ out
    unfolding with_text
    room-kept = rw (ne_eqb (sheet_number bytes (length out)) 0 none) at em

    pub refusal-printed : (answer : Placed) (last : List ℕ) →
        Answered (line_number (length after) (length after)) after (length after) (refused_line number) answer last → Printed bytes out answer last
    unfolding printed_number printed_text
    refusal-printed answer last a =
        let test = ne_eqb (sheet_number bytes (length out)) 0 none in
        let b = rw (room-kept, en) at a in
        (rw test b.0, rw test b.1)

  module _ (z : number ≡ 0) where
    zero_number : sheet_number bytes (length out) ≡ 0
    zero_number = sym en ∙ z

    room-put : after ≡ put_before out (length out) (sheet_text bytes)
    unfolding with_text
    room-put = rw (eq-eqb (sheet_number bytes (length out)) 0 zero_number) at em

    pub size-within : length after ≡ length out → size ≤ length after
    unfolding put_before
    size-within same =
        let l : length after ≡ length (take (length out - length (sheet_text bytes)) out) + (length (sheet_text bytes) + length (drop (length out) out)) =
        ap length room-put ∙ simp length-append in
        omega (arith, l, same, es z)

    pub sheet-printed : length after ≡ length out → Printed bytes out (record { number = 0; start = length after - size }) after
    unfolding printed_number printed_text
    sheet-printed same =
        let test = eq-eqb (sheet_number bytes (length out)) 0 zero_number in
        let n : printed_number bytes (length out) ≡ 0 = rw test in
        let t : printed_text bytes (length out) ≡ sheet_text bytes = rw test in
        let fits = size-within same in
        put-answered _ out (length out) _ n
        (put_whole out after _ (length out) (length after - size) (rw t (omega (arith, same, es z, fits))) (omega arith) (rw t room-put))

-- where a text starts is in the room
pub start-within : (number end : ℕ) (text : List ℕ) (answer : Placed) → answer ≡ place_of number end text → answer.start ≤ end
unfolding place_of
start-within number end text answer e =
    by_equal number 0
    (λ z. let s : answer.start ≡ end - length text = ap (λ (p : Placed). p.start) e ∙ rw (eq-eqb number 0 z) in omega arith)
    (λ nz. let s : answer.start ≡ 0 = ap (λ (p : Placed). p.start) e ∙ rw (ne_eqb number 0 nz) in omega arith)
