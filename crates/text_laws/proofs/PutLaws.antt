-- Laws of text that is put into a buffer from its end.
-- Assumes nothing.
use mathlib.Core.Path.{◌≡◌, refl, sym, ap, ◌∙◌}
use mathlib.Core.List.{List, [], ◌∷◌, ◌++◌, append_assoc}
use Prim.Native.Nat.{ℕ, suc, ◌+◌, ◌-◌, ◌≤◌, ◌<◌}
use native.Mathlib.Omega.{arith}
use borrow.Author.Tests.{eq-eqb, ne_eqb}
use lib.ListN.{length, drop, take, set, length-append, length-drop, take-append-drop}
use lib.Seq.{set_split, drop_at, length-take-le, take-append-le, take-take}
use Rattle.std.specs.Prelude.{Result, Ok, Err}
use Rattle.std.specs.Result.{IsOk}
use Rattle.arithmetic.proofs.RefusalLaws.{cause-ok}
use Rattle.arithmetic.specs.Refusals.{cause_of}
use Rattle.arithmetic.specs.declared.Refusal.{Refusal}
use Rattle.text_laws.specs.Put.{Placed, put_before, place_of, placed_of, with_text}
use Rattle.text_laws.specs.inside.Put.{Put}

-- putting nothing changes nothing
pub put-nothing : (out : List ℕ) (end : ℕ) → put_before out end [] ≡ out
unfolding put_before
put-nothing out end = let e : end - 0 ≡ end = omega arith in rw e (take-append-drop end out)

pub length-put : (out text : List ℕ) (end : ℕ) → length text ≤ end → end ≤ length out → length (put_before out end text) ≡ length out
unfolding put_before
length-put out text end h p =
    simp (length-append, length-drop)
    (omega (arith, length-take-le (end - length text) out (omega arith)))

-- a byte that is stored just before a place
pub stored : (out : List ℕ) (end byte : ℕ) → 0 < end → end ≤ length out → set out (end - 1) byte ≡ put_before out end (byte ∷ [])
unfolding put_before
stored out end byte h p =
    let e : suc (end - 1) ≡ end = omega arith in
    let q : end - 1 < length out = omega arith in
    rw (set_split out (end - 1) byte q, e)

-- THE LAW OF JOINING: a text that is put before another is the two put at once
pub put-joined : (out text next : List ℕ) (end : ℕ) → length next + length text ≤ end → end ≤ length out
    → put_before (put_before out end text) (end - length text) next ≡ put_before out end (next ++ text)
unfolding put_before
put-joined out text next end h p =
    let mid : ℕ = end - length text in
    let low : ℕ = end - length (next ++ text) in
    let n : length (take mid out) ≡ mid = length-take-le mid out (omega arith) in
    let e : mid - length next ≡ low = simp length-append (omega arith) in
    let m : low ≤ mid = simp length-append (omega arith) in
    let l : low ≤ length (take mid out) = omega arith in
    rw (e, take-append-le low (take mid out) (text ++ drop end out) l, take-take low mid out m, drop_at (take mid out) (text ++ drop end out) mid n)
    (ap (λ (r : List ℕ). take low out ++ r) (sym (append_assoc next text (drop end out))))

-- a loop that stores the last byte of what is left keeps what the whole gives
pub put_last : (out text next whole : List ℕ) (start byte : ℕ) → next ≡ text ++ (byte ∷ []) → length next ≤ start → start ≤ length out
    → put_before out start next ≡ whole → put_before (set out (start - 1) byte) (start - 1) text ≡ whole
put_last out text next whole start byte e h p w =
    let n : length next ≡ length text + 1 = ap length e ∙ simp length-append in
    rw (stored out start byte (omega arith) p)
    (put-joined out (byte ∷ []) text start (omega arith) p ∙ ap (λ (t : List ℕ). put_before out start t) (sym e) ∙ w)

-- ---- the contract of a put

pub put-none : (out : List ℕ) (end : ℕ) → end ≤ length out → Put out end [] end out
put-none out end h = record { place = omega arith; within = h; same = refl; memory = sym (put-nothing out end) }

pub put_whole : (out after text : List ℕ) (end start : ℕ) → start + length text ≡ end → end ≤ length out →
    after ≡ put_before out end text → Put out end text start after
put_whole out after text end start p h e = record {
  place = p;
  within = h;
  same = ap length e ∙ length-put out text end (omega arith) h;
  memory = e;
}

-- a byte that is stored before a text: alone, before a text that was put, and as the last that is left of a text
pub put_one : (out : List ℕ) (end byte : ℕ) → 0 < end → end ≤ length out → Put out end (byte ∷ []) (end - 1) (set out (end - 1) byte)
put_one out end byte h p = put_whole out (set out (end - 1) byte) (byte ∷ []) end (end - 1) (omega arith) p (stored out end byte h p)

pub put_front : (out out₀ text last : List ℕ) (start byte end : ℕ) → 0 < start → start ≤ length out → last ≡ byte ∷ [] →
    start - 1 + length text ≡ end → end ≤ length out₀ → put_before out start last ≡ put_before out₀ end text →
    Put out₀ end text (start - 1) (set out (start - 1) byte)
put_front out out₀ text last start byte end h p e n q w =
    put_whole out₀ (set out (start - 1) byte) text end (start - 1) n q (stored out start byte h p ∙ ap (λ (l : List ℕ). put_before out start l) (sym e) ∙ w)

-- one text before another
pub put-before : {out after later text next : List ℕ} {end mid start : ℕ} →
    Put out end text mid after → Put after mid next start later → Put out end (next ++ text) start later
put-before {out} {after} {later} {text} {next} {end} {mid} {start} p q =
    let s : start + (length next + length text) ≡ end = omega (arith, p.place, q.place) in
    let m : mid ≡ end - length text = omega (arith, p.place) in
    put_whole out later (next ++ text) end start (simp length-append s) p.within
    (q.memory ∙ ap (λ (l : List ℕ). put_before l mid next) p.memory ∙ ap (λ (i : ℕ). put_before (put_before out end text) i next) m
    ∙ put-joined out text next end (omega arith) p.within)

pub put_then : {out after text : List ℕ} {end mid : ℕ} (byte : ℕ) → Put out end text mid after → 0 < mid →
    Put out end (byte ∷ text) (mid - 1) (set after (mid - 1) byte)
put_then {out} {after} {text} {end} {mid} byte p h = put-before p (put_one after mid byte h (omega (arith, p.place, p.within, p.same)))

-- ---- the answer to a put, by its number

pub placed-cause : (answer : Result ℕ Refusal) → (placed_of answer).number ≡ cause_of answer
placed-cause (Ok start) = refl
placed-cause (Err refusal) = refl

module _ (number : ℕ) (out : List ℕ) (end : ℕ) (text : List ℕ) where
  -- an answer, and the buffer afterwards
  abbrev pub Answered : Placed → List ℕ → Type 0
  Answered answer after = (answer ≡ place_of number end text) × (after ≡ with_text number out end text)

  pub put_refused : (found : ℕ) → found ≡ number → (found ≡ 0 → ⊥) → Answered (record { number = found; start = 0 }) out
  unfolding place_of with_text
  put_refused found e nz = let test = ne_eqb number 0 (λ z. nz (e ∙ z)) in (rw (test, e), rw test)

  pub put-answered : {start : ℕ} {after : List ℕ} → number ≡ 0 → Put out end text start after → Answered (record { number = 0; start = start }) after
  unfolding place_of with_text
  put-answered {start} z p =
      let test = eq-eqb number 0 z in
      let s : start ≡ end - length text = omega (arith, p.place) in
      (rw (test, s), rw test p.memory)

  -- a text that is put is not refused
  pub answered-ok : (answer : Result ℕ Refusal) {after : List ℕ} → Answered (placed_of answer) after → number ≡ 0 → IsOk answer
  unfolding place_of
  answered-ok answer a z = cause-ok answer (sym (placed-cause answer) ∙ ap (λ (p : Placed). p.number) a.0 ∙ rw (eq-eqb number 0 z))

  -- what a caller has of it
  module _ {answer : Placed} {after : List ℕ} (a : Answered answer after) where
    pub answered-put : number ≡ 0 → length text ≤ end → end ≤ length out → Put out end text answer.start after
    unfolding place_of with_text
    answered-put z l p =
        let test = eq-eqb number 0 z in
        let s : answer.start ≡ end - length text = ap (λ (p : Placed). p.start) a.0 ∙ rw test in
        put_whole out after text end answer.start (omega arith) p (rw test at a.1)
