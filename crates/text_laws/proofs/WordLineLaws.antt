-- Laws of the lines with a word: how long they are, and what a call leaves.
-- Assumes nothing.
use mathlib.Core.Path.{◌≡◌, refl, sym, ◌∙◌}
use mathlib.Core.List.{List, [], ◌∷◌, ◌++◌}
use Prim.Native.Nat.{ℕ, ◌+◌, ◌≤◌, ◌<◌, ◌^◌}
use native.Mathlib.Omega.{arith}
use borrow.Author.Tests.{le-leb, lt-leb}
use lib.ListN.{length, length-append}
use Rattle.arithmetic.proofs.Numbers.{by_order}
use Rattle.std.specs.Prelude.{Result}
use Rattle.std.specs.Result.{IsOk}
use Rattle.arithmetic.specs.declared.Refusal.{Refusal}
use Rattle.text_laws.specs.Put.{Placed, placed_of}
use Rattle.text_laws.specs.inside.Put.{Put}
use Rattle.text_laws.specs.Decimal.{natural, natural_within, last_digits, decimal}
use Rattle.text_laws.specs.Lines.{line_number, longest_line}
use Rattle.text_laws.specs.WordLines.{whole_line, pair_line, amount_line, longest_word, word_number}
use Rattle.text_laws.proofs.DecimalLaws.{decimal-room}
use Rattle.text_laws.proofs.LineLaws.{number-none, room-known, room-left}
use Rattle.text_laws.proofs.PutLaws.{put-before, Answered, put_refused, put-answered, answered-ok, answered-put}

-- ---- no line is longer than 128 bytes

module _ (word : List ℕ) (short : length word ≤ longest_word) where
  pub whole_room : (number : ℕ) → number < 2 ^ 64 → length (whole_line word number) ≤ longest_line
  unfolding whole_line
  whole_room number h = simp length-append (omega (arith, decimal-room 0 number h))

  pub pair-room : (first second : ℕ) → first < 2 ^ 64 → second < 2 ^ 64 → length (pair_line word first second) ≤ longest_line
  unfolding pair_line
  pair-room first second h l = simp length-append (omega (arith, decimal-room 0 first h, decimal-room 0 second l))

  pub amount-room : (value : ℕ) → value < 2 ^ 64 → length (amount_line word value) ≤ longest_line
  unfolding amount_line
  amount-room value h = simp length-append (omega (arith, decimal-room 9 value h))

-- ---- room for a word and its line

module _ (word size end : ℕ) where
  pub word-long : longest_word < word → 6 ≡ word_number word size end
  unfolding word_number
  word-long h = rw (lt-leb word longest_word h)

  pub word-short : word ≤ longest_word → line_number size end ≡ word_number word size end
  unfolding word_number
  word-short h = rw (le-leb word longest_word h)

  pub word-known : (found : ℕ) → found ≡ word_number word size end → found ≡ 0 → (word ≤ longest_word) × (longest_line ≤ end) × (end ≤ size)
  word-known found e z =
      by_order word longest_word
      (λ h. let r = room-known size end (word-short h ∙ sym e ∙ z) in (h, r.0, r.1))
      (λ h. absurd (none (word-long h ∙ sym e ∙ z)))
    where
      none : ◌≡◌ {A = ℕ} 6 0 → ⊥
      none e = omega arith

module _ (word out : List ℕ) (end : ℕ) (line : List ℕ) where
  abbrev number : ℕ
  number = word_number (length word) (length out) end

  -- a line, as the code found its number
  pub word-refused : (found : ℕ) → found ≡ number → (found ≡ 0 → ⊥) → Answered number out end line (record { number = found; start = 0 }) out
  word-refused found e nz = put_refused number out end line found e nz

  pub word-put : {start : ℕ} {after : List ℕ} (found : ℕ) → found ≡ number → found ≡ 0 → Put out end line start after →
      Answered number out end line (record { number = 0; start = start }) after
  word-put found e z p = put-answered number out end line (sym e ∙ z) p

  -- for a caller: a line that has room is not refused
  pub word-ok : (answer : Result ℕ Refusal) {after : List ℕ} → length word ≤ longest_word → longest_line ≤ end → end ≤ length out →
      Answered number out end line (placed_of answer) after → IsOk answer
  word-ok answer w h p a =
      answered-ok number out end line answer a (sym (word-short _ _ _ w) ∙ sym (number-none (length out) end h p))

  -- it was put
  pub word_stands : {answer : Placed} {after : List ℕ} → length word ≤ longest_word → longest_line ≤ end → end ≤ length out → length line ≤ longest_line →
      Answered number out end line answer after → Put out end line answer.start after
  word_stands w h p l a =
      answered-put number out end line a (sym (word-short _ _ _ w) ∙ sym (number-none (length out) end h p)) (omega arith) p

  -- and leaves room before it
  pub word-left : {answer : Placed} {after : List ℕ} (left : ℕ) → length word ≤ longest_word → longest_line + left ≤ end → end ≤ length out →
      length line ≤ longest_line → Answered number out end line answer after → (left ≤ answer.start) × (answer.start ≤ length after)
  word-left left w h p l a = room-left longest_line left (word_stands w (omega arith) p l a) h l

-- LINES ONE AFTER THE OTHER: after a line that has room, the buffer holds the line and the text that was put before, as put at once
pub word-before : {out₀ out text after : List ℕ} {end mid : ℕ} {answer : Placed} (word line : List ℕ) → Put out₀ end text mid out →
    length word ≤ longest_word → longest_line ≤ mid → length line ≤ longest_line →
    Answered (word_number (length word) (length out) mid) out mid line answer after → Put out₀ end (line ++ text) answer.start after
word-before {out₀} {out} {text} {after} {end} {mid} word line p w h l a =
    put-before p (word_stands word out mid line w h (omega (arith, p.place, p.within, p.same)) l a)

-- ---- figures: `a 7`, `a 7 2`, `a 1.500000000`

pub whole-shown : whole_line (97 ∷ 32 ∷ []) 7 ≡ 97 ∷ 32 ∷ 55 ∷ 10 ∷ []
unfolding whole_line decimal natural natural_within
whole-shown = refl

pub pair-shown : pair_line (97 ∷ 32 ∷ []) 7 2 ≡ 97 ∷ 32 ∷ 55 ∷ 32 ∷ 50 ∷ 10 ∷ []
unfolding pair_line decimal natural natural_within
pair-shown = refl

pub amount-shown : amount_line (97 ∷ 32 ∷ []) 1500000000 ≡ 97 ∷ 32 ∷ 49 ∷ 46 ∷ 53 ∷ 48 ∷ 48 ∷ 48 ∷ 48 ∷ 48 ∷ 48 ∷ 48 ∷ 48 ∷ 10 ∷ []
unfolding amount_line decimal natural natural_within last_digits
amount-shown = refl
