-- Laws of the lines: each is put before those that follow it, and no line is longer than 128 bytes.
-- Assumes nothing.
use mathlib.Core.Path.{◌≡◌, ap, ◌∙◌, subst}
use mathlib.Core.List.{List, ◌++◌}
use Prim.Native.Nat.{ℕ, suc, ◌+◌, ◌-◌, ◌*◌, ◌^◌, ◌≤◌, ◌<◌}
use native.Mathlib.Omega.{arith}
use borrow.Author.Tests.{lt-ltb, le-ltb}
use lib.ListN.{length, length-append}
use Rattle.arithmetic.specs.Row.{values}
use Rattle.std.specs.Prelude.{Result}
use Rattle.std.specs.Result.{IsOk}
use Rattle.arithmetic.specs.declared.Refusal.{Refusal}
use Rattle.text_laws.specs.Put.{Placed, placed_of}
use Rattle.text_laws.specs.inside.Put.{Put}
use Rattle.text_laws.specs.Lines.{refused_word, longest_line}
use Rattle.text_laws.specs.WordLines.{whole_line, pair_line, amount_line, word_number}
use Rattle.text_laws.proofs.PutLaws.{put-none, put-before, Answered}
use Rattle.text_laws.proofs.WordLineLaws.{whole_room, pair-room, amount-room, word-ok, word_stands, word-before}
use Rattle.book_laws.specs.declared.Book.{Book}
use Rattle.book_laws.specs.Bounds.{most_number}
use Rattle.book_laws.specs.Report.{priced_word, bonds_word, options_word, allowances_word, dearest_word, lines_from, refusals_line}
use Rattle.book_laws.specs.Report.{refusal_lines, sum_lines, book_lines, book_room, lines_answer, lines_memory}

-- what a line with a word leaves
abbrev pub Lined : List ℕ → List ℕ → ℕ → List ℕ → Placed → List ℕ → Type 0
Lined word out end line answer after = Answered (word_number (length word) (length out) end) out end line answer after

-- ---- the sums, the last line first

module _ (bonds options errorBounds place : ℕ) (b : bonds < 2 ^ 64) (o : options < 2 ^ 64) (a : errorBounds < 2 ^ 64) (q : place < 2 ^ 64) where
  pub sums-length : length (sum_lines bonds options errorBounds place) ≤ 512
  unfolding sum_lines
  sums-length =
      simp length-append
      (omega (
        arith,
        amount-room bonds_word (omega arith) bonds b,
        amount-room options_word (omega arith) options o,
        whole_room allowances_word (omega arith) errorBounds a,
        whole_room dearest_word (omega arith) place q,
      ))

  -- each call's answer in turn
  pub sums-stand : {out₀ out₁ out₂ out₃ out₄ : List ℕ} {end : ℕ} {a₁ a₂ a₃ a₄ : Placed} → 512 ≤ end → end ≤ length out₀
      → Lined dearest_word out₀ end (whole_line dearest_word place) a₁ out₁
      → Lined allowances_word out₁ a₁.start (whole_line allowances_word errorBounds) a₂ out₂
      → Lined options_word out₂ a₂.start (amount_line options_word options) a₃ out₃
      → Lined bonds_word out₃ a₃.start (amount_line bonds_word bonds) a₄ out₄
      → Put out₀ end (sum_lines bonds options errorBounds place) a₄.start out₄
  unfolding sum_lines
  sums-stand {out₀} {out₁} {out₂} {out₃} {out₄} {end} {a₁} {a₂} {a₃} {a₄} h w e₁ e₂ e₃ e₄ =
      let l₁ = whole_room dearest_word (omega arith) place q in
      let l₂ = whole_room allowances_word (omega arith) errorBounds a in
      let l₃ = amount-room options_word (omega arith) options o in
      let l₄ = amount-room bonds_word (omega arith) bonds b in
      let p₁ : Put out₀ end (whole_line dearest_word place) a₁.start out₁ =
      word_stands dearest_word out₀ end (whole_line dearest_word place) (omega arith) (omega arith) w l₁ e₁ in
      let p₂ : Put out₀ end (whole_line allowances_word errorBounds ++ whole_line dearest_word place) a₂.start out₂ =
      word-before allowances_word (whole_line allowances_word errorBounds) p₁ (omega arith) (omega (arith, p₁.place)) l₂ e₂ in
      let t₂ = simp length-append at p₂.place in
      let p₃ : Put out₀ end (amount_line options_word options ++ (whole_line allowances_word errorBounds ++ whole_line dearest_word place)) a₃.start out₃ =
      word-before options_word (amount_line options_word options) p₂ (omega arith) (omega arith) l₃ e₃ in
      let t₃ = simp length-append at p₃.place in
      word-before bonds_word (amount_line bonds_word bonds) p₃ (omega arith) (omega arith) l₄ e₄

-- ---- the refusals, the last number first

is-line : (counts : List ℕ) (k number count : ℕ) → number ≡ suc k → count ≡ values counts k → pair_line refused_word number count ≡ refusals_line counts k
unfolding refusals_line
is-line counts k number count en ec = rw (en, ec)

-- the lines from number `left` + 1 on stand
pub record Standing (counts out₀ : List ℕ) (end : ℕ) (out : List ℕ) (start left : ℕ) : Type 0 where
  pub upto : left ≤ most_number
  pub near : end ≤ start + longest_line * (most_number - left)
  pub put : Put out₀ end (lines_from (refusals_line counts) left (most_number - left)) start out

module _ (counts out₀ : List ℕ) (end : ℕ) where
  more : (left : ℕ) → 0 < left → left ≤ most_number →
      refusals_line counts (left - 1) ++ lines_from (refusals_line counts) left (most_number - left)
      ≡ lines_from (refusals_line counts) (left - 1) (most_number - (left - 1))
  unfolding lines_from
  more left h l =
      let e : most_number - (left - 1) ≡ suc (most_number - left) = omega arith in
      let s : suc (left - 1) ≡ left = omega arith in
      rw (e, s)

  pub standing-first : end ≤ length out₀ → Standing counts out₀ end out₀ end most_number
  unfolding lines_from
  standing-first h = record { upto = omega arith; near = omega arith; put = put-none out₀ end h }

  -- the next line is not refused
  pub standing-ok : {out : List ℕ} {start left : ℕ} → Standing counts out₀ end out start left → longest_line * most_number ≤ end → 0 < left →
      (line : List ℕ) (answer : Result ℕ Refusal) {after : List ℕ} → Lined refused_word out start line (placed_of answer) after → IsOk answer
  standing-ok {out} {start} s h l line answer e =
      word-ok refused_word out start line answer (omega arith) (omega (arith, s.near, s.upto)) (omega (arith, s.put.place, s.put.within, s.put.same)) e

  pub standing-next : {out : List ℕ} {start left : ℕ} → Standing counts out₀ end out start left → longest_line * most_number ≤ end → 0 < left →
      (number count : ℕ) → number ≡ left → count ≡ values counts (left - 1) → count < 2 ^ 64 → {answer : Placed} {after : List ℕ} →
      Lined refused_word out start (pair_line refused_word number count) answer after → Standing counts out₀ end after answer.start (left - 1)
  standing-next {out} {start} {left} s h l number count en ec fits {answer} {after} e =
      let room = pair-room refused_word (omega arith) number count (omega (arith, s.upto)) fits in
      let same : pair_line refused_word number count ≡ refusals_line counts (left - 1) = is-line counts (left - 1) number count (omega arith) ec in
      let p : Put out₀ end (pair_line refused_word number count ++ lines_from (refusals_line counts) left (most_number - left)) answer.start after =
      word-before refused_word (pair_line refused_word number count) s.put (omega arith) (omega (arith, s.near, s.upto)) room e in
      let t = simp length-append at p.place in
      record {
        upto = omega (arith, s.upto);
        near = omega (arith, s.near, s.put.place, s.upto);
        put =
            subst (λ (x : List ℕ). Put out₀ end x answer.start after)
            (ap (λ (x : List ℕ). x ++ lines_from (refusals_line counts) left (most_number - left)) same ∙ more left l s.upto) p;
      }

  pub standing-all : {out : List ℕ} {start left : ℕ} → Standing counts out₀ end out start left → left ≡ 0 → Put out₀ end (refusal_lines counts) start out
  standing-all {out} {start} {left} s z =
      subst (λ (k : ℕ). Put out₀ end (lines_from (refusals_line counts) k (most_number - k)) start out) z s.put

-- ---- the whole book

module _ (b : Book) where
  pub refusals-room-left : {out₀ out₁ : List ℕ} {end s₁ : ℕ} → Put out₀ end (sum_lines b.bonds b.options b.error_bounds b.place) s₁ out₁
      → book_room ≤ end → b.bonds < 2 ^ 64 → b.options < 2 ^ 64 → b.error_bounds < 2 ^ 64 → b.place < 2 ^ 64
      → (longest_line * most_number + longest_line ≤ s₁) × (s₁ ≤ length out₁)
  refusals-room-left p h f g k l =
      let n = sums-length b.bonds b.options b.error_bounds b.place f g k l in
      (omega (arith, p.place), omega (arith, p.place, p.within, p.same))

  pub priced-ok : {out₁ out₂ : List ℕ} {s₁ s₂ : ℕ} → Put out₁ s₁ (refusal_lines b.refused) s₂ out₂ → s₁ ≤ s₂ + longest_line * most_number →
      longest_line * most_number + longest_line ≤ s₁ → (line : List ℕ) (answer : Result ℕ Refusal) {after : List ℕ} →
      Lined priced_word out₂ s₂ line (placed_of answer) after → IsOk answer
  priced-ok q n h line answer e = word-ok priced_word _ _ line answer (omega arith) (omega arith) (omega (arith, q.place, q.within, q.same)) e

  pub book-stands : {out₀ out₁ out₂ : List ℕ} {end s₁ s₂ : ℕ} → Put out₀ end (sum_lines b.bonds b.options b.error_bounds b.place) s₁ out₁
      → Put out₁ s₁ (refusal_lines b.refused) s₂ out₂ → s₁ ≤ s₂ + longest_line * most_number → longest_line * most_number + longest_line ≤ s₁ →
      b.priced < 2 ^ 64
      → {answer : Placed} {after : List ℕ}
      → Lined priced_word out₂ s₂ (whole_line priced_word b.priced) answer after → Put out₀ end (book_lines b) answer.start after
  unfolding book_lines
  book-stands p q n h f e =
      word-before priced_word (whole_line priced_word b.priced) (put-before p q) (omega arith) (omega arith)
      (whole_room priced_word (omega arith) b.priced f) e

module _ (text out : List ℕ) where
  pub answer-short : length out < book_room → record { number = 6; size = 0 } ≡ lines_answer text (length out)
  unfolding lines_answer
  answer-short h = rw (lt-ltb (length out) book_room h)

  pub memory-short : length out < book_room → out ≡ lines_memory text out
  unfolding lines_memory
  memory-short h = rw (lt-ltb (length out) book_room h)

  module _ {start : ℕ} {after : List ℕ} (long : book_room ≤ length out) (p : Put out (length out) text start after) where
    pub answer-put : record { number = 0; size = length out - start } ≡ lines_answer text (length out)
    unfolding lines_answer
    answer-put = let e : length out - start ≡ length text = omega (arith, p.place) in rw (le-ltb (length out) book_room long, e)

    pub memory-put : after ≡ lines_memory text out
    unfolding lines_memory
    memory-put = rw (le-ltb (length out) book_room long) p.memory
