-- Laws of the lines: how long they are, and what a call leaves.
-- Assumes nothing.
use mathlib.Core.Path.{◌≡◌, refl, sym, ◌∙◌, subst}
use mathlib.Core.Bool.{Bool, true, false}
use mathlib.Core.List.{List, ◌++◌, append_assoc}
use Prim.Native.Nat.{ℕ, ◌+◌, ◌≤◌, ◌<◌, ◌^◌}
use native.Mathlib.Omega.{arith}
use borrow.Author.Tests.{le-leb, lt-leb}
use lib.IntN.{ℤ, nat_abs}
use lib.ListN.{length, length-append}
use Rattle.arithmetic.specs.Answers.{lowest_cause}
use Rattle.arithmetic.proofs.CauseLaws.{lowest-first, lowest-second, lowest-less, lowest-none}
use Rattle.arithmetic.proofs.Numbers.{by_order, by_equal}
use Rattle.limits.specs.Limits.{most_discount, is_discount}
use Rattle.step_rate.specs.declared.Rate.{Rate}
use Rattle.step_rate.specs.StepRate.{rate_answer}
use Rattle.step_rate.proofs.RateLaws.{answer-known, value-bound}
use Rattle.std.specs.Prelude.{Result}
use Rattle.std.specs.Result.{IsOk}
use Rattle.arithmetic.specs.declared.Refusal.{Refusal}
use Rattle.text_laws.specs.Put.{Placed, placed_of}
use Rattle.text_laws.specs.inside.Put.{Put}
use Rattle.text_laws.specs.Lines.{space, newline, whole_number, amount, node_line, row_line, price_line, line_number, node_number, line_of_node, longest_line}
use Rattle.text_laws.proofs.DecimalLaws.{decimal-room, field_room, signed-room}
use Rattle.text_laws.proofs.PutLaws.{put-before, Answered, put_refused, put-answered, answered-ok, answered-put}

-- ---- no line is longer than 128 bytes

pub node-room : (row discount : ℕ) (node rate : ℤ) → row < 2 ^ 64 → discount < 2 ^ 64 → nat_abs node < 2 ^ 64 → nat_abs rate < 2 ^ 64
    → length (node_line row node discount rate) ≤ longest_line
unfolding node_line
node-room row discount node rate a b c d =
    let w = field_room 0 row 32 a in
    let x = signed-room 0 32 node c in
    let y = field_room 9 discount 32 b in
    let z = signed-room 7 10 rate d in
    simp length-append (omega (arith, simp length-append at w, simp length-append at x, simp length-append at y, simp length-append at z))

pub row_room : (row quote total bound : ℕ) → row < 2 ^ 64 → quote < 2 ^ 64 → total < 2 ^ 64 → bound < 2 ^ 64
    → length (row_line row quote total bound) ≤ longest_line
unfolding row_line
row_room row quote total bound a b c d =
    simp length-append (omega (arith, decimal-room 0 row a, decimal-room 9 quote b, decimal-room 9 total c, decimal-room 0 bound d))

pub price-room : (word : List ℕ) (price bound : ℕ) → length word ≤ 8 → price < 2 ^ 64 → bound < 2 ^ 64 → length (price_line word price bound) ≤ longest_line
unfolding price_line
price-room word price bound w a b = simp length-append (omega (arith, decimal-room 9 price a, decimal-room 0 bound b))

-- ---- room for a line

pub number-near : (size end : ℕ) → end < longest_line → 6 ≡ line_number size end
unfolding line_number
number-near size end h = rw (lt-leb longest_line end h)

pub number-outside : (size end : ℕ) → longest_line ≤ end → size < end → 6 ≡ line_number size end
unfolding line_number
number-outside size end h l = rw (le-leb longest_line end h, lt-leb end size l)

pub number-none : (size end : ℕ) → longest_line ≤ end → end ≤ size → 0 ≡ line_number size end
unfolding line_number
number-none size end h l = rw (le-leb longest_line end h, le-leb end size l)

pub room-known : (size end : ℕ) → line_number size end ≡ 0 → (longest_line ≤ end) × (end ≤ size)
room-known size end z =
    by_order longest_line end
    (λ h. by_order end size (λ l. (h, l)) (λ l. absurd (none (number-outside size end h l ∙ z))))
    (λ h. absurd (none (number-near size end h ∙ z)))
  where
    none : ◌≡◌ {A = ℕ} 6 0 → ⊥
    none e = omega arith

module _ (out : List ℕ) (end : ℕ) (line : List ℕ) where
  -- a line, as the code found its number
  pub line_refused : (found : ℕ) → found ≡ line_number (length out) end → (found ≡ 0 → ⊥) → Answered (line_number (length out) end) out end line
      (record { number = found; start = 0 }) out
  line_refused found e nz = put_refused _ out end line found e nz

  pub line-put : {start : ℕ} {after : List ℕ} → longest_line ≤ end → Put out end line start after → Answered (line_number (length out) end) out end line
      (record { number = 0; start = start }) after
  line-put h p = put-answered _ out end line (sym (number-none (length out) end h p.within)) p

  -- for a caller: a line that has room is not refused
  pub line-ok : (answer : Result ℕ Refusal) {after : List ℕ} → longest_line ≤ end → end ≤ length out →
      Answered (line_number (length out) end) out end line (placed_of answer) after → IsOk answer
  line-ok answer h p a = answered-ok _ out end line answer a (sym (number-none (length out) end h p))

  -- it was put
  pub line-stands : {answer : Placed} {after : List ℕ} → longest_line ≤ end → end ≤ length out → length line ≤ longest_line
      → Answered (line_number (length out) end) out end line answer after → Put out end line answer.start after
  line-stands h p l a = answered-put _ out end line a (sym (number-none (length out) end h p)) (omega arith) p

-- the word and the first field of a line, put before the rest of it
pub put-label : {out after later text : List ℕ} {end mid start : ℕ} (word field : List ℕ) →
    Put out end text mid after → Put after mid (word ++ field) start later → Put out end (word ++ (field ++ text)) start later
put-label {out} {after} {later} {text} {end} {mid} {start} word field p q =
    subst (λ (l : List ℕ). Put out end l start later) (append_assoc word field text) (put-before p q)

-- an amount and its bound are at most 53 bytes
pub bounded-room : (value bound : ℕ) → value < 2 ^ 64 → bound < 2 ^ 64 → length ((amount value ++ space) ++ (whole_number bound ++ newline)) ≤ 53
bounded-room value bound a b =
    let x = field_room 9 value 32 a in
    let y = field_room 0 bound 10 b in
    rw (length-append (amount value ++ space) (whole_number bound ++ newline)) (omega arith)

-- the room that a text leaves before it
pub room-left : {out text after : List ℕ} {end mid : ℕ} (most left : ℕ) → Put out end text mid after → most + left ≤ end →
    length text ≤ most → (left ≤ mid) × (mid ≤ length after)
room-left most left p h l = (omega (arith, p.place), omega (arith, p.place, p.within, p.same))

-- LINES ONE AFTER THE OTHER: after a line that has room, the buffer holds the line and the text that was put before, as put at once
pub line_before : {out₀ out text after : List ℕ} {end mid : ℕ} {answer : Placed} (line : List ℕ) → Put out₀ end text mid out → longest_line ≤ mid
    → length line ≤ longest_line → Answered (line_number (length out) mid) out mid line answer after → Put out₀ end (line ++ text) answer.start after
line_before {out₀} {out} {text} {after} {end} {mid} line p h l a =
    put-before p (line-stands out mid line h (omega (arith, p.place, p.within, p.same)) l a)

-- ---- the line of a node

module _ (size end discount : ℕ) where
  -- the cause that the code finds
  pub node-cause : (rate : Rate) (room found : ℕ) → rate ≡ rate_answer discount → room ≡ line_number size end → found ≡ lowest_cause room rate.number
      → found ≡ node_number size end discount
  unfolding node_number
  node-cause rate room found er em ef = ef ∙ rw (er, em)

  -- a discount's own cause is 9
  rate-cause : ((rate_answer discount).number ≡ 0 → ⊥) → (rate_answer discount).number ≡ 9
  unfolding rate_answer
  rate-cause some = by-test (is_discount discount) refl
    where
      by-test : (b : Bool) → is_discount discount ≡ b → (rate_answer discount).number ≡ 9
      by-test true e = absurd (some (rw e))
      by-test false e = rw e

  line-small : line_number size end ≤ 6
  line-small =
      by_order longest_line end
      (λ h. by_order end size (λ l. omega (arith, number-none size end h l)) (λ l. omega (arith, number-outside size end h l)))
      (λ h. omega (arith, number-near size end h))

  -- so that of the room comes first
  pub node-near : (line_number size end ≡ 0 → ⊥) → line_number size end ≡ node_number size end discount
  unfolding node_number
  node-near some =
      by_equal (rate_answer discount).number 0
      (λ z. lowest-second _ _ some z)
      (λ nz. lowest-less _ _ some nz (omega (arith, line-small, rate-cause nz)))

  -- and that of the discount where there is room
  pub node-far : line_number size end ≡ 0 → (rate_answer discount).number ≡ node_number size end discount
  unfolding node_number
  node-far z = lowest-first _ _ z

  pub node-room-known : (found : ℕ) → found ≡ node_number size end discount → found ≡ 0 → (longest_line ≤ end) × (end ≤ size)
  unfolding node_number
  node-room-known found e z = room-known size end (lowest-none (line_number size end) (rate_answer discount).number (sym e ∙ z)).0

module _ (out : List ℕ) (end row discount : ℕ) (node : ℤ) (found : ℕ) (e : found ≡ node_number (length out) end discount) where
  pub node-refused : (found ≡ 0 → ⊥) → Answered (node_number (length out) end discount) out end (line_of_node row node discount)
      (record { number = found; start = 0 }) out
  node-refused nz = put_refused _ out end _ found e nz

  pub node-put : {start : ℕ} {after : List ℕ} → found ≡ 0 → (rate : ℤ) → rate ≡ (rate_answer discount).value
      → Put out end (node_line row node discount rate) start after
      → Answered (node_number (length out) end discount) out end (line_of_node row node discount) (record { number = 0; start = start }) after
  unfolding line_of_node
  node-put {start} {after} z rate r p =
      put-answered _ out end _ (sym e ∙ z) (subst (λ (v : ℤ). Put out end (node_line row node discount v) start after) r p)

pub node-number-none : (size end discount : ℕ) → longest_line ≤ end → end ≤ size → 0 < discount → discount ≤ most_discount → node_number size end discount ≡ 0
unfolding node_number
node-number-none size end discount h p l m =
    let r : 0 ≡ (rate_answer discount).number = rw (answer-known discount l m) in
    sym (r ∙ lowest-first (line_number size end) (rate_answer discount).number (sym (number-none size end h p)))

pub node-line-room : (row discount : ℕ) (node : ℤ) → row < 2 ^ 64 → discount < 2 ^ 64 → nat_abs node < 2 ^ 64
    → length (line_of_node row node discount) ≤ longest_line
unfolding line_of_node
node-line-room row discount node a b c = node-room row discount node _ a b c (omega (arith, value-bound discount (rate_answer discount) refl))

module _ (out : List ℕ) (end row discount : ℕ) (node : ℤ) where
  -- it is not refused where it has room and its discount a step rate
  pub node-ok : (answer : Result ℕ Refusal) {after : List ℕ} → longest_line ≤ end → end ≤ length out → 0 < discount → discount ≤ most_discount →
      Answered (node_number (length out) end discount) out end (line_of_node row node discount) (placed_of answer) after → IsOk answer
  node-ok answer h p l m a = answered-ok _ out end _ answer a (node-number-none (length out) end discount h p l m)

-- the line was put where it had room and its discount a step rate
pub node-stands : (out : List ℕ) (end row discount : ℕ) (node : ℤ) {answer : Placed} {after : List ℕ} → longest_line ≤ end → end ≤ length out → 0 < discount
    → discount ≤ most_discount → length (line_of_node row node discount) ≤ longest_line
    → Answered (node_number (length out) end discount) out end (line_of_node row node discount) answer after
    → Put out end (line_of_node row node discount) answer.start after
node-stands out end row discount node h p l m r a = answered-put _ out end _ a (node-number-none (length out) end discount h p l m) (omega arith) p
