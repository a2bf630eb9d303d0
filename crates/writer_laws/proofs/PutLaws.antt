-- Laws of lists that are placed in a memory one after the other.
-- Assumes nothing.
use Prim.Native.Nat.{ℕ, zero, suc, ◌+◌, ◌*◌, ◌-◌, ◌/◌, ◌%◌, ◌≤◌, ◌<◌}
use native.Mathlib.Nat.{add-zero, not-suc-le-zero}
use native.Mathlib.Numerals.{add-one}
use native.Mathlib.Omega.{arith}
use mathlib.Core.List.{List, [], ◌∷◌, ◌++◌, append_assoc}
use mathlib.Core.Path.{◌≡◌, refl, sym, ap, ◌∙◌}
use lib.ListN.{length, get_or, take, drop, set, length-append, take-append-drop}
use lib.Seq.{length-take-le, take_at, drop_at, take-suc, take-set-le, drop-append-add, drop-drop, set_split}
use Rattle.arithmetic.specs.Row.{place}
use Rattle.arithmetic.proofs.PlaceLaws.{length-place}
use Rattle.job_record.specs.Bytes.{number_bytes}
use Rattle.job_record.specs.Form.{steps_at, reversion_at, volatility_at, version_at, after_field, option_width, dates_at, list_head}
use Rattle.job_record.specs.Grammar.{field, joined}
use Rattle.job_record.proofs.Places.{digits-length, joined-size}
use Rattle.job_record.proofs.Reread.{number_size}
use Rattle.writer_laws.specs.inside.Parts.{head_fields, kind_bytes, list_bytes}

pub place_none : (out : List ℕ) (at : ℕ) → place out at [] ≡ out
unfolding place
place_none out at = rw add-zero (take-append-drop at out)

-- one list after the other
place-more :
    (out : List ℕ) (at : ℕ) (a b : List ℕ) → at + length a ≤ length out → place (place out at a) (at + length a) b ≡ place out at (a ++ b)
unfolding place
place-more out at a b h =
    let front : length (take at out) ≡ at = length-take-le at out (omega arith) in
    let long : length (take at out ++ a) ≡ at + length a = length-append (take at out) a ∙ ap (λ (n : ℕ). n + length a) front in
    let whole : take at out ++ (a ++ drop (at + length a) out) ≡ (take at out ++ a) ++ drop (at + length a) out =
    sym (append_assoc (take at out) a (drop (at + length a) out)) in
    let taken : take (at + length a) ((take at out ++ a) ++ drop (at + length a) out) ≡ take at out ++ a =
    take_at (take at out ++ a) (drop (at + length a) out) (at + length a) long in
    let dropped : drop (at + length a + length b) ((take at out ++ a) ++ drop (at + length a) out) ≡ drop (at + length a + length b) out =
    ap (λ (n : ℕ). drop (n + length b) ((take at out ++ a) ++ drop (at + length a) out)) (sym long)
    ∙ drop-append-add (take at out ++ a) (drop (at + length a) out) (length b)
    ∙ drop-drop (length b) (at + length a) out in
    let sizes : at + length (a ++ b) ≡ at + length a + length b = simp length-append (omega arith) in
    rw (whole, taken, dropped, sizes, append_assoc, append_assoc)

-- b, placed where a ends
pub place-then :
    (out l : List ℕ) (at p : ℕ) (a b : List ℕ) → l ≡ place out at a → p ≡ at + length a → at + length a ≤ length out
    → place l p b ≡ place out at (a ++ b)
place-then out l at p a b e end h = rw (e, end) (place-more out at a b h)

-- one byte
pub set-place : (out : List ℕ) (i x : ℕ) → i < length out → set out i x ≡ place out i (x ∷ [])
unfolding place
set-place out i x h = rw add-one (set_split out i x h)

-- no byte of a number; and its last byte, with the others placed before it
pub number-none : (out : List ℕ) (at width value : ℕ) → width ≤ 0 → out ≡ place out at (number_bytes width value)
unfolding number_bytes
number-none out at width value h =
    let none : width ≡ 0 = omega arith in
    rw none (sym (place_none out at))

number-before :
    (out : List ℕ) (at k value : ℕ) → at + suc k ≤ length out
    → place (set out (at + k) (value % 256)) at (number_bytes k (value / 256)) ≡ place out at (number_bytes (suc k) value)
unfolding place number_bytes
number-before out at k value h =
    let a = number_bytes k (value / 256) in
    let x = value % 256 in
    let size : length a ≡ k = digits-length k (value / 256) in
    let longer : at + length (a ++ (x ∷ [])) ≡ suc (at + k) = simp length-append (omega (arith, size)) in
    let front : take at (set out (at + k) x) ≡ take at out = take-set-le at out (at + k) x (omega arith) in
    let back : drop (at + k) (set out (at + k) x) ≡ x ∷ drop (suc (at + k)) out =
    ap (drop (at + k)) (set_split out (at + k) x (omega arith))
    ∙ drop_at (take (at + k) out) (x ∷ drop (suc (at + k)) out) (at + k) (length-take-le (at + k) out (omega arith)) in
    rw (front, size, back, longer, append_assoc)

pub number-last :
    (out : List ℕ) (at width value : ℕ) → 0 < width → at + width ≤ length out
    → place (set out (at + (width - 1)) (value % 256)) at (number_bytes (width - 1) (value / 256)) ≡ place out at (number_bytes width value)
number-last out at zero value some h = absurd (not-suc-le-zero some)
number-last out at (suc k) value some h = let less : suc k - 1 ≡ k = omega arith in rw less (number-before out at k value h)

-- two, three and four lists, each placed where the one before it ends
module _ (out l₁ l₂ : List ℕ) (at p : ℕ) (a b : List ℕ) (e₁ : l₁ ≡ place out at a) (first : p ≡ at + length a) (e₂ : l₂ ≡ place l₁ p b) where
  pub place-two : p ≤ length out → l₂ ≡ place out at (a ++ b)
  place-two room = e₂ ∙ place-then out l₁ at p a b e₁ first (omega arith)

  module _ (l₃ : List ℕ) (q : ℕ) (c : List ℕ) (second : q ≡ p + length b) (e₃ : l₃ ≡ place l₂ q c) where
    joined-three : q ≤ length out → l₃ ≡ place out at ((a ++ b) ++ c)
    joined-three room =
        let long : length (a ++ b) ≡ length a + length b = length-append a b in
        e₃ ∙ place-then out l₂ at q (a ++ b) c (place-two (omega arith)) (omega arith) (omega arith)

    pub place-three : q ≤ length out → l₃ ≡ place out at (a ++ (b ++ c))
    place-three room = joined-three room ∙ ap (place out at) (append_assoc a b c)

    pub place-four :
        (l₄ : List ℕ) (r : ℕ) (d : List ℕ) → r ≡ q + length c → l₄ ≡ place l₃ r d → r ≤ length out
        → l₄ ≡ place out at (a ++ (b ++ (c ++ d)))
    place-four l₄ r d third e₄ room =
        let long : length (a ++ b) ≡ length a + length b = length-append a b in
        let longer : length ((a ++ b) ++ c) ≡ length (a ++ b) + length c = length-append (a ++ b) c in
        let same : ((a ++ b) ++ c) ++ d ≡ a ++ (b ++ (c ++ d)) = append_assoc (a ++ b) c d ∙ append_assoc a b (c ++ d) in
        e₄
        ∙ place-then out l₃ at r ((a ++ b) ++ c) d (joined-three (omega arith)) (omega arith) (omega arith)
        ∙ ap (place out at) same

-- bytes, one after the other
pub bytes-more :
    (out : List ℕ) {l : List ℕ} (dates : List ℕ) (at : ℕ) {i : ℕ} → l ≡ place out at (take i dates) → i < length dates → at + length dates ≤ length out
    → set l (at + i) (get_or dates i 0) ≡ place out at (take (i + 1) dates)
bytes-more out {l} dates at {i} e below room =
    let long : length (take i dates) ≡ i = length-take-le i dates (omega arith) in
    let same : length l ≡ length out = ap length e ∙ length-place out at (take i dates) (omega arith) in
    set-place l (at + i) (get_or dates i 0) (omega arith)
    ∙ place-then out l at (at + i) (take i dates) (get_or dates i 0 ∷ []) e (omega arith) (omega arith)
    ∙ rw (add-one, take-suc dates i 0 below)

-- fields of one size, one after the other
pub fields-none : (out : List ℕ) (from : ℕ) (f : ℕ → List ℕ) → out ≡ place out from (joined 0 f)
unfolding joined
fields-none out from f = sym (place_none out from)

pub fields-more :
    (out l₁ l₂ : List ℕ) (from size i p : ℕ) (f : ℕ → List ℕ) → ((k : ℕ) → length (f k) ≡ size) → p ≡ from + size * i
    → p ≤ length out → l₁ ≡ place out from (joined i f) → l₂ ≡ place l₁ p (f i) → l₂ ≡ place out from (joined (i + 1) f)
unfolding joined
fields-more out l₁ l₂ from size i p f same here room e₁ e₂ =
    let long : length (joined i f) ≡ size * i = joined-size f size i same in
    rw add-one (place-two out l₁ l₂ from p (joined i f) (f i) e₁ (omega arith) e₂ room)

-- a field: tag and length, then its data
module _ (out : List ℕ) (at tag : ℕ) where
  pub tag-placed :
      {l : List ℕ} (size : ℕ) → at + 3 ≤ length out → l ≡ place (set out at tag) (at + 1) (number_bytes 2 size)
      → l ≡ place out at (tag ∷ number_bytes 2 size)
  tag-placed {l} size room e =
      place-two out (set out at tag) l at (at + 1) (tag ∷ []) (number_bytes 2 size) (set-place out at tag (omega arith)) refl e (omega arith)

  pub field-placed :
      {l₁ l₂ : List ℕ} {size : ℕ} (content : List ℕ) → l₁ ≡ place out at (tag ∷ number_bytes 2 size) → length content ≡ size
      → l₂ ≡ place l₁ (at + 3) content → at + 3 ≤ length out → l₂ ≡ place out at (field tag content)
  unfolding field
  field-placed {l₁} {l₂} {size} content e₁ long e₂ room =
      let two : length (number_bytes 2 size) ≡ 2 = digits-length 2 size in
      rw long (place-two out l₁ l₂ at (at + 3) (tag ∷ number_bytes 2 size) content e₁ (omega arith) e₂ room)

-- the fields of the head
pub head-placed :
    (out : List ℕ) {l₁ l₂ l₃ l₄ : List ℕ} (f n b s : ℕ) → version_at ≤ length out → l₁ ≡ place out 0 (field 1 (number_bytes 1 f))
    → l₂ ≡ place l₁ steps_at (field 2 (number_bytes 1 n)) → l₃ ≡ place l₂ reversion_at (field 3 (number_bytes 2 b))
    → l₄ ≡ place l₃ volatility_at (field 4 (number_bytes 4 s)) → l₄ ≡ place out 0 (head_fields f n b s)
head-placed out {l₁} {l₂} {l₃} {l₄} f n b s room e₁ e₂ e₃ e₄ =
    place-four out l₁ l₂ 0 steps_at (field 1 (number_bytes 1 f)) (field 2 (number_bytes 1 n)) e₁ (omega (arith, number_size 1 1 f)) e₂ l₃ reversion_at
    (field 3 (number_bytes 2 b)) (omega (arith, number_size 2 1 n)) e₃ l₄ volatility_at (field 4 (number_bytes 4 s))
    (omega (arith, number_size 3 2 b)) e₄ (omega arith)

-- the data of an option of a kind, and of one with a list of dates
module _ (out : List ℕ) {l₁ l₂ l₃ l₄ : List ℕ} (at : ℕ) where
  pub kind-placed :
      (kind expiry strike : ℕ) → after_field at option_width ≤ length out → length l₁ ≡ length out
      → l₁ ≡ place out at (8 ∷ number_bytes 2 option_width) → l₂ ≡ place l₁ (at + 3) (number_bytes 1 kind)
      → l₃ ≡ place l₂ (at + 3 + 1) (number_bytes 1 expiry) → l₄ ≡ place l₃ (at + 3 + 2) (number_bytes 4 strike)
      → l₄ ≡ place out at (field 8 (kind_bytes kind expiry strike))
  kind-placed kind expiry strike room same e₁ e₂ e₃ e₄ =
      let long : length (kind_bytes kind expiry strike) ≡ option_width = simp (length-append, digits-length) in
      field-placed out at 8 (kind_bytes kind expiry strike) e₁ long
      (place-three l₁ l₂ l₃ (at + 3) (at + 3 + 1) (number_bytes 1 kind) (number_bytes 1 expiry) e₂ (omega (arith, digits-length 1 kind)) e₃ l₄ (at + 3 + 2)
      (number_bytes 4 strike) (omega (arith, digits-length 1 expiry)) e₄ (omega arith))
      (omega arith)

  pub list-placed :
      (side strike : ℕ) (dates : List ℕ) → dates_at at + length dates ≤ length out → length l₁ ≡ length out
      → l₁ ≡ place out at (10 ∷ number_bytes 2 (list_head + length dates)) → l₂ ≡ place l₁ (at + 3) (number_bytes 1 side)
      → l₃ ≡ place l₂ (at + 3 + 1) (number_bytes 4 strike) → l₄ ≡ place l₃ (at + 3 + list_head) dates
      → l₄ ≡ place out at (field 10 (list_bytes side strike dates))
  list-placed side strike dates room same e₁ e₂ e₃ e₄ =
      let long : length (list_bytes side strike dates) ≡ list_head + length dates = simp (length-append, digits-length) (omega arith) in
      field-placed out at 10 (list_bytes side strike dates) e₁ long
      (place-three l₁ l₂ l₃ (at + 3) (at + 3 + 1) (number_bytes 1 side) (number_bytes 4 strike) e₂ (omega (arith, digits-length 1 side)) e₃ l₄
      (at + 3 + list_head) dates (omega (arith, digits-length 4 strike)) e₄ (omega arith))
      (omega arith)
