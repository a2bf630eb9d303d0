-- Parts of a list of bytes, and the fields that they are.
-- Assumes nothing.
use Prim.Native.Nat.{ℕ, zero, suc, ◌+◌, ◌*◌, ◌≤◌, ◌<◌}
use native.Mathlib.Nat.{mul-suc, mul-zero}
use native.Mathlib.Omega.{arith}
use mathlib.Core.Bool.{true}
use mathlib.Core.List.{List, [], ◌∷◌, ◌++◌}
use mathlib.Core.Path.{◌≡◌, refl, sym, ap, ◌∙◌}
use lib.ListN.{length, get_or, take, drop, take-append-drop, length-drop}
use lib.Seq.{take-add, take_all, drop-drop, take-suc, drop-cons, get_or-drop, get_or-take, length-take-le}
use lib.Arith.{digits_div, digits_mod}
use Rattle.arithmetic.specs.Row.{row}
use Rattle.arithmetic.proofs.RowLaws.{row_of}
use Rattle.job_record.specs.Bytes.{Bytes, number_at, number_bytes}
use Rattle.job_record.specs.Form.{data_at, after_field, after_fields, field_at, fields_from}
use Rattle.job_record.specs.Reader.{tag_of, data_of, date_of}
use Rattle.job_record.specs.Grammar.{field, joined}
use Rattle.job_record.specs.declared.Tags.{Tags}
use Rattle.job_record.specs.declared.Tags.TheVariants.{Only}
use Rattle.job_record.proofs.Forms.{field-whole, field-tag, field-length, fields-each}

-- two parts, one after the other
pub join : (a b o : ℕ) (s : List ℕ) → take a (drop o s) ++ take b (drop (o + a) s) ≡ take (a + b) (drop o s)
join a b o s = sym (take-add a b (drop o s) ∙ ap (λ (l : List ℕ). take a (drop o s) ++ take b l) (drop-drop a o s))

-- a part, and all after it
pub join-rest : (a o : ℕ) (s : List ℕ) → take a (drop o s) ++ drop (o + a) s ≡ drop o s
join-rest a o s = ap (λ (l : List ℕ). take a (drop o s) ++ l) (sym (drop-drop a o s)) ∙ take-append-drop a (drop o s)

pub byte-piece : (s : List ℕ) (o : ℕ) → o < length s → take 1 (drop o s) ≡ get_or s o 0 ∷ []
byte-piece s o h = rw (drop-cons s o 0 h)

-- n bytes, one after the other
pub bytes-piece : (s : List ℕ) (o n : ℕ) → o + n ≤ length s → row n (date_of s o) ≡ take n (drop o s)
bytes-piece s o n h =
    sym
    (row_of (take n (drop o s)) n (date_of s o) (length-take-le n (drop o s) (simp length-drop (omega arith)))
    (λ k below. get_or-take n (drop o s) k 0 below ∙ get_or-drop o s k 0))

-- the number in k bytes is written as these
pub digits-piece : (s : List ℕ) → Bytes s → (o k : ℕ) → o + k ≤ length s → number_bytes k (number_at s o k) ≡ take k (drop o s)
unfolding number_at number_bytes
digits-piece s b o zero h = refl
digits-piece s b o (suc k) h =
    let inside : k < length (drop o s) = simp length-drop (omega arith) in
    let before : number_bytes k (number_at s o k) ≡ take k (drop o s) = digits-piece s b o k (omega arith) in
    rw (digits_div (number_at s o k) (b (o + k)), digits_mod (number_at s o k) (b (o + k)), before, take-suc (drop o s) k 0 inside, get_or-drop o s k 0)

-- a field that stands at a place is its tag and its data
module _ (s : List ℕ) (b : Bytes s) (o : ℕ) (tags : Tags) (k : ℕ) (h : field_at s o tags k ≡ true) where
  pub field-piece : field (get_or s o 0) (take k (drop (data_at o) s)) ≡ take (k + 3) (drop o s)
  unfolding field
  field-piece =
      let whole : o + 3 + k ≤ length s = field-whole s o tags k h in
      let long : length (take k (drop (o + 3) s)) ≡ k = length-take-le k (drop (o + 3) s) (simp length-drop (omega arith)) in
      let place : o + 1 + 2 ≡ o + 3 = omega arith in
      let size : 1 + (2 + k) ≡ k + 3 = omega arith in
      let counted : number_bytes 2 k ≡ take 2 (drop (o + 1) s) =
      ap (number_bytes 2) (sym (field-length s o tags k h)) ∙ digits-piece s b (o + 1) 2 (omega arith) in
      ap (λ (n : ℕ). get_or s o 0 ∷ (number_bytes 2 n ++ take k (drop (o + 3) s))) long
      ∙ ap (λ (l : List ℕ). get_or s o 0 ∷ (l ++ take k (drop (o + 3) s))) counted
      ∙ ap (λ (p : ℕ). get_or s o 0 ∷ (take 2 (drop (o + 1) s) ++ take k (drop p s))) (sym place)
      ∙ ap (λ (l : List ℕ). get_or s o 0 ∷ l) (join 2 k (o + 1) s)
      ∙ ap (λ (l : List ℕ). l ++ take (2 + k) (drop (o + 1) s)) (sym (byte-piece s o (omega arith)))
      ∙ join 1 (2 + k) o s
      ∙ ap (λ (n : ℕ). take n (drop o s)) size

  -- one whose data are one number
  pub number-field : field (get_or s o 0) (number_bytes k (number_at s (data_at o) k)) ≡ take (k + 3) (drop o s)
  number-field = ap (field (get_or s o 0)) (digits-piece s b (data_at o) k (field-whole s o tags k h)) ∙ field-piece

-- the same where the tag is known
module _ (s : List ℕ) (b : Bytes s) (o tag k : ℕ) (h : field_at s o (Only tag) k ≡ true) where
  pub only-piece : field tag (take k (drop (data_at o) s)) ≡ take (k + 3) (drop o s)
  only-piece = rw (field-tag s o tag k h) at (field-piece s b o (Only tag) k h)

  pub only-field : field tag (number_bytes k (number_at s (data_at o) k)) ≡ take (k + 3) (drop o s)
  only-field = rw (field-tag s o tag k h) at (number-field s b o (Only tag) k h)

  -- one that ends the bytes
  pub last-piece : length s ≡ after_field o k → field tag (take k (drop (data_at o) s)) ≡ drop o s
  last-piece long = only-piece ∙ take_all (k + 3) (drop o s) (simp length-drop (omega arith))

-- parts of one size, one after the other
joined-piece :
    (s : List ℕ) (f : ℕ → List ℕ) (size o n : ℕ) → ((i : ℕ) → i < n → f i ≡ take size (drop (o + size * i) s))
    → joined n f ≡ take (size * n) (drop o s)
unfolding joined
joined-piece s f size o zero h = rw mul-zero
joined-piece s f size o (suc n) h =
    rw (joined-piece s f size o n (λ i below. h i (omega arith)), h n (omega arith), mul-suc) (join (size * n) size o s)

-- fields of one width, one after the other, are their tags and numbers
pub fields-piece :
    (s : List ℕ) → Bytes s → (from : ℕ) (tags : Tags) (width n : ℕ) → fields_from s from tags width n ≡ true → (f : ℕ → List ℕ)
    → ((i : ℕ) → i < n → f i ≡ field (tag_of s from width i) (number_bytes width (data_of s from width i)))
    → joined n f ≡ take ((width + 3) * n) (drop from s)
fields-piece s b from tags width n h f same =
    joined-piece s f (width + 3) from n
    (λ i below. same i below ∙ number-field s b (after_fields from width i) tags width (fields-each s from tags width n h i below))
