-- What is written at a place is read there.
-- Assumes nothing.
use Prim.Native.Nat.{ℕ, zero, suc, ◌+◌, ◌*◌, ◌/◌, ◌%◌, ◌^◌, ◌≤◌, ◌<◌}
use native.Mathlib.Nat.{mul-suc, mul-zero, pow-suc, div-add-mod', div-lt_iff_lt-mul, not-suc-le-zero, le_of_suc-le-suc}
use native.Mathlib.Decide.{ℕ_discrete}
use native.Mathlib.Omega.{arith}
use mathlib.Core.Bool.{true}
use mathlib.Core.List.{List, [], ◌∷◌, ◌++◌, append_assoc, append-nil}
use mathlib.Core.Path.{◌≡◌, refl, sym, ap, ◌∙◌}
use borrow.Author.Tests.{le-leb, eq-eqb}
use lib.ListN.{length, get_or, length-append, get_or-append}
use lib.Seq.{get_or_at, get_or-append-add}
use lib.Arith.{lt_of_le-ne}
use Rattle.job_record.specs.Bytes.{number_at, number_bytes}
use Rattle.job_record.specs.Form.{data_at, has_tag, field_at}
use Rattle.job_record.specs.Grammar.{field, joined}
use Rattle.job_record.specs.declared.Tags.{Tags}
use Rattle.job_record.proofs.Answers.{both}

-- the list l stands in s from place o on
pub record At (s : List ℕ) (o : ℕ) (l : List ℕ) : Type 0 where
  pub front : List ℕ
  pub rest : List ℕ
  pub split : s ≡ front ++ (l ++ rest)
  pub place : length front ≡ o

pub at_all : (s : List ℕ) → At s 0 s
at_all s = record { front = []; rest = []; split = sym (append-nil s); place = refl }

pub at_first : (s : List ℕ) (o : ℕ) (a b : List ℕ) → At s o (a ++ b) → At s o a
at_first s o a b h =
    record {
      front = h.front;
      rest = b ++ h.rest;
      split = h.split ∙ ap (λ (l : List ℕ). h.front ++ l) (append_assoc a b h.rest);
      place = h.place;
    }

pub at_second : (s : List ℕ) (o : ℕ) (a b : List ℕ) → At s o (a ++ b) → At s (o + length a) b
at_second s o a b h =
    record {
      front = h.front ++ a;
      rest = h.rest;
      split = h.split ∙ ap (λ (l : List ℕ). h.front ++ l) (append_assoc a b h.rest) ∙ sym (append_assoc h.front a (b ++ h.rest));
      place = length-append h.front a ∙ ap (λ (n : ℕ). n + length a) h.place;
    }

pub at_byte : (s : List ℕ) (o x : ℕ) (l : List ℕ) → At s o (x ∷ l) → get_or s o 0 ≡ x
at_byte s o x l h = rw h.split (get_or_at h.front x (l ++ h.rest) 0 o h.place)

-- each entry of the list
pub at_entry : (s : List ℕ) (o : ℕ) (l : List ℕ) (k : ℕ) → k < length l → At s o l → get_or s (o + k) 0 ≡ get_or l k 0
at_entry s o l k inside h =
    rw h.split
    (rw h.place at (get_or-append-add h.front (l ++ h.rest) k 0) ∙ get_or-append l h.rest 0 k inside)

pub at-within : (s : List ℕ) (o : ℕ) (l : List ℕ) → At s o l → o + length l ≤ length s
at-within s o l h = rw h.split (simp length-append (omega (arith, h.place)))

pub digits-length : (k v : ℕ) → length (number_bytes k v) ≡ k
unfolding number_bytes
digits-length zero v = refl
digits-length (suc k) v = simp length-append (omega (arith, digits-length k (v / 256)))

pub at-number : (s : List ℕ) (o k v : ℕ) → v < 256 ^ k → At s o (number_bytes k v) → number_at s o k ≡ v
unfolding number_at number_bytes
at-number s o zero v fits h = omega arith
at-number s o (suc k) v fits h =
    let high : v / 256 < 256 ^ k = (div-lt_iff_lt-mul {k = 256} (omega arith)).1 (rw pow-suc at fits) in
    let upper : number_at s o k ≡ v / 256 = at-number s o k (v / 256) high (at_first s o (number_bytes k (v / 256)) (v % 256 ∷ []) h) in
    let last : At s (o + k) (v % 256 ∷ []) = rw (digits-length k (v / 256)) at (at_second s o (number_bytes k (v / 256)) (v % 256 ∷ []) h) in
    let lower : get_or s (o + k) 0 ≡ v % 256 = at_byte s (o + k) (v % 256) [] last in
    rw (upper, lower) (div-add-mod' v 256)

-- a field that was written
module _ (s : List ℕ) (o tag : ℕ) (body : List ℕ) (h : At s o (field tag body)) where
  parts : At s o ((tag ∷ []) ++ (number_bytes 2 (length body) ++ body))
  unfolding field
  parts = h

  counted : At s (o + 1) (number_bytes 2 (length body) ++ body)
  counted = at_second s o (tag ∷ []) (number_bytes 2 (length body) ++ body) parts

  pub at_body : At s (data_at o) body
  at_body =
      let place : o + 1 + 2 ≡ o + 3 = omega arith in
      rw place at (rw (digits-length 2 (length body)) at (at_second s (o + 1) (number_bytes 2 (length body)) body counted))

  pub at_tag : get_or s o 0 ≡ tag
  at_tag = at_byte s o tag (number_bytes 2 (length body) ++ body) parts

  pub at_field : (tags : Tags) → has_tag tags tag ≡ true → length body < 65536 → field_at s o tags (length body) ≡ true
  unfolding field_at
  at_field tags has small =
      both (le-leb _ _ (at-within s (o + 3) body at_body))
      (both (ap (has_tag tags) at_tag ∙ has)
      (eq-eqb _ _ (at-number s (o + 1) 2 (length body) small (at_first s (o + 1) (number_bytes 2 (length body)) body counted))))

pub field-size : (tag : ℕ) (body : List ℕ) → length (field tag body) ≡ length body + 3
unfolding field
field-size tag body = simp (length-append, digits-length) (omega arith)

pub joined-size : (f : ℕ → List ℕ) (width n : ℕ) → ((i : ℕ) → length (f i) ≡ width) → length (joined n f) ≡ width * n
unfolding joined
joined-size f width zero h = sym (mul-zero width)
joined-size f width (suc n) h = rw (length-append, joined-size f width n h, h n, mul-suc)

at-joined-by : (s : List ℕ) (o : ℕ) (f : ℕ → List ℕ) (width n : ℕ) → ((i : ℕ) → length (f i) ≡ width) → (i : ℕ) → Dec (i ≡ n)
    → (i < n → At s (o + width * i) (f i)) → i < suc n → At s o (joined n f ++ f n) → At s (o + width * i) (f i)
at-joined-by s o f width n size i (yes same) before below h =
    rw same (rw (joined-size f width n size) at (at_second s o (joined n f) (f n) h))
at-joined-by s o f width n size i (no other) before below h = before (lt_of_le-ne (le_of_suc-le-suc below) other)

pub at_joined :
    (s : List ℕ) (o : ℕ) (f : ℕ → List ℕ) (width n : ℕ) → ((i : ℕ) → length (f i) ≡ width) → At s o (joined n f) → (i : ℕ) → i < n
    → At s (o + width * i) (f i)
unfolding joined
at_joined s o f width zero size h i below = absurd (not-suc-le-zero below)
at_joined s o f width (suc n) size h i below =
    at-joined-by s o f width n size i (ℕ_discrete i n) (at_joined s o f width n size (at_first s o (joined n f) (f n) h) i) below h
