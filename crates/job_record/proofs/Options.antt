-- The option that ends a job: none, 08 or 0A, as it is read and as it is written.
-- Assumes nothing.
use mathlib.Core.Path.{◌≡◌, sym, subst}
use mathlib.Core.Bool.{true}
use mathlib.Core.List.{List, []}
use Prim.Native.Nat.{ℕ}
use borrow.Author.Tests.{eq-eqb, ne_eqb}
use lib.ListN.{length, get_or}
use Rattle.arithmetic.proofs.Numbers.{by_equal}
use Rattle.job_record.specs.Form.{kind_formed, list_formed, rest_formed}
use Rattle.job_record.specs.Reader.{no_option, kind_option_at, list_option_at, option_at}
use Rattle.job_record.specs.Grammar.{field, kind_data, list_data, option_field}
use Rattle.job_record.specs.declared.OptionRecord.{OptionRecord}
use Rattle.job_record.proofs.Forms.{rest-kind, rest-list}

-- which one is read is told by the length and the tag
module _ (s : List ℕ) (o : ℕ) where
  pub option-none : length s ≡ o → option_at s o ≡ no_option
  unfolding option_at
  option-none same = rw (eq-eqb (length s) o same)

  module _ (other : length s ≡ o → ⊥) where
    pub option-kind : get_or s o 0 ≡ 8 → option_at s o ≡ kind_option_at s o
    unfolding option_at
    option-kind tag = rw (ne_eqb (length s) o other, eq-eqb (get_or s o 0) 8 tag)

    pub option-list : (get_or s o 0 ≡ 8 → ⊥) → option_at s o ≡ list_option_at s o
    unfolding option_at
    option-list unlike = rw (ne_eqb (length s) o other, ne_eqb (get_or s o 0) 8 unlike)

  -- what holds of each of the three, holds of the option
  pub by-option :
      (P : OptionRecord → Type 0) → rest_formed s o ≡ true → (length s ≡ o → P no_option) → (kind_formed s o ≡ true → P (kind_option_at s o))
      → (list_formed s o ≡ true → P (list_option_at s o)) → P (option_at s o)
  by-option P h none kind list =
      by_equal (length s) o (λ same. subst P (sym (option-none same)) (none same))
      (λ other.
      by_equal (get_or s o 0) 8 (λ tag. subst P (sym (option-kind other tag)) (kind (rest-kind s o h other tag)))
      (λ unlike. subst P (sym (option-list other unlike)) (list (rest-list s o h other unlike))))

-- which one is written is told by the record's tag
module _ (option : OptionRecord) where
  pub field-kind : option.tag ≡ 8 → option_field option ≡ field 8 (kind_data option)
  unfolding option_field
  field-kind tag = rw (eq-eqb option.tag 8 tag)

  module _ (unlike : option.tag ≡ 8 → ⊥) where
    pub field-list : option.tag ≡ 10 → option_field option ≡ field 10 (list_data option)
    unfolding option_field
    field-list tag = rw (ne_eqb option.tag 8 unlike, eq-eqb option.tag 10 tag)

    pub field-none : (option.tag ≡ 10 → ⊥) → option_field option ≡ []
    unfolding option_field
    field-none neither = rw (ne_eqb option.tag 8 unlike, ne_eqb option.tag 10 neither)
