-- Laws of the columns of a record: entries, and zeros after them.
-- Assumes nothing.
use Prim.Native.Nat.{ℕ, ◌+◌, ◌-◌, ◌≤◌, ◌<◌}
use native.Mathlib.Nat.{mul-le-mul_left, le_dest}
use native.Mathlib.Omega.{arith}
use mathlib.Core.List.{List, ◌++◌}
use mathlib.Core.Path.{◌≡◌, sym, ◌∙◌}
use lib.ListN.{length, replicate, length-append, length-replicate, get_or-append}
use lib.Seq.{ext_get_or, get_or-append-add}
use Rattle.arithmetic.specs.Row.{row, values, padded}
use Rattle.arithmetic.proofs.Numbers.{by_order}
use Rattle.arithmetic.proofs.RowLaws.{length-row, values-row, zeros}
use Rattle.arithmetic.proofs.PaddedLaws.{padded-of, padded-length, padded-at, padded-after}
use Rattle.job_record.specs.Form.{after_field, after_fields}
use Rattle.job_record.specs.Grammar.{Column}

-- columns of any number of places
module _ (places : ℕ) where
  -- entries below a bound make a column of a record
  pub padded-column :
      (n : ℕ) (f : ℕ → ℕ) (bound : ℕ) → n ≤ places → 0 < bound → ((k : ℕ) → k < n → f k < bound) → Column places (padded places n f) n bound
  padded-column n f bound few positive small =
      record {
        size = padded-length places n f;
        below = λ k.
            by_order n k (λ past. rw (padded-after places n f k past) positive)
            (λ inside. rw (padded-at places n f k few inside) (small k inside));
        after = padded-after places n f;
      }

  -- and a column of a record is its entries
  pub column-padded :
      (l : List ℕ) (n bound : ℕ) (f : ℕ → ℕ) → Column places l n bound → ((k : ℕ) → k < n → f k ≡ values l k) → padded places n f ≡ l
  column-padded l n bound f h same = sym (padded-of places l n f h.size (λ k below. sym (same k below)) h.after)

  -- zeros are a column without entries, and no other list is
  pub zeros-column : (bound : ℕ) → 0 < bound → Column places (replicate places 0) 0 bound
  zeros-column bound positive =
      record { size = length-replicate {A = ℕ} places 0; below = λ k. rw (zeros places k) positive; after = λ k past. zeros places k }

  pub column-zeros : (l : List ℕ) (bound : ℕ) → Column places l 0 bound → replicate places 0 ≡ l
  column-zeros l bound h =
      ext_get_or 0 (replicate places 0) l (length-replicate {A = ℕ} places 0 ∙ sym h.size)
      (λ k inside. zeros places k ∙ sym (h.after k (omega arith)))

  -- entries, and zeros after them
  module _ (n : ℕ) (f : ℕ → ℕ) (few : n ≤ places) where
    split-length : length (row n f ++ replicate (places - n) 0) ≡ places
    split-length = simp (length-append, length-row, length-replicate) (omega arith)

    split-before : (k : ℕ) → k < n → values (row n f ++ replicate (places - n) 0) k ≡ f k
    split-before k below =
        get_or-append (row n f) (replicate (places - n) 0) 0 k (rw (length-row n f) below) ∙ values-row n k f below

    split_after : (k : ℕ) → n ≤ k → values (row n f ++ replicate (places - n) 0) k ≡ 0
    split_after k past =
        let (j, e) = le_dest past in
        rw (← e) (rw (length-row n f) at (get_or-append-add (row n f) (replicate (places - n) 0) j 0) ∙ zeros (places - n) j)

    pub padded-split : row n f ++ replicate (places - n) 0 ≡ padded places n f
    padded-split = padded-of places (row n f ++ replicate (places - n) 0) n f split-length split-before split_after

-- of fields of one width, each stands within all of them
pub field-within : (from width i count : ℕ) → i < count → after_field (after_fields from width i) width ≤ after_fields from width count
field-within from width i count h = omega (arith, mul-le-mul_left (width + 3) h)
