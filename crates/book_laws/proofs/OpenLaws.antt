-- Laws of a book that is still open, and of what is added to it.
-- Assumes nothing.
use mathlib.Core.Path.{◌≡◌, refl}
use mathlib.Core.Bool.{Bool, true, false, not, cond, ◌&&◌}
use mathlib.Core.List.{List}
use Prim.Native.Nat.{ℕ, ◌*◌, ◌≤◌, ◌<◌}
use native.Mathlib.Omega.{arith}
use borrow.Author.Tests.{eq-eqb, ne_eqb, lt-ltb, le-ltb, le-leb, leb-true, not-true}
use lib.Dec.{ltb, leb}
use lib.ListN.{length}
use Rattle.arithmetic.specs.Row.{values, each, between}
use Rattle.arithmetic.proofs.RowLaws.{each_holds, each_all}
use Rattle.arithmetic.proofs.BetweenLaws.{between-holds, between-most}
use Rattle.job_laws.specs.declared.JobPrices.{JobPrices}
use Rattle.job_laws.specs.JobPrices.{bytes_memory}
use Rattle.job_record.specs.declared.Job.{Job}
use Rattle.limits.specs.Limits.{value_limit, most_discounts, most_state_prices}
use Rattle.book_laws.specs.Bounds.{job_prices, Bounded, most_number, most_error_bound}
use Rattle.book_laws.specs.declared.Book.{Book}
use Rattle.book_laws.specs.Books.{most_fields, counts_within, is_open, option_of, is_dearer, with_priced}
use Rattle.book_laws.specs.Books.{with_refused, with_prices, with_field, field_memory, ended_book, broken_book, closed_book}

-- ---- every count is within

pub counts-within : (counts : List ℕ) (most k : ℕ) → counts_within counts most ≡ true → k < most_number → values counts k ≤ most
unfolding counts_within
counts-within counts most k h l =
    between-most 0 most (values counts) k (each_holds most_number k (between 0 most (values counts)) h l)

pub within-counts : (counts : List ℕ) (most : ℕ) → ((k : ℕ) → k < most_number → values counts k ≤ most) → counts_within counts most ≡ true
unfolding counts_within
within-counts counts most h =
    each_all most_number (between 0 most (values counts)) (λ k l. between-holds 0 most (values counts) k (omega arith) (h k l))

-- as the code tests them
pub counts-tested : (counts : List ℕ) (most : ℕ) → length counts ≡ most_number →
    each (length counts) (between 0 most (values counts)) ≡ counts_within counts most
unfolding counts_within
counts-tested counts most size = rw size

-- ---- an open book

pub record Within (b : Book) : Type 0 where
  pub ended : b.ended ≡ false
  pub fields : b.fields ≤ most_fields
  pub priced : b.priced ≤ b.fields
  pub bonds : b.bonds ≤ b.fields * value_limit
  pub options : b.options ≤ b.fields * value_limit
  pub error-bounds : b.error_bounds ≤ b.fields * most_error_bound
  pub place : b.place ≤ b.fields
  pub counts : counts_within b.refused b.fields ≡ true

pub both : (a b : Bool) → (a && b) ≡ true → (a ≡ true) × (b ≡ true)
both true true h = (refl, refl)
both true false h = let z : ◌≡◌ {A = ℕ} 0 1 = cc in let none : ⊥ = omega arith in absurd none
both false b h = let z : ◌≡◌ {A = ℕ} 0 1 = cc in let none : ⊥ = omega arith in absurd none

pub open-within : (b : Book) → is_open b ≡ true → Within b
unfolding is_open
open-within b h =
    let (e, h1) = both (not b.ended) _ h in
    let (f, h2) = both (leb b.fields most_fields) _ h1 in
    let (p, h3) = both (leb b.priced b.fields) _ h2 in
    let (s, h4) = both (leb b.bonds (b.fields * value_limit)) _ h3 in
    let (o, h5) = both (leb b.options (b.fields * value_limit)) _ h4 in
    let (a, h6) = both (leb b.error_bounds (b.fields * most_error_bound)) _ h5 in
    let (l, c) = both (leb b.place b.fields) _ h6 in
    record {
      ended = not-true b.ended e;
      fields = leb-true _ _ f;
      priced = leb-true _ _ p;
      bonds = leb-true _ _ s;
      options = leb-true _ _ o;
      error-bounds = leb-true _ _ a;
      place = leb-true _ _ l;
      counts = c;
    }

pub within-open : (b : Book) → Within b → is_open b ≡ true
unfolding is_open
within-open b w =
    rw (
      w.ended,
      le-leb _ _ w.fields,
      le-leb _ _ w.priced,
      le-leb _ _ w.bonds,
      le-leb _ _ w.options,
      le-leb _ _ w.error-bounds,
      le-leb _ _ w.place,
      w.counts,
    )

pub counts-few : (b : Book) → is_open b ≡ true → counts_within b.refused most_fields ≡ true
counts-few b h =
    let w = open-within b h in
    within-counts b.refused most_fields (λ k l. omega (arith, counts-within b.refused b.fields k w.counts l, w.fields))

-- ---- what the code finds

pub dearer-first : (b : Book) (bond : ℕ) → b.place ≡ 0 → true ≡ is_dearer b bond
unfolding is_dearer
dearer-first b bond h = rw (eq-eqb b.place 0 h)

pub dearer-later : (b : Book) (bond : ℕ) → (b.place ≡ 0 → ⊥) → ltb b.dearest bond ≡ is_dearer b bond
unfolding is_dearer
dearer-later b bond h = rw (ne_eqb b.place 0 h)

module _ (b : Book) (p : JobPrices) where
  pub prices-refused : (p.number ≡ 0 → ⊥) → with_refused b p.number ≡ with_prices b p
  unfolding with_prices
  prices-refused h = rw (ne_eqb p.number 0 h)

  pub prices-priced : p.number ≡ 0 → with_priced b p ≡ with_prices b p
  unfolding with_prices
  prices-priced h = rw (eq-eqb p.number 0 h)

module _ (b : Book) (job : List ℕ) where
  pub field-shut : is_open b ≡ false → b ≡ with_field b job
  unfolding with_field
  field-shut h = rw h

  pub field-full : most_fields ≤ b.fields → b ≡ with_field b job
  unfolding with_field
  field-full h = rw (le-ltb b.fields most_fields h) (go (is_open b))
    where
      go : (t : Bool) → b ≡ cond (t && false) (with_prices b (job_prices job)) b
      go true = refl
      go false = refl

  pub field-added : is_open b ≡ true → b.fields < most_fields → with_field b job ≡ with_prices b (job_prices job)
  unfolding with_field
  field-added h l = rw (h, lt-ltb b.fields most_fields l)

  -- and what it leaves in a memory
  module _ (rows : Job → List ℕ) (memory : List ℕ) where
    pub memory-shut : is_open b ≡ false → memory ≡ field_memory b job rows memory
    unfolding field_memory
    memory-shut h = rw h

    pub memory-full : most_fields ≤ b.fields → memory ≡ field_memory b job rows memory
    unfolding field_memory
    memory-full h = rw (le-ltb b.fields most_fields h) (go (is_open b))
      where
        go : (t : Bool) → memory ≡ cond (t && false) (bytes_memory job most_discounts most_state_prices rows memory) memory
        go true = refl
        go false = refl

    pub memory-added : is_open b ≡ true → b.fields < most_fields →
        bytes_memory job most_discounts most_state_prices rows memory ≡ field_memory b job rows memory
    unfolding field_memory
    memory-added h l = rw (h, lt-ltb b.fields most_fields l)

pub broken-shut : (b : Book) → is_open b ≡ false → b ≡ broken_book b
unfolding broken_book
broken-shut b h = rw h

pub broken-ends : (b : Book) → is_open b ≡ true → ended_book b ≡ broken_book b
unfolding broken_book
broken-ends b h = rw h

pub closed-whole : (b : Book) (left : ℕ) → left ≡ 0 → b ≡ closed_book b left
unfolding closed_book
closed-whole b left h = rw (eq-eqb left 0 h)

pub closed-broken : (b : Book) (left : ℕ) → (left ≡ 0 → ⊥) → broken_book b ≡ closed_book b left
unfolding closed_book
closed-broken b left h = rw (ne_eqb left 0 h)

-- a book that fails a test is shut
pub shut : (b : Book) → (Within b → ⊥) → false ≡ is_open b
shut b h = go (is_open b) refl
  where
    go : (t : Bool) → is_open b ≡ t → false ≡ t
    go true e = absurd (h (open-within b e))
    go false e = refl

pub ended-shut : (b : Book) → b.ended ≡ true → false ≡ is_open b
unfolding is_open
ended-shut b h = rw h

-- the counts are tested last
pub counts-last : (b : Book) → b.ended ≡ false → b.fields ≤ most_fields → b.priced ≤ b.fields → b.bonds ≤ b.fields * value_limit
    → b.options ≤ b.fields * value_limit → b.error_bounds ≤ b.fields * most_error_bound → b.place ≤ b.fields
    → counts_within b.refused b.fields ≡ is_open b
unfolding is_open
counts-last b e f p s o a l = rw (e, le-leb _ _ f, le-leb _ _ p, le-leb _ _ s, le-leb _ _ o, le-leb _ _ a, le-leb _ _ l)

pub option-most : (p : JobPrices) → Bounded p → option_of p ≤ value_limit
option-most p w = go p.has_option
  where
    go : (t : Bool) → cond t p.option.value 0 ≤ value_limit
    go true = w.option
    go false = omega arith
