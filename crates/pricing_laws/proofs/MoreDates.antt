-- Lists of which one has every row of the other: the longer one's option costs no less.
-- Assumes nothing.
use mathlib.Core.Path.{◌≡◌, sym, ◌∙◌}
use mathlib.Core.Bool.{true}
use mathlib.Core.List.{List, [], ◌∷◌}
use Prim.Native.Nat.{ℕ, suc, ◌+◌, ◌-◌, ◌≤◌}
use native.Mathlib.Omega.{arith}
use lib.ListN.{length}
use borrow.Author.Tests.{ne_eqb, le-leb, lt-leb}
use Rattle.arithmetic.proofs.Numbers.{by_equal}
use Rattle.arithmetic.proofs.RowLaws.{length-row, values-row}
use Rattle.pricing_laws.specs.Pricer.{Pricer, Side, option}
use Rattle.pricing_laws.specs.Schedule.{in_dates, last_date, dated_schedule, dates_cause, Contained, every_row, kind_dates, kind_side}
use Rattle.pricing_laws.proofs.Dates.{AcceptedDates, dates-accepted, among-entry, among-some, rising-last}
use Rattle.pricing_laws.proofs.Rights.{Monotone, Covers, more-rights}

module _ (few many : List ℕ) (c : Contained few many) where
  contained-in : (i : ℕ) → in_dates few i ≡ true → in_dates many i ≡ true
  contained-in i h =
      let at-few = among-some few (length few) i h in
      let at-many = c at-few.0 at-few.1 in
      rw (at-few.2 ∙ at-many.2) (among-entry many (length many) at-many.0 at-many.1)

  -- then its schedule has every right of the other's
  pub contained-covers : (n : ℕ) → AcceptedDates n few → AcceptedDates n many → Covers (dated_schedule few) (dated_schedule many)
  unfolding dated_schedule
  contained-covers n a b =
      let last-in : in_dates few (last_date few) ≡ true = among-entry few (length few) (length few - 1) (omega (arith, a.some)) in
      let at-many = c (length few - 1) (omega (arith, a.some)) in
      record {
        later = rw at-many.2 (rising-last many b.rises at-many.0 at-many.1);
        last-listed = λ h. contained-in (last_date few) last-in;
        rows-listed = λ i h e. contained-in i e;
      }

  -- for every pricer whose roll keeps order, at row 0
  pub more-dates :
      {Node : Type 0} (Stands : ℕ → Node → Type 0) (p : Pricer Node) → Monotone Stands p.roll → (flow : ℕ → ℕ) (n : ℕ) (side : Side) (strike : ℕ) →
      dates_cause n few ≡ 0 → dates_cause n many ≡ 0 → (k : Node) → Stands 0 k →
      option p flow n side strike (dated_schedule few) 0 k ≤ option p flow n side strike (dated_schedule many) 0 k
  more-dates Stands p m flow n side strike hf hm k hk =
      more-rights Stands p m flow n side strike (dated_schedule few) (dated_schedule many)
      (contained-covers n (dates-accepted n few hf) (dates-accepted n many hm)) 0 (omega arith) k hk

-- expiry alone is in every row to expiry
alone-in-every : (expiry : ℕ) → Contained (expiry ∷ []) (every_row expiry)
alone-in-every expiry k h =
    let first : k ≡ 0 = omega arith in
    (expiry, omega (arith, length-row (suc expiry) (λ i. i)), rw first (sym (values-row (suc expiry) expiry (λ i. i) (omega arith))))

-- kinds 1 and 2, the European ones, against 3 and 4
pub european-in-american : (kind expiry : ℕ) → 1 ≤ kind → kind ≤ 2 → Contained (kind_dates kind expiry) (kind_dates (kind + 2) expiry)
unfolding kind_dates
european-in-american kind expiry some few = rw (lt-leb 3 kind (omega arith), le-leb 3 (kind + 2) (omega arith)) (alone-in-every expiry)

pub american-side : (kind : ℕ) → 1 ≤ kind → kind ≤ 2 → kind_side (kind + 2) ≡ kind_side kind
unfolding kind_side
american-side kind some few =
    by_equal kind 1 (λ e. rw e)
    (λ other.
    rw (
      ne_eqb kind 1 other,
      ne_eqb kind 3 (λ e. omega arith),
      ne_eqb (kind + 2) 1 (λ e. omega arith),
      ne_eqb (kind + 2) 3 (λ e. other (omega arith)),
    ))
