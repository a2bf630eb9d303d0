-- Joining reports is associative, refusals too, and has the empty report as unit.
-- Assumes nothing.
use mathlib.Core.Path.{◌≡◌, refl, sym, ap, ◌∙◌}
use mathlib.Core.Bool.{true, false}
use Prim.Native.Nat.{◌+◌, ◌≤◌, ◌<◌}
use native.Mathlib.Omega.{arith}
use borrow.Author.Tests.{le-leb, lt-leb}
use lib.ListN.{length}
use Rattle.arithmetic.proofs.Numbers.{by_order}
use Rattle.book_laws.specs.Bounds.{most_number}
use Rattle.report_laws.specs.declared.Report.{Report}
use Rattle.report_laws.specs.declared.Joined.{Joined}
use Rattle.report_laws.specs.Reports.{empty_report, sum_report}
use Rattle.report_laws.specs.Joins.{size_of, most_size, is_report, refused_join, given_join, joined_report, and_then}
use Rattle.report_laws.proofs.SumLaws.{Plain, sum-assoc, sum-empty-left, sum-empty-right}
use Rattle.report_laws.proofs.SoundLaws.{Sound, report-sound, sound-report, empty-sound, sum-size, sum-sound}

-- ---- what a join answers

module _ (a b : Report) where
  pub first-refused : is_report a ≡ false → refused_join 1 ≡ joined_report a b
  unfolding joined_report
  first-refused e = rw e

  module _ (ra : is_report a ≡ true) where
    pub second-refused : is_report b ≡ false → refused_join 1 ≡ joined_report a b
    unfolding joined_report
    second-refused e = rw (ra, e)

    module _ (rb : is_report b ≡ true) where
      pub too_many : most_size < size_of a + size_of b → refused_join 12 ≡ joined_report a b
      unfolding joined_report
      too_many h = rw (ra, rb, lt-leb (size_of a + size_of b) most_size h)

      pub join-given : size_of a + size_of b ≤ most_size → given_join (sum_report a b) ≡ joined_report a b
      unfolding joined_report
      join-given h = rw (ra, rb, le-leb (size_of a + size_of b) most_size h)

-- one join after another
then-given : (r : Report) (next : Report → Joined) → and_then (given_join r) next ≡ next r
unfolding and_then
then-given r next = refl

then-refused : (next : Report → Joined) → and_then (refused_join 12) next ≡ refused_join 12
unfolding and_then
then-refused next = refl

-- ---- associative

module _ (a b c : Report) (ra : is_report a ≡ true) (rb : is_report b ≡ true) (rc : is_report c ≡ true) where
  sum-report : (x y : Report) → is_report x ≡ true → is_report y ≡ true → size_of x + size_of y ≤ most_size → is_report (sum_report x y) ≡ true
  sum-report x y rx ry h = sound-report _ (sum-sound x y (report-sound x rx) (report-sound y ry) h)

  -- all three: given, or too large, whichever two are joined first
  left-given : size_of a + size_of b + size_of c ≤ most_size →
      and_then (joined_report a b) (λ ab. joined_report ab c) ≡ given_join (sum_report (sum_report a b) c)
  left-given h =
      let few : size_of a + size_of b ≤ most_size = omega arith in
      ap (λ (j : Joined). and_then j (λ ab. joined_report ab c)) (sym (join-given a b ra rb few))
      ∙ then-given (sum_report a b) (λ ab. joined_report ab c)
      ∙ sym (join-given (sum_report a b) c (sum-report a b ra rb few) rc (omega (arith, sum-size a b)))

  right-given : size_of a + size_of b + size_of c ≤ most_size →
      and_then (joined_report b c) (λ bc. joined_report a bc) ≡ given_join (sum_report a (sum_report b c))
  right-given h =
      let few : size_of b + size_of c ≤ most_size = omega arith in
      ap (λ (j : Joined). and_then j (λ bc. joined_report a bc)) (sym (join-given b c rb rc few))
      ∙ then-given (sum_report b c) (λ bc. joined_report a bc)
      ∙ sym (join-given a (sum_report b c) ra (sum-report b c rb rc few) (omega (arith, sum-size b c)))

  left_over : most_size < size_of a + size_of b + size_of c → and_then (joined_report a b) (λ ab. joined_report ab c) ≡ refused_join 12
  left_over h =
      by_order (size_of a + size_of b) most_size
      (λ few.
      ap (λ (j : Joined). and_then j (λ ab. joined_report ab c)) (sym (join-given a b ra rb few))
      ∙ then-given (sum_report a b) (λ ab. joined_report ab c)
      ∙ sym (too_many (sum_report a b) c (sum-report a b ra rb few) rc (omega (arith, sum-size a b))))
      (λ many. ap (λ (j : Joined). and_then j (λ ab. joined_report ab c)) (sym (too_many a b ra rb many)) ∙ then-refused (λ ab. joined_report ab c))

  right-over : most_size < size_of a + size_of b + size_of c → and_then (joined_report b c) (λ bc. joined_report a bc) ≡ refused_join 12
  right-over h =
      by_order (size_of b + size_of c) most_size
      (λ few.
      ap (λ (j : Joined). and_then j (λ bc. joined_report a bc)) (sym (join-given b c rb rc few))
      ∙ then-given (sum_report b c) (λ bc. joined_report a bc)
      ∙ sym (too_many a (sum_report b c) ra (sum-report b c rb rc few) (omega (arith, sum-size b c))))
      (λ many. ap (λ (j : Joined). and_then j (λ bc. joined_report a bc)) (sym (too_many b c rb rc many)) ∙ then-refused (λ bc. joined_report a bc))

  -- JOINING IS ASSOCIATIVE: three reports give the same, or the same refusal, whichever two are joined first
  pub join-assoc : and_then (joined_report a b) (λ ab. joined_report ab c) ≡ and_then (joined_report b c) (λ bc. joined_report a bc)
  join-assoc =
      by_order (size_of a + size_of b + size_of c) most_size
      (λ h. left-given h ∙ ap given_join (sum-assoc a b c) ∙ sym (right-given h))
      (λ h. left_over h ∙ sym (right-over h))

-- ---- the unit

empty-size : size_of empty_report ≡ 0
unfolding empty_report
empty-size = refl

pub empty-report : is_report empty_report ≡ true
empty-report = sound-report empty_report empty-sound

-- a report of thirteen counts keeps nothing where nothing is priced
sound-plain : (r : Report) → Sound r → length r.refused ≡ most_number → Plain r
sound-plain r s size =
    record {
      size = size;
      dearest = λ z. omega (arith, s.dearest, s.bonds, unpriced z);
      book = λ z. (s.named.none (unpriced z)).1;
    }
  where
    unpriced : r.place ≡ 0 → r.priced ≡ 0
    unpriced z = by_order r.priced 0 (λ h. omega arith) (λ h. absurd (omega (arith, (s.named.some (λ e. omega arith)).0)))

module _ (r : Report) (report : is_report r ≡ true) (size : length r.refused ≡ most_number) where
  plain : Plain r
  plain = sound-plain r (report-sound r report) size

  few : size_of r ≤ most_size
  few = (report-sound r report).size

  -- THE EMPTY REPORT IS THE UNIT OF JOINING
  pub join-empty-left : joined_report empty_report r ≡ given_join r
  join-empty-left =
      sym (join-given empty_report r empty-report report (omega (arith, empty-size, few))) ∙ ap given_join (sum-empty-left r plain)

  pub join-empty-right : joined_report r empty_report ≡ given_join r
  join-empty-right =
      sym (join-given r empty_report report empty-report (omega (arith, empty-size, few))) ∙ ap given_join (sum-empty-right r plain)
