-- The promises of haircut bands are kept.
-- Assumes nothing.
use mathlib.Core.Path.{◌≡◌, refl, sym, ◌∙◌, ap, subst}
use mathlib.Core.Bool.{false}
use mathlib.Core.Logic.{inl, inr, ⊎_elim}
use Prim.Native.Nat.{ℕ, ◌+◌, ◌≤◌, ◌<◌}
use native.Mathlib.Omega.{arith}
use Rattle.arithmetic.specs.Row.{values}
use Rattle.arithmetic.proofs.Implied.{implied}
use Rattle.bands.specs.Bands.{coverage, table_verdict}
use Rattle.bands.specs.Judged.{FirstFailing, AllSound, Judged, bad-band, too_many, uncovered, overlapping, accepted}
use Rattle.bands.specs.declared.Verdict.{Verdict}
use Rattle.bands.proofs.VerdictLaws.{verdict-lengths, verdict-table}
use Rattle.bands.proofs.Meaning.{verdict-judged, judged-verdict}
use Rattle.lending.specs.Lending.{after_haircut}
use Rattle.lending.specs.declared.Worth.{Worth}
use Rattle.lending.proofs.LendingLaws.{refused-number, lending-accepted, lending-row-low, lending-row-high, lending-lengths}
use Rattle.lending.proofs.LendingLaws.{lending-price, lending-refused, worth-most}
use Rattle.band_promises.specs.BandPromises.{Table, size, verdict_on, worth_by, shown, without, OneLength, AllGood}
use Rattle.band_promises.specs.BandPromises.{Once, Pair, OnceBefore, Says, Lent, BandPromises}
use Rattle.band_promises.specs.BandPromises.{no_table, a-bad-band, over-forty, in-none, in-several, is-accepted}
use Rattle.band_promises.proofs.CoverLaws.{by-test, true-false, bands_in, same, same_length, length-same, length-other}
use Rattle.band_promises.proofs.CoverLaws.{once_is, nowhere-is, twice-is, once-band, is-once, is-nowhere, is-twice}
use Rattle.band_promises.proofs.CoverLaws.{sound-good, good-sound, unsound-bad, bad-unsound}

-- ---- the verdict

module _ (t : Table) where
  abbrev Means : Verdict → Type 0
  Means v = Judged (bands_in t) (values t.haircuts) v

  all-good : OneLength t → AllSound (bands_in t) (values t.haircuts) → size t ≤ 40 → AllGood t
  all-good one all m = record { one-length = one; good = λ k h. sound-good t k (all k h); not-many = m }

  all_sound : AllGood t → AllSound (bands_in t) (values t.haircuts)
  all_sound g k h = good-sound t k (g.good k h)

  module _ (row price : ℕ) where
    before : FirstFailing (bands_in t) row price → OnceBefore t row price
    before f r p q =
        ⊎_elim (λ l. once_is t r p (f.rows_before r p q.0 l q.2))
        (λ e. subst (λ (x : ℕ). Once t x p) (sym e.0) (once_is t row p (f.prices-before p e.1)))

    first-failing :
        Pair row price → (coverage (bands_in t) row price ≡ 1 → ⊥) → OnceBefore t row price → FirstFailing (bands_in t) row price
    first-failing q h b =
        record {
          row-least = q.0;
          row-most = q.1;
          price-most = q.2;
          here = h;
          rows_before = λ r p l m n. is-once t r p (b r p (l, omega (arith, q.1), n) (inl m));
          prices-before = λ p m. is-once t row p (b row p (q.0, q.1, omega (arith, q.2)) (inr (refl, m)));
        }

  judged-says : OneLength t → (v : Verdict) → Means v → Says t v
  judged-says one v (bad-band k h here earlier e) =
      a-bad-band k one h (unsound-bad t k here) (λ j m. sound-good t j (earlier j m)) e
  judged-says one v (too_many all m e) = over-forty one (λ k h. sound-good t k (all k h)) m e
  judged-says one v (uncovered row price all m f z e) =
      in-none row price (all-good one all m) (f.row-least, f.row-most, f.price-most) (nowhere-is t row price z) (before row price f) e
  judged-says one v (overlapping row price all m f z e) =
      in-several row price (all-good one all m) (f.row-least, f.row-most, f.price-most) (twice-is t row price z) (before row price f) e
  judged-says one v (accepted all m p e) =
      is-accepted (all-good one all m) (λ row price q. once_is t row price (p row price q.0 q.1 q.2)) e

  on-table : OneLength t → table_verdict (bands_in t) (values t.haircuts) ≡ verdict_on t
  on-table one = verdict-table implied (length-same t one)

  no_lengths : (OneLength t → ⊥) → shown 6 0 0 0 ≡ verdict_on t
  no_lengths h = verdict-lengths implied (length-other t h)

  says : Says t (verdict_on t)
  says =
      by-test (same t)
      (λ e.
      let one = same_length t e in
      subst (Says t) (on-table one) (judged-says one (table_verdict (bands_in t) (values t.haircuts)) (verdict-judged (bands_in t) (values t.haircuts))))
      (λ e. let none : OneLength t → ⊥ = λ h. true-false (sym (length-same t h) ∙ e) in no_table none (sym (no_lengths none)))

  module _ (v : Verdict) where
    meant : OneLength t → Means v → v ≡ verdict_on t
    meant one j = judged-verdict (bands_in t) (values t.haircuts) v j ∙ on-table one

    only : Says t v → v ≡ verdict_on t
    only (no_table h e) = e ∙ no_lengths h
    only (a-bad-band k one h bad good e) =
        meant one (bad-band k h (bad-unsound t k bad) (λ j m. good-sound t j (good j m)) e)
    only (over-forty one good m e) = meant one (too_many (λ k h. good-sound t k (good k h)) m e)
    only (in-none row price g q n b e) =
        let z = is-nowhere t row price n in
        meant g.one-length
        (uncovered row price (all_sound g) g.not-many (first-failing row price q (λ o. omega (arith, z, o)) b) z e)
    only (in-several row price g q n b e) =
        let z = is-twice t row price n in
        meant g.one-length
        (overlapping row price (all_sound g) g.not-many (first-failing row price q (λ o. omega (arith, z, o)) b) z e)
    only (is-accepted g p e) =
        meant g.one-length
        (accepted (all_sound g) g.not-many (λ row price l m n. is-once t row price (p row price (l, m, n))) e)

  -- ---- the worth

  -- number 0 is given to a table alone
  has-lengths : (verdict_on t).number ≡ 0 → OneLength t
  has-lengths z = by-test (same t) (same_length t) (λ e. absurd (other e))
    where
      other : same t ≡ false → ⊥
      other e =
          let none : OneLength t → ⊥ = λ h. true-false (sym (length-same t h) ∙ e) in
          refused-number (verdict_on t) 5 0 0 0 (sym (no_lengths none)) z

  -- and says that each pair is in precisely one band
  zero-says : (v : Verdict) → v.number ≡ 0 → Says t v → (v ≡ shown 0 0 0 0) × ((row price : ℕ) → Pair row price → Once t row price)
  zero-says v z (no_table h e) = absurd (refused-number v 5 0 0 0 e z)
  zero-says v z (a-bad-band k one h bad good e) = absurd (refused-number v 15 0 0 (k + 1) e z)
  zero-says v z (over-forty one good m e) = absurd (refused-number v 15 0 0 41 e z)
  zero-says v z (in-none row price g q n b e) = absurd (refused-number v 16 row price 0 e z)
  zero-says v z (in-several row price g q n b e) = absurd (refused-number v 17 row price 0 e z)
  zero-says v z (is-accepted g p e) = (e, p)

  module _ (row price : ℕ) (q : Pair row price) where
    lent_by : (verdict_on t).number ≡ 0 → Lent t row price
    lent_by z =
        let s = zero-says (verdict_on t) z says in
        let one = s.1 row price q in
        let answer : record { worth = after_haircut price (values t.haircuts one.band); verdict = verdict_on t } ≡ worth_by t row price =
        lending-accepted implied (length-same t (has-lengths z)) refl z q.0 q.1 q.2 (once-band t row price one) in
        record {
          found = one;
          is = sym (ap (λ (w : Worth). w.worth) answer);
          at_most =
              subst (λ (x : ℕ). x ≤ price) (ap (λ (w : Worth). w.worth) answer) (worth-most price (values t.haircuts one.band));
          verdict-zero = sym (ap (λ (w : Worth). w.verdict) answer) ∙ s.0;
        }

    refused-by : OneLength t → ((verdict_on t).number ≡ 0 → ⊥) → worth_by t row price ≡ without (verdict_on t)
    refused-by one z =
        sym (lending-refused implied q.0 q.1 (length-same t one) refl q.2 z)

  module _ (row price : ℕ) where
    past_row : 60 < row → worth_by t row price ≡ without (shown 6 0 0 0)
    past_row h = sym (lending-row-high implied h)

    before-row : row < 1 → worth_by t row price ≡ without (shown 6 0 0 0)
    before-row h = sym (lending-row-low implied h)

    other-lengths : (OneLength t → ⊥) → worth_by t row price ≡ without (shown 6 0 0 0)
    other-lengths h =
        sym (lending-lengths implied (length-other t h))

    past-price : 1 ≤ row → row ≤ 60 → OneLength t → 8000000000 < price → worth_by t row price ≡ without (shown 12 0 0 0)
    past-price l m one h =
        sym (lending-price implied l m (length-same t one) h)

pub kept : BandPromises
kept =
    record {
      verdict-says = says;
      nothing-else = only;
      row_before = λ t price. before-row t 0 price (omega arith);
      row-past = past_row;
      lengths_differ = other-lengths;
      price-past = past-price;
      table-refused = refused-by;
      lent = lent_by;
    }
