-- The fit's number and memories, from its plan and from the fit of the converted quotes.
-- Assumes nothing.
use mathlib.Core.Path.{◌≡◌, refl, sym, ◌∙◌, ap, subst}
use mathlib.Core.Bool.{Bool, true, false, cond, not, ◌&&◌}
use mathlib.Core.List.{List, ◌++◌}
use Prim.Native.Nat.{ℕ, suc, ◌+◌, ◌-◌, ◌*◌, ◌≤◌, ◌<◌, min}
use native.Mathlib.Omega.{arith}
use lib.Dec.{eqb, leb, ltb}
use lib.Ieee.{Float}
use lib.ListN.{length, take, drop}
use lib.Seq.{take_at}
use borrow.Author.Tests.{eq-eqb, ne_eqb}
use Rattle.arithmetic.specs.Answers.{refused, answered, lowest_cause}
use Rattle.arithmetic.specs.declared.Answer.{Answer}
use Rattle.arithmetic.specs.Rounding.{one}
use Rattle.arithmetic.specs.Row.{row, values, place, each}
use Rattle.arithmetic.proofs.Numbers.{by_equal}
use Rattle.arithmetic.proofs.RowLaws.{values-row, length-row}
use Rattle.tree.specs.Layout.{laid}
use Rattle.tree.proofs.LayoutLaws.{length-laid}
use Rattle.lattice.specs.Shape.{half_width, row_start, discounts_needed}
use Rattle.lattice.specs.RateTree.{rate_tree}
use Rattle.lattice.specs.Entries.{discounts_needed_answer, state_prices_needed_answer, memory_cause}
use Rattle.lattice.proofs.RateTreeLaws.{start_is}
use Rattle.lattice.proofs.TreeEntries.{by-tree}
use Rattle.arithmetic.specs.Frequency.{is_frequency}
use Rattle.reversion.specs.Reversion.{is_version, working_reversion}
use Rattle.spacing.specs.Spacing.{spacing, spacing_answer, version_spacing, version_spacing_answer}
use Rattle.spacing.proofs.SpacingLaws.{spacing-zero}
use Rattle.spacing.proofs.VersionLaws.{version-zero, version-answer-most, answer-first}
use Rattle.limits.specs.Limits.{most_steps, most_reversion, is_steps, least_quote, most_quote}
use Rattle.curve.specs.Curve.{discount_at, converts_at, in_place, curve_number, curve_memory}
use Rattle.curve.proofs.CurveLaws.{curve-range, curve-stored}
use Rattle.fitted_laws.specs.Fit.{curve_discount, curve_state_price, curve_accepted}
use Rattle.fitting.specs.inside.TableFit.{rows_or_zeros, TreeFitted}
use Rattle.fitting.specs.inside.Preconditions.{QuotesReady}
use Rattle.fitted_laws.specs.Entry.{quotes_of, early_cause, late_cause, fitted_number, fit_memory, fit_discounts, fit_state_prices}
use Rattle.fitting.specs.inside.Plans.{SpacingKnown, PlanAnswer, Planned}
use Rattle.fitted_laws.proofs.CauseLaws.{numbers_of}

-- three answers as the clauses of an entry
pub clauses : {A B C : Type 0} → A × (B × C) → record { number : A; discounted : B; priced : C }
clauses w = record { number = w.0; discounted = w.1.0; priced = w.1.1 }

-- causes 2 to 7 are at most 7
chain-small : (a b c d : Bool) → cond a 2 (cond b 3 (cond c 6 (cond d 7 0))) ≤ 7
chain-small true b c d = omega arith
chain-small false true c d = omega arith
chain-small false false true d = omega arith
chain-small false false false true = omega arith
chain-small false false false false = omega arith

curve-small : (f n : ℕ) (rows kinds : List ℕ) (figures : List Float) (room : ℕ) → curve_number f n rows kinds figures room ≤ 7
unfolding curve_number
curve-small f n rows kinds figures room =
    chain-small (not (is_frequency f)) (not (is_steps n)) (not (in_place n rows kinds figures room)) (not (each n (converts_at f kinds figures)))

tree-small : (n b : ℕ) → (discounts_needed_answer n b).number ≤ 7
tree-small n b =
    by-tree n b (discounts_needed n b) (λ a. a.number ≤ 7) (λ _. omega arith) (λ _. omega arith) (λ _ _ _. omega arith) (λ _. omega arith)

memory-small : (n b ds ps : ℕ) → memory_cause n b ds ps ≤ 7
unfolding memory_cause
memory-small n b ds ps = six (leb (discounts_needed_answer n b).value ds && leb (state_prices_needed_answer n b).value ps)
  where
    six : (t : Bool) → cond t 0 6 ≤ 7
    six true = omega arith
    six false = omega arith

lowest-small : (a b : ℕ) → a ≤ 7 → b ≤ 7 → lowest_cause a b ≤ 7
unfolding lowest_cause
lowest-small a b ha hb = go (eqb a 0) (eqb b 0)
  where
    go : (s t : Bool) → cond s b (cond t a (min a b)) ≤ 7
    go true t = hb
    go false true = ha
    go false false = omega arith

early-small : (c n b spaced ds ps : ℕ) → c ≤ 7 → spaced ≤ 7 → early_cause c n b spaced ds ps ≤ 7
unfolding early_cause
early-small c n b spaced ds ps h l =
    lowest-small _ _ (lowest-small c _ h (tree-small n b)) (lowest-small _ _ l (memory-small n b ds ps))

-- a memory that a refusal leaves, and one that the fit wrote
kept : (number : ℕ) (rows memory : List ℕ) → (number ≡ 0 → ⊥) → number ≤ 8 → memory ≡ fit_memory number rows memory
unfolding fit_memory
kept number rows memory nz h = rw (ne_eqb number 0 nz, ne_eqb number 9 nine)
  where
    nine : number ≡ 9 → ⊥
    nine e = omega arith

laid-size : (b n : ℕ) (v : ℕ → ℕ → ℕ) → length (laid (rate_tree b) v n) ≡ row_start b n
laid-size b n v = length-laid (rate_tree b) v n ∙ start_is b n

written : (b n : ℕ) (t : Bool) (v : ℕ → ℕ → ℕ) (memory after : List ℕ) → after ≡ rows_or_zeros b n t v memory →
    after ≡ fit_memory (cond t 0 9) (laid (rate_tree b) v n) memory
unfolding fit_memory place
written b n true v memory after ea =
    let z : row_start b n ≡ 0 + length (laid (rate_tree b) v n) = omega (arith, laid-size b n v) in
    ea ∙ ap (λ (k : ℕ). laid (rate_tree b) v n ++ drop k memory) z
written b n false v memory after ea =
    let m = length (laid (rate_tree b) v n) in
    let z : row_start b n ≡ 0 + length (row m (λ j. 0)) = omega (arith, length-row m (λ j. 0), laid-size b n v) in
    ea ∙ ap (λ (k : ℕ). row k (λ j. 0) ++ drop (row_start b n) memory) (sym (laid-size b n v)) ∙ ap (λ (k : ℕ). row m (λ j. 0) ++ drop k memory) z

cond-zero : (t : Bool) → ◌≡◌ {A = ℕ} (cond t 8 0) 0 → t ≡ false
cond-zero true e = absurd (none e)
  where
    none : ◌≡◌ {A = ℕ} 8 0 → ⊥
    none z = omega arith
cond-zero false e = refl

cond-eight : (t : Bool) (x : ℕ) → (◌≡◌ {A = ℕ} (cond t 8 0) 0 → ⊥) → cond t 8 0 ≡ cond t 8 x
cond-eight true x h = refl
cond-eight false x h = absurd (h refl)

cond_small : (t : Bool) → cond t 8 0 ≤ 8
cond_small true = omega arith
cond_small false = omega arith

-- the number of a fit in two memories, and what it leaves in them
abbrev pub Answered : ℕ → ℕ → ℕ → ℕ → ℕ → List ℕ → List ℕ → List Float → List ℕ → List ℕ → ℕ → List ℕ → List ℕ → Type 0
Answered f n b spaced h rows kinds figures d p r d' p' =
    (r ≡ fitted_number f n b spaced h rows kinds figures (length d) (length p))
    × ((d' ≡ fit_memory (fitted_number f n b spaced h rows kinds figures (length d) (length p)) (fit_discounts f n b h kinds figures) d)
    × (p' ≡ fit_memory (fitted_number f n b spaced h rows kinds figures (length d) (length p)) (fit_state_prices f n b h kinds figures) p))

-- what code holds once the quotes were converted and the plan was made: the plan, and the memory of the quotes
pub record Prepared (f n b : ℕ) (spaced : Answer) (rows kinds : List ℕ) (figures : List Float) (d p : List ℕ) (plan : PlanAnswer) (after : List ℕ) : Type 0 where
  pub spacing-known : SpacingKnown spaced
  pub planned : Planned n b (curve_number f n rows kinds figures most_steps) spaced.number spaced.value (length d) (length p) plan
  pub memory : List ℕ
  pub memory-length : length memory ≡ most_steps
  pub after_is : after ≡ curve_memory f n rows kinds figures memory

pub prepared : {f n b : ℕ} {spaced : Answer} {rows kinds : List ℕ} {figures : List Float} {d p : List ℕ} {plan : PlanAnswer} {after : List ℕ} {converted : ℕ}
    (memory : List ℕ) → SpacingKnown spaced → length memory ≡ most_steps →
    converted ≡ curve_number f n rows kinds figures most_steps → after ≡ curve_memory f n rows kinds figures memory →
    Planned n b converted spaced.number spaced.value (length d) (length p) plan → Prepared f n b spaced rows kinds figures d p plan after
prepared memory known room ec ea made =
    record { spacing-known = known; planned = rw ec at made; memory = memory; memory-length = room; after_is = ea }

module _ {f n b : ℕ} {spaced : Answer} {rows kinds : List ℕ} {figures : List Float} {d p : List ℕ} {plan : PlanAnswer} {after : List ℕ}
    (k : Prepared f n b spaced rows kinds figures d p plan after) where
  abbrev early : ℕ
  early = early_cause (curve_number f n rows kinds figures most_steps) n b spaced.number (length d) (length p)

  abbrev fit-number : ℕ
  fit-number = fitted_number f n b spaced.number spaced.value rows kinds figures (length d) (length p)

  abbrev wide : Bool
  wide = ltb one (half_width b (n - 1) * spaced.value)

  abbrev accepted : Bool
  accepted = curve_accepted b spaced.value (quotes_of f n kinds figures)

  -- refused before the fit
  module _ (nz : plan.number ≡ 0 → ⊥) where
    number-refused : plan.number ≡ fit-number
    unfolding fitted_number late_cause
    number-refused =
        k.planned.number
        ∙ by_equal early 0
        (λ z. rw (eq-eqb early 0 z) (cond-eight wide _ (λ e. nz (k.planned.number ∙ rw (eq-eqb early 0 z) e))))
        (λ some. rw (ne_eqb early 0 some))

    refused-most : plan.number ≤ 8
    refused-most =
        let small = early-small _ n b _ (length d) (length p) (curve-small f n rows kinds figures most_steps) k.spacing-known.cause-most in
        by_equal early 0
        (λ z. rw (k.planned.number, eq-eqb early 0 z) (cond_small wide))
        (λ some. rw (k.planned.number, ne_eqb early 0 some) (omega (arith, small)))

    kept-as : (part memory : List ℕ) → memory ≡ fit_memory fit-number part memory
    kept-as part memory =
        kept plan.number part memory nz refused-most ∙ ap (λ (x : ℕ). fit_memory x part memory) number-refused

    pub fit_refused : Answered f n b spaced.number spaced.value rows kinds figures d p plan.number d p
    fit_refused =
        (number-refused, (kept-as (fit_discounts f n b spaced.value kinds figures) d, kept-as (fit_state_prices f n b spaced.value kinds figures) p))

  -- accepted so far
  module _ (z : plan.number ≡ 0) where
    quoted-all : curve_number f n rows kinds figures (length k.memory) ≡ 0
    quoted-all = ap (curve_number f n rows kinds figures) k.memory-length ∙ (k.planned.numbers z).quotes-converted

    pub steps-few : n ≤ most_steps
    steps-few = (k.planned.numbers z).limits.steps-within-limit

    quotes-are : take n after ≡ quotes_of f n kinds figures
    unfolding place
    quotes-are =
        ap (take n) (k.after_is ∙ curve-stored f n rows kinds figures k.memory quoted-all)
        ∙ take_at (row n (discount_at f kinds figures)) _ n (length-row n (discount_at f kinds figures))

    pub quotes-length : length (take n after) ≡ n
    quotes-length = ap length quotes-are ∙ length-row n _

    value-is : (i : ℕ) → i < n → values (take n after) i ≡ discount_at f kinds figures i
    value-is i h = ap (λ (x : List ℕ). values x i) quotes-are ∙ values-row n i _ h

    in-range : (i : ℕ) → i < n → (least_quote ≤ values (take n after) i) × (values (take n after) i ≤ most_quote)
    in-range i h = rw (value-is i h) (curve-range f n rows kinds figures (length k.memory) quoted-all i h)

    pub quotes-ready : QuotesReady b plan.spacing plan.widest (take n after) (length d) (length p)
    quotes-ready =
        let numbers = k.planned.numbers z in
        record {
          limits = rw quotes-length numbers.limits;
          widest-is = rw quotes-length (k.planned.widest-is z);
          spacing-within-one = k.planned.spacing-within-one z;
          quotes-least = λ i h. (in-range i (rw quotes-length at h)).0;
          quotes-most = λ i h. (in-range i (rw quotes-length at h)).1;
          room-discounts = rw quotes-length numbers.room-discounts;
          room-state-prices = rw quotes-length numbers.room-state-prices;
        }

    none-early : early ≡ 0
    none-early = by_equal early 0 (λ e. e) (λ some. absurd (some (sym (rw (ne_eqb early 0 some) at k.planned.number) ∙ z)))

    not_wide : wide ≡ false
    not_wide = cond-zero _ (sym (rw (eq-eqb early 0 none-early) at k.planned.number) ∙ z)

    number-found : fit-number ≡ cond accepted 0 9
    unfolding fitted_number late_cause
    number-found = rw (eq-eqb early 0 none-early, not_wide)

    made_as : (m : ℕ) (v : ℕ → ℕ → ℕ) (memory after : List ℕ) → after ≡ rows_or_zeros b m accepted v memory →
        after ≡ fit_memory fit-number (laid (rate_tree b) v m) memory
    made_as m v memory after e =
        written b m accepted v memory after e ∙ ap (λ (x : ℕ). fit_memory x (laid (rate_tree b) v m) memory) (sym number-found)

    module _ {r : ℕ} {d' p' : List ℕ}
        (er : r ≡ cond (curve_accepted b plan.spacing (take n after)) 0 9)
        (t : TreeFitted b (length (take n after)) (curve_accepted b plan.spacing (take n after))
        (curve_discount b plan.spacing (take n after)) (curve_state_price b plan.spacing (take n after)) d p d' p') where
      pub fit-made : Answered f n b spaced.number spaced.value rows kinds figures d p r d' p'
      fit-made =
          let named = rw (quotes-length, k.planned.spacing-is z, quotes-are) at t in (
            (rw (k.planned.spacing-is z, quotes-are) at er) ∙ sym number-found,
            (made_as n _ d d' named.discounted, made_as (suc n) _ p p' named.priced),
          )

-- ---- the spacing

answer-small : (l r s v : Bool) (x : ℕ) → (cond l (refused 2) (cond r (refused 4) (cond s (refused 5) (cond v (refused 7) (answered x))))).number ≤ 7
answer-small true r s v x = omega arith
answer-small false true s v x = omega arith
answer-small false false true v x = omega arith
answer-small false false false true x = omega arith
answer-small false false false false x = omega arith

pub version-known : (v f s b : ℕ) {a : Answer} → a ≡ version_spacing_answer v f s b → SpacingKnown a
unfolding version_spacing_answer
version-known v f s b e =
    rw e record {
      cause-most = answer-small (not (is_frequency f)) (ltb most_reversion b) (ltb 50000 s) (not (is_version v)) (version_spacing v f s b);
      within-limit = version-answer-most v f s b;
    }

pub spacing-known : (f s : ℕ) (a : Answer) → a ≡ spacing_answer f s → SpacingKnown a
spacing-known f s a e = version-known 1 f s 0 (e ∙ sym (answer-first f s))

-- the spacing counts only where it has no cause of its own
module _ (f n b spaced : ℕ) (rows kinds : List ℕ) (figures : List Float) (some : spaced ≡ 0 → ⊥) (small : spaced ≤ 7) where
  early-some : (ds ps : ℕ) → early_cause (curve_number f n rows kinds figures most_steps) n b spaced ds ps ≡ 0 → ⊥
  early-some ds ps z = some (numbers_of n b _ spaced ds ps z).spacing-found

  number-early : (h ds ps : ℕ) → fitted_number f n b spaced h rows kinds figures ds ps
      ≡ early_cause (curve_number f n rows kinds figures most_steps) n b spaced ds ps
  unfolding fitted_number
  number-early h ds ps = rw (ne_eqb _ 0 (early-some ds ps))

  number-alike : (h g ds ps : ℕ) → fitted_number f n b spaced h rows kinds figures ds ps ≡ fitted_number f n b spaced g rows kinds figures ds ps
  number-alike h g ds ps = number-early h ds ps ∙ sym (number-early g ds ps)

  memory-same : (h ds ps : ℕ) (part memory : List ℕ) → memory ≡ fit_memory (fitted_number f n b spaced h rows kinds figures ds ps) part memory
  memory-same h ds ps part memory =
      let early = number-early h ds ps in
      kept _ part memory (λ z. early-some ds ps (sym early ∙ z))
      (omega (arith, early, early-small _ n b spaced ds ps (curve-small f n rows kinds figures most_steps) small))

  refused-alike : (h g : ℕ) (d p : List ℕ) {d' p' : List ℕ} {r : ℕ} →
      Answered f n b spaced h rows kinds figures d p r d' p' → Answered f n b spaced g rows kinds figures d p r d' p'
  refused-alike h g d p (e, (ed, ep)) = (
    e ∙ number-alike h g (length d) (length p),
    (
      ed ∙ sym (memory-same h (length d) (length p) _ d) ∙ memory-same g (length d) (length p) _ d,
      ep ∙ sym (memory-same h (length d) (length p) _ p) ∙ memory-same g (length d) (length p) _ p,
    ),
  )

module _ (f n : ℕ) (rows kinds : List ℕ) (figures : List Float) (d p : List ℕ) {d' p' : List ℕ} {r : ℕ} where
  spacing-alike : (b spaced h g : ℕ) → spaced ≤ 7 → (spaced ≡ 0 → h ≡ g) →
      Answered f n b spaced h rows kinds figures d p r d' p' → Answered f n b spaced g rows kinds figures d p r d' p'
  spacing-alike b spaced h g small e made =
      by_equal spaced 0
      (λ z. subst (λ (x : ℕ). Answered f n b spaced x rows kinds figures d p r d' p') (e z) made)
      (λ some. refused-alike f n b spaced rows kinds figures some small h g d p made)

  -- the fit, from the answer of its spacing
  pub fit-answered : (b s : ℕ) (a : Answer) → a ≡ spacing_answer f s → Answered f n b a.number a.value rows kinds figures d p r d' p' →
      Answered f n b (spacing_answer f s).number (spacing f s) rows kinds figures d p r d' p'
  fit-answered b s a e made =
      spacing-alike b (spacing_answer f s).number (spacing_answer f s).value (spacing f s)
      (spacing-known f s (spacing_answer f s) refl).cause-most (λ z. (spacing-zero f s z).value)
      (subst (λ (x : Answer). Answered f n b x.number x.value rows kinds figures d p r d' p') e made)

  -- the fit by version, from its working reversion and the answer of its spacing
  pub version-answered : (v b s w : ℕ) (a : Answer) → w ≡ working_reversion v b → a ≡ version_spacing_answer v f s b →
      Answered f n w a.number a.value rows kinds figures d p r d' p' →
      Answered f n (working_reversion v b) (version_spacing_answer v f s b).number (version_spacing v f s b) rows kinds figures d p r d' p'
  version-answered v b s w a ew e made =
      spacing-alike (working_reversion v b) (version_spacing_answer v f s b).number (version_spacing_answer v f s b).value (version_spacing v f s b)
      (version-known v f s b {a = version_spacing_answer v f s b} refl).cause-most (λ z. (version-zero v f s b z).value)
      (subst (λ (x : Answer). Answered f n (working_reversion v b) x.number x.value rows kinds figures d p r d' p') e
      (subst (λ (x : ℕ). Answered f n x a.number a.value rows kinds figures d p r d' p') ew made))
