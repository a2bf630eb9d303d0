-- The causes of quotes, curves and fits are those of the table.
-- Assumes nothing.
use mathlib.Core.Path.{◌≡◌, refl, sym, ◌∙◌, ap, ap₂}
use mathlib.Core.Bool.{Bool, true, false, not, cond, ◌&&◌, ◌||◌, and-true, and_assoc}
use mathlib.Core.List.{List, [], ◌∷◌, ◌++◌}
use Prim.Native.Nat.{ℕ, suc, ◌-◌, ◌*◌}
use borrow.Author.Tests.{le-leb}
use lib.Dec.{eqb, leb, ltb}
use lib.Ieee.{Float}
use lib.IntN.{ℤ}
use lib.ListN.{length}
use Rattle.arithmetic.specs.Answers.{refused, answered, lowest_cause, first_cause}
use Rattle.arithmetic.specs.Rounding.{one}
use Rattle.arithmetic.specs.Row.{each}
use Rattle.arithmetic.specs.Frequency.{is_frequency}
use Rattle.arithmetic.proofs.Numbers.{by_order}
use Rattle.arithmetic.proofs.BetweenLaws.{and_right}
use Rattle.arithmetic.proofs.RowLaws.{length-row}
use Rattle.limits.specs.Limits.{is_steps, is_reversion, is_discount, most_steps, most_reversion, shape_cause}
use Rattle.lattice.specs.Shape.{half_width, row_start, discounts_needed, state_prices_needed}
use Rattle.lattice.specs.Entries.{discounts_needed_answer, state_prices_needed_answer, about_tree, memory_cause}
use Rattle.lattice.specs.RateTree.{rate_tree}
use Rattle.figure.specs.Figure.{beyond, billionths_of}
use Rattle.quotes.specs.declared.Point.{Point}
use Rattle.quotes.specs.Quotes.{row_known, in_range, factor_discount, rate_discount, yield_discount, ranged_answer, figure_answer, quote_answer, kind_answer, lone_answer}
use Rattle.curve.specs.Curve.{place_at, in_place, discount_at, curve_number}
use Rattle.reversion.specs.Reversion.{is_version, working_reversion, by_version}
use Rattle.reversion.proofs.ReversionLaws.{working-first, working-limit, working-beyond}
use Rattle.spacing.specs.Spacing.{spacing, spacing_answer, version_spacing, version_spacing_answer}
use Rattle.spacing.proofs.VersionLaws.{version-first}
use Rattle.fit_laws.specs.StatePrices.{accepted_row}
use Rattle.fitted_laws.specs.Fit.{curve_accepted}
use Rattle.fitted_laws.specs.Entry.{quotes_of, early_cause, late_cause, fitted_number, fit_number, fit_discount, version_number}
use Rattle.fitted_laws.proofs.VersionLaws.{first-number}
use Rattle.promises.specs.Causes.{Cause, cause, first_of, tree_causes, is_kind, kind_discount, quote_in_range, quotes_placed, quotes_converted, every_node}
use Rattle.promises.proofs.CauseTables.{not-leb, seven, first-append, number_of}

-- ---- a lone quote

-- a figure by a rule for its billionths
figured : (x : Float) (discount : ℤ → ℕ) →
    (figure_answer x discount).number ≡ cond (beyond x) 7 (cond (not (quote_in_range (discount (billionths_of x)))) 7 0)
unfolding figure_answer ranged_answer in_range
figured x discount = by_tests (beyond x) (quote_in_range (discount (billionths_of x)))
  where
    p : ℕ
    p = discount (billionths_of x)

    by_tests : (t u : Bool) → (cond t (refused 7) (cond u (answered p) (refused 7))).number ≡ cond t 7 (cond (not u) 7 0)
    by_tests true u = refl
    by_tests false true = refl
    by_tests false false = refl

pub lone-causes : (f kind : ℕ) (p : Point) →
    (lone_answer f kind p).number
    ≡ first_of (cause 2 (not (is_frequency f)) ∷ cause 6 (not (is_steps p.row)) ∷ cause 7 (not (is_kind kind)) ∷ cause 7 (beyond p.figure)
    ∷ cause 7 (not (quote_in_range (kind_discount f kind p.row (billionths_of p.figure)))) ∷ [])
unfolding lone_answer row_known kind_answer quote_answer first_of
lone-causes f kind p = by_tests (not (is_frequency f)) (not (is_steps p.row)) (eqb kind 5) (eqb kind 6) (eqb kind 9)
  where
    x : Float
    x = p.figure

    r : ℤ
    r = billionths_of x

    by_kind : (five six nine : Bool) →
        (cond five (figure_answer x factor_discount)
        (cond six (figure_answer x (rate_discount f p.row)) (cond nine (figure_answer x (yield_discount f p.row)) (refused 7)))).number
        ≡ cond (not (five || six || nine)) 7 (cond (beyond x) 7
        (cond (not (quote_in_range (cond five (factor_discount r) (cond six (rate_discount f p.row r) (yield_discount f p.row r))))) 7 0))
    by_kind true six nine = figured x factor_discount
    by_kind false true nine = figured x (rate_discount f p.row)
    by_kind false false true = figured x (yield_discount f p.row)
    by_kind false false false = refl

    by_tests : (t u five six nine : Bool) →
        (cond t (refused 2) (cond u (refused 6) (cond five (figure_answer x factor_discount)
        (cond six (figure_answer x (rate_discount f p.row)) (cond nine (figure_answer x (yield_discount f p.row)) (refused 7)))))).number
        ≡ cond t 2 (cond u 6 (cond (not (five || six || nine)) 7 (cond (beyond x) 7
        (cond (not (quote_in_range (cond five (factor_discount r) (cond six (rate_discount f p.row r) (yield_discount f p.row r))))) 7 0))))
    by_tests true u five six nine = refl
    by_tests false true five six nine = refl
    by_tests false false five six nine = by_kind five six nine

-- ---- a curve

-- the room is tried among the lengths
placed_alike : (n : ℕ) (rows kinds : List ℕ) (figures : List Float) (room : ℕ) →
    in_place n rows kinds figures room ≡ quotes_placed n rows kinds figures && leb n room
unfolding in_place
placed_alike n rows kinds figures room =
    exchanged (eqb (length rows) n && eqb (length kinds) n && eqb (length figures) n) (leb n room) (each n (place_at rows))
  where
    exchanged : (a c d : Bool) → a && c && d ≡ a && d && c
    exchanged false c d = refl
    exchanged true true true = refl
    exchanged true true false = refl
    exchanged true false true = refl
    exchanged true false false = refl

pub curve-causes : (f n : ℕ) (rows kinds : List ℕ) (figures : List Float) (room : ℕ) →
    curve_number f n rows kinds figures room
    ≡ first_of (cause 2 (not (is_frequency f)) ∷ cause 3 (not (is_steps n)) ∷ cause 6 (not (quotes_placed n rows kinds figures && leb n room))
    ∷ cause 7 (not (quotes_converted f n kinds figures)) ∷ [])
unfolding curve_number first_of
curve-causes f n rows kinds figures room = rw (placed_alike n rows kinds figures room) refl

-- ---- tree and spacing

pub shape-first : (n b : ℕ) → shape_cause n b ≡ first_of (tree_causes n b [])
unfolding shape_cause first_of
shape-first n b = by_tests (is_steps n) (is_reversion b)
  where
    by_tests : (s r : Bool) → ◌≡◌ {A = ℕ} (cond s (cond r 0 4) 3) (cond (not s) 3 (cond (not r) 4 0))
    by_tests false r = refl
    by_tests true false = refl
    by_tests true true = refl

pub spacing-causes : (f s : ℕ) → (spacing_answer f s).number ≡ first_of (cause 2 (not (is_frequency f)) ∷ cause 5 (ltb 50000 s) ∷ [])
unfolding spacing_answer first_of
spacing-causes f s = by_tests (not (is_frequency f)) (ltb 50000 s)
  where
    by_tests : (t u : Bool) → (cond t (refused 2) (cond u (refused 5) (answered (spacing f s)))).number ≡ cond t 2 (cond u 5 0)
    by_tests true u = refl
    by_tests false true = refl
    by_tests false false = refl

pub version-spacing-causes : (v f s b : ℕ) →
    (version_spacing_answer v f s b).number
    ≡ first_of (cause 2 (not (is_frequency f)) ∷ cause 4 (not (is_reversion b)) ∷ cause 5 (ltb 50000 s) ∷ cause 7 (not (is_version v)) ∷ [])
unfolding version_spacing_answer first_of
version-spacing-causes v f s b =
    rw (not-leb b most_reversion) (by_tests (not (is_frequency f)) (ltb most_reversion b) (ltb 50000 s) (not (is_version v)))
  where
    by_tests : (t r u k : Bool) →
        (cond t (refused 2) (cond r (refused 4) (cond u (refused 5) (cond k (refused 7) (answered (version_spacing v f s b)))))).number
        ≡ cond t 2 (cond r 4 (cond u 5 (cond k 7 0)))
    by_tests true r u k = refl
    by_tests false true u k = refl
    by_tests false false true k = refl
    by_tests false false false true = refl
    by_tests false false false false = refl

-- the entries of a version and a reversion
pub by-version-causes : (v b result : ℕ) →
    (by_version v b result).number ≡ first_of (cause 4 (not (is_reversion b)) ∷ cause 7 (not (is_version v)) ∷ [])
unfolding by_version first_of
by-version-causes v b result = rw (not-leb b most_reversion) (by_tests (ltb most_reversion b) (not (is_version v)))
  where
    by_tests : (r k : Bool) → (cond r (refused 4) (cond k (refused 7) (answered result))).number ≡ cond r 4 (cond k 7 0)
    by_tests true k = refl
    by_tests false true = refl
    by_tests false false = refl

-- ---- the fit, by version

-- causes 2 to 7 as the definition combines them: version, frequency, steps, reversion, volatility, places, memories, quotes
combined : Bool → Bool → Bool → Bool → Bool → Bool → Bool → Bool → ℕ
combined t l s r v p m q =
    lowest_cause (lowest_cause (cond (not l) 2 (cond (not s) 3 (cond (not p) 6 (cond (not q) 7 0)))) (cond s (cond r 0 4) 3))
    (lowest_cause (cond (not l) 2 (cond (not r) 4 (cond v 5 (cond (not t) 7 0)))) (cond m 0 6))

-- and as the table has them
tabled : Bool → Bool → Bool → Bool → Bool → Bool → Bool → Bool → ℕ
tabled t l s r v p m q =
    cond (not l) 2 (cond (not s) 3 (cond (not r) 4 (cond v 5 (cond (not (p && m)) 6 (cond (not t) 7 (cond (not q) 7 0))))))

early-alike : (t l s r v p m q : Bool) → combined t l s r v p m q ≡ tabled t l s r v p m q
unfolding combined tabled lowest_cause
early-alike true = seven (combined true) (tabled true) refl
early-alike false = seven (combined false) (tabled false) refl

-- cause 4 is about b, and says the same of its working reversion
reversion-alike : (v b : ℕ) → is_reversion (working_reversion v b) ≡ is_reversion b
reversion-alike v b =
    by_order b most_reversion
    (λ h. le-leb (working_reversion v b) most_reversion (working-limit v b h) ∙ sym (le-leb b most_reversion h))
    (λ h. ap is_reversion (working-beyond v b h))

module _ (v f n b s : ℕ) (rows kinds : List ℕ) (figures : List Float) (discounts prices : ℕ) where
  abbrev w : ℕ
  w = working_reversion v b

  -- the memories as the definition judges them: by the answers about the tree's sizes
  sized : Bool
  sized = leb (discounts_needed_answer n w).value discounts && leb (state_prices_needed_answer n w).value prices

  abbrev early : ℕ
  early = early_cause (curve_number f n rows kinds figures most_steps) n w (version_spacing_answer v f s b).number discounts prices

  early-combined :
      early
      ≡ combined (is_version v) (is_frequency f) (is_steps n) (is_reversion b) (ltb 50000 s) (in_place n rows kinds figures most_steps) sized
      (quotes_converted f n kinds figures)
  unfolding early_cause curve_number memory_cause combined about_tree shape_cause sized first_of
  early-combined = rw (number_of (shape_cause n w) (discounts_needed n w), version-spacing-causes v f s b, reversion-alike v b) refl

  -- judged by the tree itself
  roomy : Bool
  roomy = leb (row_start w n) discounts && leb (row_start w (suc n)) prices

  sized-alike : is_steps n ≡ true → is_reversion w ≡ true → sized ≡ roomy
  unfolding about_tree shape_cause sized roomy discounts_needed state_prices_needed
  sized-alike es er = rw (es, er) refl

  lengths-alike : is_steps n ≡ true → is_reversion b ≡ true →
      in_place n rows kinds figures most_steps && sized
      ≡ quotes_placed n rows kinds figures && leb (row_start w n) discounts && leb (row_start w (suc n)) prices
  unfolding roomy
  lengths-alike es er =
      ap₂ ◌&&◌ (placed_alike n rows kinds figures most_steps ∙ in-room) (sized-alike es (reversion-alike v b ∙ er))
      ∙ sym (and_assoc (quotes_placed n rows kinds figures) (leb (row_start w n) discounts) (leb (row_start w (suc n)) prices))
    where
      in-room : quotes_placed n rows kinds figures && leb n 60 ≡ quotes_placed n rows kinds figures
      in-room = rw (and_right (leb 1 n) (leb n 60) es) (and-true (quotes_placed n rows kinds figures))

  lengths-tried : (l s r v c d t q : Bool) → (s ≡ true → r ≡ true → c ≡ d) →
      ◌≡◌ {A = ℕ} (cond (not l) 2 (cond (not s) 3 (cond (not r) 4 (cond v 5 (cond (not c) 6 (cond (not t) 7 (cond (not q) 7 0)))))))
      (cond (not l) 2 (cond (not s) 3 (cond (not r) 4 (cond v 5 (cond (not d) 6 (cond (not t) 7 (cond (not q) 7 0)))))))
  lengths-tried false s r v c d t q e = refl
  lengths-tried true false r v c d t q e = refl
  lengths-tried true true false v c d t q e = refl
  lengths-tried true true true true c d t q e = refl
  lengths-tried true true true false c d t q e = ap (λ (x : Bool). cond (not x) 6 (cond (not t) 7 (cond (not q) 7 0))) (e refl refl)

  -- the causes of a tree of working reversion x and spacing h
  abbrev early-causes : ℕ → List Cause
  early-causes x =
      cause 2 (not (is_frequency f)) ∷ cause 3 (not (is_steps n)) ∷ cause 4 (not (is_reversion b)) ∷ cause 5 (ltb 50000 s)
      ∷ cause 6 (not (quotes_placed n rows kinds figures && leb (row_start x n) discounts && leb (row_start x (suc n)) prices))
      ∷ cause 7 (not (is_version v)) ∷ cause 7 (not (quotes_converted f n kinds figures)) ∷ []

  early-first : early ≡ first_of (early-causes w)
  unfolding first_of tabled
  early-first =
      early-combined ∙ early-alike (is_version v) (is_frequency f) (is_steps n) (is_reversion b) (ltb 50000 s) (in_place n rows kinds figures most_steps) sized
      (quotes_converted f n kinds figures)
      ∙ lengths-tried (is_frequency f) (is_steps n) (is_reversion b) (ltb 50000 s) _ _ (is_version v) (quotes_converted f n kinds figures) lengths-alike

  abbrev late-causes : ℕ → ℕ → List Cause
  late-causes x h =
      cause 8 (ltb one (half_width x (n - 1) * h))
      ∷ cause 9 (not (every_node x n (λ i k. is_discount (fit_discount f n x h kinds figures i k)))) ∷ []

  late-first : (x h : ℕ) → late_cause n x h (quotes_of f n kinds figures) ≡ first_of (late-causes x h)
  unfolding late_cause first_of curve_accepted accepted_row rate_tree
  late-first x h =
      rw (length-row n (discount_at f kinds figures))
      (by_tests (ltb one (half_width x (n - 1) * h)) (every_node x n (λ i k. is_discount (fit_discount f n x h kinds figures i k))))
    where
      by_tests : (t u : Bool) → ◌≡◌ {A = ℕ} (cond t 8 (cond u 0 9)) (cond t 8 (cond (not u) 9 0))
      by_tests true u = refl
      by_tests false true = refl
      by_tests false false = refl

  pub version-causes : version_number v f n b s rows kinds figures discounts prices
      ≡ first_of (early-causes w ++ late-causes w (version_spacing v f s b))
  unfolding fitted_number first_cause
  version-causes =
      rw (early-first, late-first w (version_spacing v f s b)) (first-append (early-causes w) (late-causes w (version_spacing v f s b)) refl)

-- version 1's are the fit's
pub fit-causes : (f n b s : ℕ) (rows kinds : List ℕ) (figures : List Float) (discounts prices : ℕ) →
    fit_number f n b s rows kinds figures discounts prices
    ≡ first_of (cause 2 (not (is_frequency f)) ∷ tree_causes n b (cause 5 (ltb 50000 s)
    ∷ cause 6 (not (quotes_placed n rows kinds figures && leb (row_start b n) discounts && leb (row_start b (suc n)) prices))
    ∷ cause 7 (not (quotes_converted f n kinds figures)) ∷ late-causes 1 f n b s rows kinds figures discounts prices b (spacing f s)))
unfolding first_of is_version
fit-causes f n b s rows kinds figures discounts prices =
    sym (first-number f n b s rows kinds figures discounts prices)
    ∙ version-causes 1 f n b s rows kinds figures discounts prices
    ∙ ap₂ (λ (x h : ℕ). first_of (early-causes 1 f n b s rows kinds figures discounts prices x
    ++ late-causes 1 f n b s rows kinds figures discounts prices x h)) (working-first b) (version-first f s b)
