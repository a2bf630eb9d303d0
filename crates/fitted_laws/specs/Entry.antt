-- The fit of a tree to its quotes (document 01, Spacing and fit; When the engine declines; document 02, request (ix)): its number, and both memories
-- afterwards. f steps a year, n steps, b reversion, s volatility; the quotes as rows, kinds and figures.
-- A tree has a working reversion, which stands for b in J, branching, rows and prices, and a spacing h: b itself and document 01's for the fit,
-- those of its version for the fit by version. All else is defined over these two.
-- Assumes nothing.
use Rattle.std.specs.Prelude.{cond, List, ℕ, suc, ◌-◌, ◌*◌, eqb, ltb, Float, length}
use Rattle.arithmetic.specs.Answers.{unless_refused, lowest_cause}
use Rattle.arithmetic.specs.Rounding.{one}
use Rattle.arithmetic.specs.Row.{row, place}
use Rattle.limits.specs.Limits.{most_steps}
use Rattle.tree.specs.Layout.{laid}
use Rattle.lattice.specs.Shape.{half_width}
use Rattle.lattice.specs.RateTree.{rate_tree}
use Rattle.lattice.specs.Entries.{discounts_needed_answer, memory_cause}
use Rattle.reversion.specs.Reversion.{working_reversion}
use Rattle.spacing.specs.Spacing.{spacing, spacing_answer, version_spacing, version_spacing_answer}
use Rattle.curve.specs.Curve.{discount_at, curve_number}
use Rattle.fitted_laws.specs.Fit.{curve_discount, curve_state_price, curve_accepted}

-- the quotes of rows 1 to n, converted to discounts
abbrev pub quotes_of : ℕ → ℕ → List ℕ → List Float → List ℕ
quotes_of f n kinds figures = row n (discount_at f kinds figures)

-- ---- a tree of working reversion w and spacing h

-- node discounts and state prices by row and node
abbrev pub fit_discount : ℕ → ℕ → ℕ → ℕ → List ℕ → List Float → ℕ → ℕ → ℕ
fit_discount f n w h kinds figures = curve_discount w h (quotes_of f n kinds figures)

abbrev pub fit_state_price : ℕ → ℕ → ℕ → ℕ → List ℕ → List Float → ℕ → ℕ → ℕ
fit_state_price f n w h kinds figures = curve_state_price w h (quotes_of f n kinds figures)

-- causes 2 to 7: the quotes' number, 3 or 4 of the tree, the spacing's number, and the memories'; lowest first
unfoldable pub early_cause : ℕ → ℕ → ℕ → ℕ → ℕ → ℕ → ℕ
early_cause quoted n w spaced discounts state-prices =
    lowest_cause (lowest_cause quoted (discounts_needed_answer n w).number) (lowest_cause spaced (memory_cause n w discounts state-prices))

-- 8: (half width of row n − 1) × h above one; then 9: a node discount 0 or above 1,100,000,000
unfoldable pub late_cause : ℕ → ℕ → ℕ → List ℕ → ℕ
late_cause n w h quotes = cond (ltb one (half_width w (n - 1) * h)) 8 (cond (curve_accepted w h quotes) 0 9)

-- the number of the fit, given the number of the spacing
unfoldable pub fitted_number : ℕ → ℕ → ℕ → ℕ → ℕ → List ℕ → List ℕ → List Float → ℕ → ℕ → ℕ
fitted_number f n w spaced h rows kinds figures discounts state-prices =
    cond (eqb (early_cause (curve_number f n rows kinds figures most_steps) n w spaced discounts state-prices) 0)
    (late_cause n w h (quotes_of f n kinds figures))
    (early_cause (curve_number f n rows kinds figures most_steps) n w spaced discounts state-prices)

-- a memory afterwards: the rows at its start; zeros in their place on 9; as it was on any other refusal. Nothing past them changes.
unfoldable pub fit_memory : ℕ → List ℕ → List ℕ → List ℕ
fit_memory number rows memory =
    unless_refused number (place memory 0 rows) (cond (eqb number 9) (place memory 0 (row (length rows) (λ k. 0))) memory)

-- discounts of rows 0 to n − 1, state prices of rows 0 to n, row after row
abbrev pub fit_discounts : ℕ → ℕ → ℕ → ℕ → List ℕ → List Float → List ℕ
fit_discounts f n w h kinds figures = laid (rate_tree w) (fit_discount f n w h kinds figures) n

abbrev pub fit_state_prices : ℕ → ℕ → ℕ → ℕ → List ℕ → List Float → List ℕ
fit_state_prices f n w h kinds figures = laid (rate_tree w) (fit_state_price f n w h kinds figures) (suc n)

-- ---- the fit

abbrev pub fit_number : ℕ → ℕ → ℕ → ℕ → List ℕ → List ℕ → List Float → ℕ → ℕ → ℕ
fit_number f n b s = fitted_number f n b (spacing_answer f s).number (spacing f s)

-- both memories after it
abbrev pub discounts_after : ℕ → ℕ → ℕ → ℕ → List ℕ → List ℕ → List Float → List ℕ → List ℕ → List ℕ
discounts_after f n b s rows kinds figures discounts state-prices =
    fit_memory (fit_number f n b s rows kinds figures (length discounts) (length state-prices)) (fit_discounts f n b (spacing f s) kinds figures) discounts

abbrev pub state_prices_after : ℕ → ℕ → ℕ → ℕ → List ℕ → List ℕ → List Float → List ℕ → List ℕ → List ℕ
state_prices_after f n b s rows kinds figures discounts state-prices =
    fit_memory (fit_number f n b s rows kinds figures (length discounts) (length state-prices)) (fit_state_prices f n b (spacing f s) kinds figures) state-prices

-- ---- the fit by version v: 2, 4, 5 or 7 of its spacing; memories are judged by the working reversion, which is b where there is no such version

abbrev pub version_number : ℕ → ℕ → ℕ → ℕ → ℕ → List ℕ → List ℕ → List Float → ℕ → ℕ → ℕ
version_number v f n b s = fitted_number f n (working_reversion v b) (version_spacing_answer v f s b).number (version_spacing v f s b)

abbrev pub version_discounts : ℕ → ℕ → ℕ → ℕ → ℕ → List ℕ → List Float → List ℕ
version_discounts v f n b s = fit_discounts f n (working_reversion v b) (version_spacing v f s b)

abbrev pub version_state_prices : ℕ → ℕ → ℕ → ℕ → ℕ → List ℕ → List Float → List ℕ
version_state_prices v f n b s = fit_state_prices f n (working_reversion v b) (version_spacing v f s b)

-- both memories after it
abbrev pub version_discounts_after : ℕ → ℕ → ℕ → ℕ → ℕ → List ℕ → List ℕ → List Float → List ℕ → List ℕ → List ℕ
version_discounts_after v f n b s rows kinds figures discounts state-prices =
    fit_memory (version_number v f n b s rows kinds figures (length discounts) (length state-prices)) (version_discounts v f n b s kinds figures) discounts

abbrev pub version_state_prices_after : ℕ → ℕ → ℕ → ℕ → ℕ → List ℕ → List ℕ → List Float → List ℕ → List ℕ → List ℕ
version_state_prices_after v f n b s rows kinds figures discounts state-prices =
    fit_memory (version_number v f n b s rows kinds figures (length discounts) (length state-prices)) (version_state_prices v f n b s kinds figures) state-prices
