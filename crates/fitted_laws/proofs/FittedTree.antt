-- What an accepted fit leaves for its callers: rows of the needed lengths, whose discounts are an accepted tree.
-- Assumes nothing.
use mathlib.Core.Path.{◌≡◌, sym, ap, ◌∙◌}
use mathlib.Core.List.{List, [], append-nil}
use Prim.Native.Nat.{ℕ, suc, ◌+◌, ◌≤◌, ◌<◌}
use native.Mathlib.Omega.{arith}
use lib.Ieee.{Float}
use lib.ListN.{length}
use Rattle.arithmetic.proofs.CauseLaws.{unless-accepted}
use Rattle.arithmetic.specs.Row.{values, place}
use Rattle.arithmetic.proofs.RowLaws.{each-cong}
use Rattle.arithmetic.proofs.Implied.{Implied, implied, lastly, ◌▸◌}
use Rattle.limits.specs.Limits.{is_discount, shape_cause}
use Rattle.limits.proofs.LimitLaws.{shape-found}
use Rattle.lattice.specs.Shape.{node_count, row_start, discounts_needed, state_prices_needed}
use Rattle.lattice.specs.RateTree.{rate_tree}
use Rattle.lattice.proofs.LaidLaws.{length-laid, laid-value}
use Rattle.lent_tree.specs.LentTree.{stored, discounts_cause}
use Rattle.lent_tree.proofs.LentLaws.{accepted-by-row, lent-accepted}
use Rattle.fit_laws.specs.StatePrices.{accepted_row}
use Rattle.fitted_laws.specs.Entry.{fitted_number, fit_memory, fit_discount, fit_state_price, fit_discounts, fit_state_prices}
use Rattle.fitted_laws.proofs.Promised.{fit-numbers, fit-accepted}

-- a memory after a fit
pub fit-placed : (number : ℕ) (part memory : List ℕ) → number ≡ 0 → fit_memory number part memory ≡ place memory 0 part
unfolding fit_memory
fit-placed number part memory z = unless-accepted number _ _ z

module _ (f n b h : ℕ) (kinds : List ℕ) (figures : List Float) where
  pub fit-discounts-length : length (fit_discounts f n b h kinds figures) ≡ discounts_needed n b
  unfolding discounts_needed
  fit-discounts-length = length-laid b (fit_discount f n b h kinds figures) n

  pub fit-state-prices-length : length (fit_state_prices f n b h kinds figures) ≡ state_prices_needed n b
  unfolding state_prices_needed
  fit-state-prices-length = length-laid b (fit_state_price f n b h kinds figures) (suc n)

  -- what the fit's own discounts hold at a node
  pub fit-discount-stored : (i k : ℕ) → i < n → k < node_count b i →
      stored b (fit_discounts f n b h kinds figures) i k ≡ fit_discount f n b h kinds figures i k
  unfolding stored
  fit-discount-stored i k g l =
      ap (λ (m : List ℕ). values m (row_start b i + k)) (sym (append-nil (fit_discounts f n b h kinds figures)))
      ∙ laid-value b (fit_discount f n b h kinds figures) n i g [] k l

module _ {f n b spaced h : ℕ} {rows kinds : List ℕ} {figures : List Float} {ds ps : ℕ}
    (_ : Implied (f ▸ n ▸ b ▸ spaced ▸ h ▸ rows ▸ kinds ▸ figures ▸ ds ▸ lastly ps))
    (z : fitted_number f n b spaced h rows kinds figures ds ps ≡ 0) where
  fit-shape : shape_cause n b ≡ 0
  fit-shape =
      let m = fit-numbers implied z in
      shape-found n b m.limits.steps-positive m.limits.steps-within-limit m.limits.reversion-within-limit

  -- an accepted fit is an accepted tree, in any memory that holds its discounts
  pub fit-lent : (discounts : List ℕ) → discounts_needed n b ≤ length discounts →
      ((i k : ℕ) → i < n → k < node_count b i → stored b discounts i k ≡ fit_discount f n b h kinds figures i k) →
      discounts_cause n b discounts ≡ 0
  unfolding accepted_row rate_tree
  fit-lent discounts room kept =
      lent-accepted n b discounts fit-shape room
      (accepted-by-row n b discounts
      ∙ each-cong n _ _ (λ i g. each-cong (node_count b i) _ _ (λ k l. ap is_discount (kept i k g l)))
      ∙ fit-accepted implied z)

  pub fit-discounts-lent : discounts_cause n b (fit_discounts f n b h kinds figures) ≡ 0
  fit-discounts-lent = fit-lent (fit_discounts f n b h kinds figures)
      (omega (arith, fit-discounts-length f n b h kinds figures)) (fit-discount-stored f n b h kinds figures)
