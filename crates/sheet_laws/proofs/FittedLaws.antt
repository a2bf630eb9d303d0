-- What the prices of a record leave for its sheet: quotes, discounts and state prices.
-- Assumes nothing.
use mathlib.Core.Path.{◌≡◌, sym, ap, subst, ◌∙◌}
use mathlib.Core.Bool.{true}
use mathlib.Core.List.{List, [], append-nil}
use Prim.Native.Nat.{ℕ, suc, ◌≤◌, ◌<◌}
use native.Mathlib.Omega.{arith}
use lib.ListN.{length, take, length-take}
use Rattle.limits.specs.WithinLimits.{WithinLimits}
use Rattle.arithmetic.specs.Row.{sum_of}
use Rattle.arithmetic.specs.Sum.{sum}
use Rattle.arithmetic.specs.declared.Answer.{Answer}
use Rattle.arithmetic.proofs.PlaceLaws.{length-place, place-front}
use Rattle.arithmetic.proofs.RowLaws.{sum_row}
use Rattle.arithmetic.proofs.Implied.{implied}
use Rattle.limits.specs.Limits.{most_discounts, most_state_prices}
use Rattle.tree.specs.Layout.{laid}
use Rattle.lattice.specs.Shape.{node_count, discounts_needed, state_prices_needed}
use Rattle.lattice.specs.RateTree.{rate_tree}
use Rattle.lattice.specs.Entries.{discounts_needed_answer, state_prices_needed_answer}
use Rattle.lattice.proofs.LaidLaws.{laid-part}
use Rattle.lattice.proofs.TreeEntries.{tree-value}
use Rattle.lent_tree.specs.LentTree.{stored_row, accepted_discounts}
use Rattle.lent_tree.proofs.LentLaws.{accepted-all}
use Rattle.fitted_laws.specs.Entry.{fit_state_price}
use Rattle.fitted_laws.proofs.Promised.{fit-repriced}
use Rattle.fitted_laws.proofs.FittedTree.{fit-discounts-lent}
use Rattle.job_record.specs.declared.Job.{Job}
use Rattle.job_laws.specs.RecordFit.{meant_reversion, job_reversion, job_spacing, job_kinds, job_figures}
use Rattle.job_laws.specs.RecordFit.{job_quotes, job_discounts, job_state_prices, record_quotes, record_fit, memory_after}
use Rattle.job_laws.proofs.FitLaws as fits
use Rattle.job_laws.specs.declared.JobPrices.{JobPrices}
use Rattle.job_laws.specs.JobPrices.{record_number, record_prices, fitted_memory}
use Rattle.job_laws.proofs.Accepted.{record-accepted, record-formed}
use Rattle.job_laws.proofs.PriceLaws.{fitted-placed}
use Rattle.node_lines.specs.Rows.{accepted_nodes}
use Rattle.sheet_laws.specs.inside.Stored.{Stored, Summed, Fitted}

pub total-row : (b : ℕ) (f : ℕ → ℕ → ℕ) (n i : ℕ) → i < n → sum_of (stored_row b (laid (rate_tree b) f n) i) ≡ sum (node_count b i) (f i)
unfolding sum_of stored_row
total-row b f n i h =
    let part = rw (append-nil (laid (rate_tree b) f n)) at (laid-part b f n i h []) in
    rw part (sum_row (node_count b i) (f i))

-- ---- the fit in memories of the largest tree

module _ (job : Job) (d₀ p₀ : List ℕ) (ld : length d₀ ≡ most_discounts) (lp : length p₀ ≡ most_state_prices) where
  fit_is : record_fit job (length d₀) (length p₀) ≡ record_fit job most_discounts most_state_prices
  fit_is = rw (ld, lp)

  pub prices-largest : (prices : JobPrices) → prices ≡ record_prices job (length d₀) (length p₀) → prices ≡ record_prices job most_discounts most_state_prices
  prices-largest prices e = e ∙ rw (ld, lp)

  pub fitted : (d p : List ℕ) → record_number job most_discounts most_state_prices ≡ 0 →
      d ≡ fitted_memory job (length d₀) (length p₀) (job_discounts job) d₀ → p ≡ fitted_memory job (length d₀) (length p₀) (job_state_prices job) p₀ →
      Fitted job d p
  unfolding discounts_needed state_prices_needed
  fitted d p none ed ep =
      let fit = (record-accepted job _ _ none).fit in
      let placed = fitted-placed job (length d₀) (length p₀) (record-formed job _ _ none) (fit_is ∙ fit) in
      let known = fits.numbers job _ _ fit in
      let dp = ed ∙ placed (job_discounts job) d₀ in
      let pp = ep ∙ placed (job_state_prices job) p₀ in
      let dl = fits.discounts-length job in
      let pl = fits.prices-length job in
      record {
        accepted = fit;
        discounts-room = ap length dp ∙ length-place d₀ 0 (job_discounts job) (omega (arith, dl, known.room-discounts, ld)) ∙ ld;
        prices-room = ap length pp ∙ length-place p₀ 0 (job_state_prices job) (omega (arith, pl, known.room-state-prices, lp)) ∙ lp;
        discounts-front = ap (take (discounts_needed job.steps (job_reversion job))) dp ∙ place-front d₀ (job_discounts job) _ dl;
        prices-front = ap (take (state_prices_needed job.steps (job_reversion job))) pp ∙ place-front p₀ (job_state_prices job) _ pl;
      }

-- ---- what a caller takes of it

module _ (job : Job) (d p : List ℕ) (h : Fitted job d p) where
  pub accepted : WithinLimits job.steps (job_reversion job)
  accepted = fits.accepted job _ _ h.accepted

  -- the quotes, converted into a memory of 60
  module _ (q₀ q : List ℕ) (lq : length q₀ ≡ 60) (eq : q ≡ memory_after (record_quotes job (length q₀)) (job_quotes job) q₀) where
    pub quotes-are : take job.steps q ≡ job_quotes job
    quotes-are =
        let none = ap (record_quotes job) lq ∙ fits.quotes-none job _ _ h.accepted in
        ap (take job.steps) (eq ∙ fits.memory-placed _ (job_quotes job) q₀ none)
        ∙ place-front q₀ (job_quotes job) job.steps (fits.quotes-length job)

    pub quotes-count : job.steps ≡ length (take job.steps q)
    quotes-count = sym (ap length quotes-are ∙ fits.quotes-length job)

    pub quotes-end : job.steps ≤ length q
    quotes-end = omega (arith, quotes-count, length-take job.steps q)

  -- the working reversion and the counts that the code works out
  module _ (b : ℕ) (eb : b ≡ job_reversion job) (needed all : Answer) (en : needed ≡ discounts_needed_answer job.steps b)
      (ea : all ≡ state_prices_needed_answer job.steps b) where
    count-discounts : needed.value ≡ discounts_needed job.steps (job_reversion job)
    count-discounts = tree-value _ _ _ needed (en ∙ ap (discounts_needed_answer job.steps) eb) accepted

    count-prices : all.value ≡ state_prices_needed job.steps (job_reversion job)
    count-prices = tree-value _ _ _ all (ea ∙ ap (state_prices_needed_answer job.steps) eb) accepted

    pub discounts-are : take needed.value d ≡ job_discounts job
    discounts-are = ap (λ (k : ℕ). take k d) count-discounts ∙ h.discounts-front

    pub prices-are : take all.value p ≡ job_state_prices job
    prices-are = ap (λ (k : ℕ). take k p) count-prices ∙ h.prices-front

    discounts-size : length (take needed.value d) ≡ discounts_needed job.steps (job_reversion job)
    discounts-size = ap length discounts-are ∙ fits.discounts-length job

    prices-size : length (take all.value p) ≡ state_prices_needed job.steps (job_reversion job)
    prices-size = ap length prices-are ∙ fits.prices-length job

    pub discounts-count : needed.value ≡ length (take needed.value d)
    discounts-count = count-discounts ∙ sym discounts-size

    pub prices-count : all.value ≡ length (take all.value p)
    prices-count = count-prices ∙ sym prices-size

    -- every node discount of an accepted fit is accepted
    discounted : accepted_nodes (take needed.value d) ≡ true
    unfolding accepted_nodes accepted_discounts job_discounts meant_reversion
    discounted =
        let lent = accepted-all _ _ _ (fit-discounts-lent implied (fits.fit_none job _ _ h.accepted)) in
        rw (discounts-size, discounts-are) lent

    stored-by : Stored job.steps (job_reversion job) (take needed.value d) (take all.value p)
    stored-by =
        record {
          lent = record {
            limits = accepted;
            size = discounts-size;
            accepted = discounted;
          };
          prices-size = prices-size;
        }

    summed_by : Summed job.steps (job_reversion job) (take all.value p)
    unfolding job_state_prices meant_reversion
    summed_by i l =
        let price = fit_state_price job.frequency job.steps (job_reversion job) (job_spacing job) (job_kinds job) (job_figures job) in
        rw (prices-are, total-row (job_reversion job) price (suc job.steps) (suc i) (omega arith))
        (fit-repriced implied (fits.fit_none job _ _ h.accepted) i l).2

    pub stored : Stored job.steps b (take needed.value d) (take all.value p)
    stored = subst (λ (x : ℕ). Stored job.steps x (take needed.value d) (take all.value p)) (sym eb) stored-by

    pub summed : Summed job.steps b (take all.value p)
    summed = subst (λ (x : ℕ). Summed job.steps x (take all.value p)) (sym eb) summed_by
