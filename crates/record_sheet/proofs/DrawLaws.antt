-- What a record's fit gives to the drawing of its sheet: the quotes in a memory of 60, and the working reversion and both counts as the code works
-- them out.
-- Assumes nothing.
use Rattle.std.proofs.Common.{◌≡◌, ◌∙◌, ◌≤◌, Err, List, Ok, Result, ap, arith, length, refl, sym, take, ℕ}
use Rattle.std.specs.Result.{IsOk}
use Rattle.arithmetic.specs.declared.Refusal.{Refusal}
use Rattle.arithmetic.proofs.RefusalLaws.{refusal-some}
use Rattle.limits.specs.WithinLimits.{WithinLimits}
use Rattle.limits.proofs.LimitLaws.{shape-found}
use Rattle.lent_tree.specs.LentTree.{accepted_discounts}
use Rattle.lent_tree.proofs.LentLaws.{lent-accepted}
use Rattle.node_lines.specs.Rows.{accepted_nodes}
use Rattle.state_price_bound.specs.ErrorBound.{RowBounds, bounds_of, state_price_error_bounds_answer}
use Rattle.state_price_bound.proofs.BoundLaws.{bounds-given}
use Rattle.arithmetic.specs.declared.Answer.{Answer}
use Rattle.lattice.specs.Entries.{discounts_needed_answer, state_prices_needed_answer}
use Rattle.job_record.specs.declared.Job.{Job}
use Rattle.job_laws.specs.RecordFit.{job_reversion, job_quotes, job_discounts, job_state_prices, record_quotes, memory_after}
use Rattle.job_laws.proofs.FitLaws.{quotes-none}
use Rattle.sheet_laws.specs.inside.Stored.{Lent, Stored, Summed, Fitted}
use Rattle.sheet_laws.proofs.FittedLaws as fits

-- the quotes are converted, and the tree is within its limits
module _ (job : Job) (discounts prices : List ℕ) (h : Fitted job discounts prices) where
  pub quotes-converted : (room : ℕ) → room ≡ 60 → record_quotes job room ≡ 0
  quotes-converted room e = ap (record_quotes job) e ∙ quotes-none job _ _ h.accepted

  pub tree-within : (b : ℕ) → b ≡ job_reversion job → WithinLimits job.steps b
  tree-within b e = rw e (fits.accepted job discounts prices h)

-- a tree whose discounts are accepted has bounds
pub bounds-there : (n b : ℕ) (discounts : List ℕ) (r : Result (List ℕ) Refusal) → bounds_of r ≡ state_price_error_bounds_answer n b discounts →
    Lent n b discounts → IsOk r
unfolding accepted_discounts accepted_nodes
bounds-there n b discounts (Ok bounds) e h = refl
bounds-there n b discounts (Err refusal) e h =
    let all = rw h.size at h.accepted in
    let none = lent-accepted n b discounts
    (shape-found n b h.limits.steps-positive h.limits.steps-within-limit h.limits.reversion-within-limit) (omega (arith, h.size)) all in
    absurd (refusal-some refusal (ap (λ (r : RowBounds). r.number) (e ∙ sym (bounds-given n b discounts 0 (sym none) refl _ refl))))

-- quotes, discounts and state prices at the start of their memories, so many of each
pub record Drawn (job : Job) (b : ℕ) (quotes discounts prices : List ℕ) (discount-count price-count : ℕ) : Type 0 where
  pub reversion-is : b ≡ job_reversion job
  pub quotes-end : job.steps ≤ length quotes
  pub quotes-count : job.steps ≡ length (take job.steps quotes)
  pub discounts-count : discount-count ≡ length (take discount-count discounts)
  pub prices-count : price-count ≡ length (take price-count prices)
  pub quotes-are : take job.steps quotes ≡ job_quotes job
  pub discounts-are : take discount-count discounts ≡ job_discounts job
  pub prices-are : take price-count prices ≡ job_state_prices job
  pub stored : Stored job.steps b (take discount-count discounts) (take price-count prices)
  pub summed : Summed job.steps b (take price-count prices)

pub drawn : (job : Job) (discounts prices : List ℕ) → Fitted job discounts prices →
    (quotes₀ quotes : List ℕ) → length quotes₀ ≡ 60 → quotes ≡ memory_after (record_quotes job (length quotes₀)) (job_quotes job) quotes₀ →
    (b : ℕ) → b ≡ job_reversion job →
    (needed all : Answer) → needed ≡ discounts_needed_answer job.steps b → all ≡ state_prices_needed_answer job.steps b →
    Drawn job b quotes discounts prices needed.value all.value
drawn job d p h q₀ q lq eq b eb needed all en ea =
    record {
      reversion-is = eb;
      quotes-end = fits.quotes-end job d p h q₀ q lq eq;
      quotes-count = fits.quotes-count job d p h q₀ q lq eq;
      discounts-count = fits.discounts-count job d p h b eb needed all en ea;
      prices-count = fits.prices-count job d p h b eb needed all en ea;
      quotes-are = fits.quotes-are job d p h q₀ q lq eq;
      discounts-are = fits.discounts-are job d p h b eb needed all en ea;
      prices-are = fits.prices-are job d p h b eb needed all en ea;
      stored = fits.stored job d p h b eb needed all en ea;
      summed = fits.summed job d p h b eb needed all en ea;
    }
