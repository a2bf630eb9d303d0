-- A record means what is promised.
-- Assumes nothing.
use mathlib.Core.Path.{◌≡◌, refl}
use Prim.Native.Nat.{ℕ, ◌+◌, ◌<◌}
use lib.ListN.{take}
use borrow.Author.Tests.{eq-eqb, ne_eqb}
use Rattle.arithmetic.specs.Row.{values}
use Rattle.arithmetic.proofs.RowLaws.{values-row}
use Rattle.curve.specs.Curve.{discount_at}
use Rattle.price_laws.specs.Prices.{option_price, dated_price}
use Rattle.job_record.specs.declared.Job.{Job}
use Rattle.job_laws.specs.RecordFit.{meant_version, meant_reversion, job_reversion, job_kinds, job_figures, job_flows}
use Rattle.job_laws.specs.RecordFit.{job_quotes, job_discounts, job_state_prices}
use Rattle.job_laws.specs.JobPrices.{tagged_option, job_option}
use Rattle.sheet_promises.specs.JobMeant.{JobMeant}

absent-first : (version : ℕ) → version ≡ 0 → meant_version version ≡ 1
unfolding meant_version
absent-first version e = rw (eq-eqb version 0 e)

given-same : (version : ℕ) → (version ≡ 0 → ⊥) → meant_version version ≡ version
unfolding meant_version
given-same version ne = rw (ne_eqb version 0 ne)

module _ (job : Job) where
  of-kind : job.option.tag ≡ 8 →
      job_option job
      ≡ option_price job.steps (job_reversion job) (job_discounts job) (job_flows job) job.option.kind job.option.expiry job.option.strike
  unfolding tagged_option
  of-kind e = rw e refl

  on-dates : job.option.tag ≡ 10 →
      job_option job
      ≡ dated_price job.steps (job_reversion job) (job_discounts job) (job_flows job) job.option.kind
      (take job.option.count job.option.dates) job.option.strike
  unfolding tagged_option
  on-dates e = rw e refl

  quoted : (i : ℕ) → i < job.steps → values (job_quotes job) i ≡ discount_at job.frequency (job_kinds job) (job_figures job) i
  unfolding job_quotes
  quoted i h = values-row job.steps i (discount_at job.frequency (job_kinds job) (job_figures job)) h

  pub job-meant : JobMeant job
  unfolding meant_reversion job_discounts job_state_prices
  job-meant =
      record {
        version = meant_version job.version;
        absent = absent-first job.version;
        given = given-same job.version;
        causes-by = refl;
        reversion = refl;
        rows = λ i h. values-row job.steps i (λ k. k + 1) h;
        kinds = refl;
        figures = refl;
        flows = refl;
        quotes = quoted;
        discounts = refl;
        state-prices = refl;
        bond = refl;
        option-of-kind = of-kind;
        option-on-dates = on-dates;
      }
