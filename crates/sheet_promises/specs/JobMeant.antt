-- What a record means (document 01, Job and sheet; document 02, requests (iii) and (ix)): the version of its tree, the quotes that the tree is fitted to, and
-- what is priced on it.
-- Assumes nothing.
use Rattle.std.specs.Prelude.{◌≡◌, map, ℕ, ◌+◌, ◌<◌, take}
use Rattle.arithmetic.specs.Row.{values}
use Rattle.figure.specs.Figure.{pattern_float}
use Rattle.curve.specs.Curve.{discount_at}
use Rattle.reversion.specs.Reversion.{working_reversion}
use Rattle.spacing.specs.Spacing.{version_spacing}
use Rattle.fitted_laws.specs.Entry.{fit_discounts, fit_state_prices}
use Rattle.price_laws.specs.Prices.{bond_price, option_price, dated_price}
use Rattle.job_record.specs.declared.Job.{Job}
use Rattle.job_laws.specs.RecordFit.{meant_version, job_reversion, job_rows, job_kinds, job_figures, job_flows, job_quotes, job_discounts, job_state_prices}
use Rattle.job_laws.specs.JobPrices.{job_bond, job_option}

pub record JobMeant (job : Job) : Type 0 where
  -- version 1 where there is no tag
  pub version : ℕ
  pub absent : job.version ≡ 0 → version ≡ 1
  pub given : (job.version ≡ 0 → ⊥) → version ≡ job.version
  pub causes-by : meant_version job.version ≡ version
  -- what stands for b in rows, branching and prices
  pub reversion : job_reversion job ≡ working_reversion version job.reversion
  -- quotes of rows 1 to n and flows as they were read, figures by their bits
  pub rows : (i : ℕ) → i < job.steps → values (job_rows job) i ≡ i + 1
  pub kinds : job_kinds job ≡ take job.steps job.kinds
  pub figures : job_figures job ≡ map pattern_float (take job.steps job.figures)
  pub flows : job_flows job ≡ take job.steps job.flows
  pub quotes : (i : ℕ) → i < job.steps → values (job_quotes job) i ≡ discount_at job.frequency (job_kinds job) (job_figures job) i
  -- the tree is the fit by that version
  pub discounts : job_discounts job
      ≡ fit_discounts job.frequency job.steps (working_reversion version job.reversion)
      (version_spacing version job.frequency job.volatility job.reversion) (job_kinds job) (job_figures job)
  pub state-prices : job_state_prices job
      ≡ fit_state_prices job.frequency job.steps (working_reversion version job.reversion)
      (version_spacing version job.frequency job.volatility job.reversion) (job_kinds job) (job_figures job)
  -- bond and option are the entries' answers on it: by tag 8 of a kind and an expiry, by tag 10 on listed rows
  pub bond : job_bond job ≡ bond_price job.steps (job_reversion job) (job_discounts job) (job_flows job)
  pub option-of-kind : job.option.tag ≡ 8 →
      job_option job
      ≡ option_price job.steps (job_reversion job) (job_discounts job) (job_flows job) job.option.kind job.option.expiry job.option.strike
  pub option-on-dates : job.option.tag ≡ 10 →
      job_option job
      ≡ dated_price job.steps (job_reversion job) (job_discounts job) (job_flows job) job.option.kind
      (take job.option.count job.option.dates) job.option.strike
