-- A job's record as quotes and fit take it (document 01, Job and sheet; Spacing and fit; When the engine declines; document 02, request (ix)).
-- Assumes nothing.
use Rattle.std.specs.Prelude.{ℕ, ◌+◌, cond, List, map, eqb, ltb, Float, take}
use Rattle.job_record.specs.Form.{most_job_steps}
use Rattle.arithmetic.specs.Answers.{unless_refused}
use Rattle.arithmetic.specs.Row.{row, place}
use Rattle.figure.specs.Figure.{pattern_float}
use Rattle.curve.specs.Curve.{curve_number}
use Rattle.reversion.specs.Reversion.{working_reversion}
use Rattle.spacing.specs.Spacing.{version_spacing}
use Rattle.fitted_laws.specs.Entry.{version_number, fit_discounts, fit_state_prices, quotes_of}
use Rattle.job_record.specs.declared.Job.{Job}

-- version 1 is meant where a record has 0 for none
unfoldable pub meant_version : ℕ → ℕ
meant_version version = cond (eqb version 0) 1 version

-- the working reversion of a record's version
unfoldable pub meant_reversion : ℕ → ℕ → ℕ
meant_reversion version b = working_reversion (meant_version version) b

module _ (job : Job) where
  -- what stands for b in rows, branching and prices, and the spacing
  abbrev pub job_reversion : ℕ
  job_reversion = meant_reversion job.version job.reversion

  abbrev pub job_spacing : ℕ
  job_spacing = version_spacing (meant_version job.version) job.frequency job.volatility job.reversion

  -- rows 1 to n, kinds, figures by their patterns, flows
  abbrev pub job_rows : List ℕ
  job_rows = row job.steps (λ k. k + 1)

  abbrev pub job_kinds : List ℕ
  job_kinds = take job.steps job.kinds

  abbrev pub job_figures : List Float
  job_figures = map pattern_float (take job.steps job.figures)

  abbrev pub job_flows : List ℕ
  job_flows = take job.steps job.flows

  -- the quotes of rows 1 to n, and the tree fitted to them: discounts of rows 0 to n − 1, state prices of rows 0 to n
  unfoldable pub job_quotes : List ℕ
  job_quotes = quotes_of job.frequency job.steps job_kinds job_figures

  unfoldable pub job_discounts : List ℕ
  job_discounts = fit_discounts job.frequency job.steps job_reversion job_spacing job_kinds job_figures

  unfoldable pub job_state_prices : List ℕ
  job_state_prices = fit_state_prices job.frequency job.steps job_reversion job_spacing job_kinds job_figures

  -- 1: no job's bytes give more than 255 steps; then the causes of the conversion into a memory of so many numbers
  unfoldable pub record_quotes : ℕ → ℕ
  record_quotes room =
      cond (ltb most_job_steps job.steps) 1 (curve_number job.frequency job.steps job_rows job_kinds job_figures room)

  -- 1, then causes 2 to 9, in memories of so many numbers
  unfoldable pub record_fit : ℕ → ℕ → ℕ
  record_fit discounts prices =
      cond (ltb most_job_steps job.steps) 1
      (version_number (meant_version job.version) job.frequency job.steps job.reversion job.volatility
      job_rows job_kinds job_figures discounts prices)

-- a memory afterwards: the part at its start and the rest as it was, or all as it was on a refusal
unfoldable pub memory_after : ℕ → List ℕ → List ℕ → List ℕ
memory_after number part memory = unless_refused number (place memory 0 part) memory
