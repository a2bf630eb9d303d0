-- The starred figures of document 01 (Figures to hold against it), about the definitions that the contracts cite.
-- `round binary64 s n d` is the float nearest to n / d, negative where s is true.
-- Assumes nothing.
use Rattle.std.specs.Prelude.{◌≡◌, true, false, [], ◌∷◌, ℕ, ◌<◌, pos, negsuc}
use Rattle.std.specs.Float.{binary64}
use Rattle.std.specs.Float.Ieee.{round}
use Rattle.arithmetic.specs.Answers.{answered}
use Rattle.arithmetic.specs.Rounding.{one}
use Rattle.lattice.specs.Shape.{highest_node}
use Rattle.lattice.specs.Branching.{probabilities}
use Rattle.spacing.specs.Spacing.{spacing}
use Rattle.factor.specs.Factor.{factor}
use Rattle.figure.specs.Figure.{figure_of, accepted_figure}
use Rattle.quotes.specs.Quotes.{lone_answer}
use Rattle.step_rate.specs.StepRate as step-rate
use Rattle.text_laws.specs.Lines.{percent}

pub record Examples : Type 0 where
  -- J: b = 1,840, 1,841, 1,000
  pub highest-at-1840 : highest_node 1840 ≡ 2
  pub highest-at-1841 : highest_node 1841 ≡ 1
  pub highest-at-1000 : highest_node 1000 ≡ 2
  -- b = 1,000: up, middle, down at j = 1 and at J = 2
  pub ordinary-node : probabilities 1000 (pos 1) ≡ 73000000 ∷ 394000000 ∷ 133000000 ∷ []
  pub edge-node : probabilities 1000 (pos 2) ≡ 532000000 ∷ 16000000 ∷ 52000000 ∷ []
  -- h, s = 10,000, for f = 1 and f = 12; s = 0
  pub spacing-yearly : spacing 1 10000 ≡ 17320508
  pub spacing-monthly : spacing 12 10000 ≡ 416666
  pub spacing-none : (f : ℕ) → 0 < f → spacing f 0 ≡ 0
  -- y = one, below the middle and above it
  pub factor-below : factor (negsuc 0) one ≡ 2718281823
  pub factor-above : factor (pos 1) one ≡ 367879441
  -- floats −0.0025 and 0.0009765625
  pub negative-float : figure_of (round binary64 true 25 10000) ≡ accepted_figure (negsuc 2499999)
  pub half-float : figure_of (round binary64 false 9765625 10000000000) ≡ accepted_figure (pos 976563)
  -- rate −0.0025, f = 1, row 1
  pub rate-discount : lone_answer 1 6 (record { row = 1; figure = round binary64 true 25 10000 }) ≡ answered 1002506265
  -- discount 1,000,000,001: rate −1, printed -0.0000001
  pub small-rate : step-rate.rate_answer 1000000001 ≡ step-rate.answered_rate (negsuc 0)
  pub small-rate-printed :
      percent (step-rate.rate_answer 1000000001).value ≡ 45 ∷ 48 ∷ 46 ∷ 48 ∷ 48 ∷ 48 ∷ 48 ∷ 48 ∷ 48 ∷ 49 ∷ []
