use mathlib.Core.Path.{ap, ◌∙◌}
use Prim.Native.Nat.{ℕ}
use Rattle.reversion.specs.Reversion.{working_reversion}
use Rattle.job_laws.specs.RecordFit.{meant_reversion}
use Rattle.job_fit.proofs.meant_reversion.Goals as goal

pub returns : goal.returns
unfolding meant_reversion
returns c =
    c.working_or_same.ensures ∙ ap (λ (v : ℕ). working_reversion v c.args.reversion) c.meant_version.ensures
