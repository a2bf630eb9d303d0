use native.Mathlib.Omega.{arith}
use mathlib.Core.Path.{◌≡◌, sym, ◌∙◌}
use lib.ListN.{length, take}
use Rattle.job_record.proofs.ReadLaws.{lent_length}
use Rattle.job_cases.proofs.show_job.Goals as goal
use Rattle.job_cases.proofs.show_job.Goals.{After-flows-1}

-- each column's first entries are as many as the steps
kinds-lent : (c : After-flows-1) → let job = c.args.job in length (take job.steps job.kinds) ≡ job.steps
kinds-lent c = let sound = c.requires in lent_length _ _ _ _ sound.kinds (omega (arith, sound.steps))

figures-lent : (c : After-flows-1) → let job = c.args.job in length (take job.steps job.figures) ≡ job.steps
figures-lent c = let sound = c.requires in lent_length _ _ _ _ sound.figures (omega (arith, sound.steps))

flows-lent : (c : After-flows-1) → let job = c.args.job in length (take job.steps job.flows) ≡ job.steps
flows-lent c = let sound = c.requires in lent_length _ _ _ _ sound.flows (omega (arith, sound.steps))

pub slice_bounds-kinds-end : goal.slice_bounds-kinds-end
slice_bounds-kinds-end c =
    let sound = c.requires in
    omega (arith, sound.kinds.size, sound.steps)

pub slice_bounds-show_rows-end : goal.slice_bounds-show_rows-end
slice_bounds-show_rows-end c = sym (kinds-lent (goal.at.slice_bounds-show_rows-end c).After-flows-1)

pub slice_bounds-figures-end : goal.slice_bounds-figures-end
slice_bounds-figures-end c =
    let sound = c.requires in
    omega (arith, sound.figures.size, sound.steps)

pub slice_bounds-show_rows-end-2 : goal.slice_bounds-show_rows-end-2
slice_bounds-show_rows-end-2 c = sym (figures-lent (goal.at.slice_bounds-show_rows-end-2 c).After-flows-1)

pub slice_bounds-flows-end : goal.slice_bounds-flows-end
slice_bounds-flows-end c =
    let sound = c.requires in
    omega (arith, sound.flows.size, sound.steps)

pub slice_bounds-show_rows-end-3 : goal.slice_bounds-show_rows-end-3
slice_bounds-show_rows-end-3 c = sym (flows-lent (goal.at.slice_bounds-show_rows-end-3 c).After-flows-1)

pub show_rows-requires : goal.show_rows-requires
show_rows-requires c =
    let copied = (goal.at.show_rows-requires c).After-flows-1 in
    (figures-lent copied ∙ sym (kinds-lent copied), flows-lent copied ∙ sym (kinds-lent copied))
