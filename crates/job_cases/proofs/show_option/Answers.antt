use mathlib.Core.Path.{sym}
use Rattle.job_record.proofs.ReadLaws.{lent_length}
use Rattle.job_cases.proofs.show_option.Goals as goal

pub slice_bounds-show_dates-end : goal.slice_bounds-show_dates-end
slice_bounds-show_dates-end c =
    let sound = c.requires in
    sym (lent_length _ _ _ _ sound.dates sound.few)
