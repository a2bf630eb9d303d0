use Rattle.std.proofs.Common.{arith, ◌≡◌, ℕ, ◌+◌, ◌-◌, ◌<◌, ◌≤◌, ◌∙◌, List, length, get_or, replicate, ◌++◌, length-append}
use Rattle.std.proofs.lemmas.List.Edits.{get_or-between, length-between}
use Rattle.std.proofs.lemmas.List.{length-replicate, drop-replicate, get_or_append_left, get_or-append_right}
use Rattle.arithmetic.specs.Row.{padded}
use Rattle.arithmetic.proofs.PaddedLaws.{padded-of}
use Rattle.arithmetic.proofs.RowLaws.{zeros}
use Rattle.job_record.specs.Form.{most_dates}
use Rattle.job_reader.proofs.dates_from.Goals as goal

-- entries with zeros after them
padded_copy : (places n : ℕ) (f : ℕ → ℕ) (l : List ℕ) → n ≤ places → length l ≡ n → ((k : ℕ) → k < n → get_or l k 0 ≡ f k) →
    l ++ replicate (places - n) 0 ≡ padded places n f
padded_copy places n f l few long same =
    let rest : List ℕ = replicate (places - n) 0 in
    padded-of places (l ++ rest) n f (omega (arith, length-append l rest, length-replicate {A = ℕ} (places - n) 0))
    (λ k below. get_or_append_left l rest 0 k (rw long below) ∙ same k below)
    (λ k past. get_or-append_right l rest n k 0 long past ∙ zeros (places - n) (k - n))

pub returns : goal.returns
returns c =
    let from = c.args.from in
    let end = from + c.args.count in
    rw (c.copy_from_slice.ensures.after, c.no_dates-dates.ensures, drop-replicate {X = ℕ} c.args.count most_dates 0)
    (padded_copy most_dates c.args.count _ _ c.requires.0 (omega (arith, length-between c.args.bytes.now from end))
    (λ k below. get_or-between c.args.bytes.now from end k 0 (omega arith)))
