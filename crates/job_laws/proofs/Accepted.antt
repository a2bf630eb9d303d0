-- What prices without a refusal say: the fit, the bond and the option are accepted, and so all that is promised of these holds of them.
-- Assumes nothing.
use mathlib.Core.Path.{◌≡◌, refl, sym, ◌∙◌}
use mathlib.Core.Bool.{Bool, true, false}
use mathlib.Core.List.{List}
use Prim.Native.Nat.{ℕ}
use native.Mathlib.Omega.{arith}
use lib.Dec.{eqb}
use borrow.Author.Tests.{eq-eqb, ne_eqb}
use Rattle.arithmetic.proofs.CauseLaws.{first-both, lowest-none, first-none}
use Rattle.lattice.specs.Entries.{memory_cause}
use Rattle.arithmetic.proofs.Numbers.{by_equal, by-test}
use Rattle.limits.specs.Limits.{most_discounts, most_state_prices}
use Rattle.limits.proofs.LimitLaws.{limit-kept, limit-accepted}
use Rattle.pricing_laws.specs.Pricer.{Side, Schedule}
use Rattle.price_laws.specs.declared.Price.{Price}
use Rattle.price_laws.specs.Prices.{bond_peak, option_limit, priced, scheduled_price, bond_price, option_price, dated_price}
use Rattle.job_record.specs.declared.Job.{Job}
use Rattle.job_record.specs.declared.OptionRecord.{OptionRecord}
use Rattle.job_record.specs.Reader.{reading_of}
use Rattle.job_laws.specs.RecordFit.{job_reversion, job_flows, job_discounts, record_fit}
use Rattle.job_laws.specs.JobPrices.{has_option, option_form, tagged_option, tree_number, job_bond, record_number, bytes_number}

priced-number : (number price bound : ℕ) → (priced number price bound).number ≡ number
unfolding priced
priced-number number price bound =
    by_equal number 0 (λ z. rw (eq-eqb number 0 z) (sym z)) (λ nz. rw (ne_eqb number 0 nz))

-- an option that is priced has a bond that is
scheduled-judges : (n b : ℕ) (discounts flows : List ℕ) (side : Side) (strike : ℕ) (rows : Schedule) (cause : ℕ) →
    (scheduled_price n b discounts flows side strike rows cause).number ≡ 0 → (bond_price n b discounts flows).number ≡ 0
unfolding bond_price option_limit
scheduled-judges n b discounts flows side strike rows cause z =
    let option = first-none _ _ (sym (priced-number _ _ _) ∙ z) in
    let late = limit-accepted _ (first-none _ _ option.1).1 in
    priced-number _ _ _ ∙ first-both _ _ option.0 (sym (limit-kept (bond_peak n b discounts flows) (omega arith)))

pub option-judges : (n b : ℕ) (discounts flows : List ℕ) (option : OptionRecord) →
    (tagged_option n b discounts flows option).number ≡ 0 → (bond_price n b discounts flows).number ≡ 0
unfolding tagged_option option_price dated_price
option-judges n b discounts flows option =
    by-test (eqb option.tag 8) (λ (p : Price). p.number ≡ 0 → (bond_price n b discounts flows).number ≡ 0) _ _
    (λ t. scheduled-judges n b discounts flows _ _ _ _) (λ t. scheduled-judges n b discounts flows _ _ _ _)

module _ (n b : ℕ) (discounts flows : List ℕ) (option : OptionRecord) (z : tree_number n b discounts flows option ≡ 0) where
  pub tree-option : has_option option ≡ true → (tagged_option n b discounts flows option).number ≡ 0
  unfolding tree_number
  tree-option e = rw e at z

  pub tree-bond : (bond_price n b discounts flows).number ≡ 0
  unfolding tree_number
  tree-bond = by (has_option option) refl
    where
      by : (t : Bool) → has_option option ≡ t → (bond_price n b discounts flows).number ≡ 0
      by true e = option-judges n b discounts flows option (tree-option e)
      by false e = rw e at z

-- each part of a record that is priced without a cause, in lent memories of so many numbers
pub record AcceptedRecord (job : Job) (discounts prices : ℕ) : Type 0 where
  pub fit : record_fit job most_discounts most_state_prices ≡ 0
  pub room : memory_cause job.steps (job_reversion job) discounts prices ≡ 0
  pub bond : (job_bond job).number ≡ 0
  pub option-priced : has_option job.option ≡ true →
      (tagged_option job.steps (job_reversion job) (job_discounts job) (job_flows job) job.option).number ≡ 0

pub record-formed : (job : Job) (discounts prices : ℕ) → record_number job discounts prices ≡ 0 → option_form job.option.tag job.option.count ≡ 0
unfolding record_number
record-formed job discounts prices z = (first-none _ _ z).0

pub record-accepted : (job : Job) (discounts prices : ℕ) → record_number job discounts prices ≡ 0 → AcceptedRecord job discounts prices
unfolding record_number
record-accepted job discounts prices z =
    let parts = first-none _ _ (first-none _ _ z).1 in
    let early = lowest-none _ _ parts.0 in
    record { fit = early.0; room = early.1; bond = tree-bond _ _ _ _ job.option parts.1; option-priced = tree-option _ _ _ _ job.option parts.1 }

pub bytes-accepted : (bytes : List ℕ) (discounts prices : ℕ) → bytes_number bytes discounts prices ≡ 0 →
    ((reading_of bytes).number ≡ 0) × AcceptedRecord (reading_of bytes).job discounts prices
unfolding bytes_number
bytes-accepted bytes discounts prices z = let parts = first-none _ _ z in (parts.0, record-accepted _ discounts prices parts.1)
