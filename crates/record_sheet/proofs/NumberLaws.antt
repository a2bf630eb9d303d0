-- No number of a record's prices is above 13, so that each is a refusal's or 0.
-- Assumes nothing.
use mathlib.Core.Bool.{Bool, true, false, cond, not, ◌&&◌, ◌||◌}
use mathlib.Core.List.{List}
use Prim.Native.Nat.{ℕ, ◌*◌, ◌-◌, ◌≤◌}
use native.Mathlib.Omega.{arith}
use lib.Dec.{eqb, leb, ltb}
use lib.Ieee.{Float}
use lib.ListN.{length}
use Rattle.arithmetic.proofs.CauseLaws.{first-most}
use Rattle.arithmetic.specs.declared.Answer.{Answer}
use Rattle.arithmetic.specs.Answers.{lowest_cause, refused, answered}
use Rattle.arithmetic.specs.Frequency.{is_frequency}
use Rattle.arithmetic.specs.Rounding.{one}
use Rattle.arithmetic.specs.Row.{values, each, between}
use Rattle.arithmetic.proofs.Numbers.{by-test}
use Rattle.arithmetic.proofs.Implied.{Implied, implied, lastly, ◌▸◌}
use Rattle.limits.specs.Limits.{value_limit, most_steps, most_reversion, is_steps, is_reversion, shape_cause, limit_cause}
use Rattle.lattice.specs.Shape.{half_width, discounts_needed}
use Rattle.lattice.specs.Entries.{about_tree, discounts_needed_answer, state_prices_needed_answer, memory_cause}
use Rattle.lent_tree.specs.LentTree.{accepted_discounts, discounts_cause}
use Rattle.reversion.specs.Reversion.{is_version}
use Rattle.spacing.specs.Spacing.{version_spacing, version_spacing_answer}
use Rattle.curve.specs.Curve.{in_place, converts_at, curve_number}
use Rattle.fitted_laws.specs.Fit.{curve_accepted}
use Rattle.fitted_laws.specs.Entry.{early_cause, late_cause, fitted_number, version_number}
use Rattle.pricing_laws.specs.Pricer.{Side, Schedule}
use Rattle.pricing_laws.specs.Schedule.{last_date, rising, dates_cause}
use Rattle.price_causes.specs.Causes.{most_flow, most_strike, flows_cause, option_cause, terms_cause}
use Rattle.price_laws.specs.declared.Price.{Price}
use Rattle.price_laws.specs.Prices.{tree_cause, priced, bond_price}
use Rattle.price_laws.specs.Prices.{option_limit, scheduled_price, option_price, dated_cause, dated_price}
use Rattle.job_record.specs.declared.Job.{Job}
use Rattle.job_record.specs.declared.OptionRecord.{OptionRecord}
use Rattle.job_record.specs.Form.{most_job_steps, most_dates}
use Rattle.job_laws.specs.RecordFit.{record_fit}
use Rattle.job_laws.specs.JobPrices.{has_option, option_form, tagged_option, tree_number, record_number}

-- the greatest of them
abbrev most-number : ℕ
most-number = 13

-- a choice of two numbers, and of two causes
chosen-most : (t : Bool) (x y k : ℕ) → x ≤ k → y ≤ k → cond t x y ≤ k
chosen-most true x y k h l = h
chosen-most false x y k h l = l

lowest-most : (a b k : ℕ) → a ≤ k → b ≤ k → lowest_cause a b ≤ k
unfolding lowest_cause
lowest-most a b k h l = chosen-most (eqb a 0) b _ k l (chosen-most (eqb b 0) a _ k h (omega arith))

-- the number of an answer by a test
number-most : (t : Bool) (x y : Answer) (k : ℕ) → x.number ≤ k → y.number ≤ k → (cond t x y).number ≤ k
number-most true x y k h l = h
number-most false x y k h l = l

shape-most : (n b : ℕ) → shape_cause n b ≤ most-number
unfolding shape_cause
shape-most n b = chosen-most (is_steps n) _ _ most-number (chosen-most (is_reversion b) 0 4 most-number (omega arith) (omega arith)) (omega arith)

limit-most : (value : ℕ) → limit_cause value ≤ most-number
unfolding limit_cause
limit-most value = chosen-most (ltb value_limit value) 12 0 most-number (omega arith) (omega arith)

memory-most : (n b discounts prices : ℕ) → memory_cause n b discounts prices ≤ most-number
unfolding memory_cause
memory-most n b discounts prices =
    chosen-most (leb (discounts_needed_answer n b).value discounts && leb (state_prices_needed_answer n b).value prices) 0 6 most-number (omega arith)
    (omega arith)

curve-most : (f n : ℕ) (rows kinds : List ℕ) (figures : List Float) (room : ℕ) → curve_number f n rows kinds figures room ≤ most-number
unfolding curve_number
curve-most f n rows kinds figures room =
    chosen-most (not (is_frequency f)) 2 _ most-number (omega arith)
    (chosen-most (not (is_steps n)) 3 _ most-number (omega arith)
    (chosen-most (not (in_place n rows kinds figures room)) 6 _ most-number (omega arith)
    (chosen-most (not (each n (converts_at f kinds figures))) 7 0 most-number (omega arith) (omega arith))))

needed-most : (n b : ℕ) → (discounts_needed_answer n b).number ≤ most-number
unfolding about_tree
needed-most n b = number-most (eqb (shape_cause n b) 0) (answered (discounts_needed n b)) (refused (shape_cause n b)) most-number (omega arith) (shape-most n b)

spacing-most : (v f s b : ℕ) → (version_spacing_answer v f s b).number ≤ most-number
unfolding version_spacing_answer
spacing-most v f s b =
    number-most (not (is_frequency f)) (refused 2) _ most-number (omega arith)
    (number-most (ltb most_reversion b) (refused 4) _ most-number (omega arith)
    (number-most (ltb 50000 s) (refused 5) _ most-number (omega arith)
    (number-most (not (is_version v)) (refused 7) (answered (version_spacing v f s b)) most-number (omega arith) (omega arith))))

early-most : (n w spaced quoted discounts prices : ℕ) → quoted ≤ most-number → spaced ≤ most-number →
    early_cause quoted n w spaced discounts prices ≤ most-number
unfolding early_cause
early-most n w spaced quoted discounts prices h l =
    lowest-most _ _ most-number (lowest-most _ _ most-number h (needed-most n w)) (lowest-most _ _ most-number l (memory-most n w discounts prices))

late-most : (n b h : ℕ) (quotes : List ℕ) → late_cause n b h quotes ≤ most-number
unfolding late_cause
late-most n b h quotes =
    chosen-most (ltb one (half_width b (n - 1) * h)) 8 _ most-number (omega arith)
    (chosen-most (curve_accepted b h quotes) 0 9 most-number (omega arith) (omega arith))

fitted-most : (f n w spaced h : ℕ) (rows kinds : List ℕ) (figures : List Float) (discounts prices : ℕ) → spaced ≤ most-number →
    fitted_number f n w spaced h rows kinds figures discounts prices ≤ most-number
unfolding fitted_number
fitted-most f n w spaced h rows kinds figures discounts prices l =
    chosen-most (eqb (early_cause (curve_number f n rows kinds figures most_steps) n w spaced discounts prices) 0) _ _ most-number (late-most n w h _)
    (early-most n w spaced _ discounts prices (curve-most f n rows kinds figures most_steps) l)

fit-most : {v f n b s : ℕ} {rows kinds : List ℕ} {figures : List Float} {discounts prices : ℕ} →
    Implied (v ▸ f ▸ n ▸ b ▸ s ▸ rows ▸ kinds ▸ figures ▸ discounts ▸ lastly prices) →
    version_number v f n b s rows kinds figures discounts prices ≤ most-number
fit-most {v} {f} {n} {b} {s} {rows} {kinds} {figures} {discounts} {prices} _ =
    fitted-most f n _ _ _ rows kinds figures discounts prices (spacing-most v f s b)

tree-most : (n b : ℕ) (discounts flows : List ℕ) → tree_cause n b discounts flows ≤ most-number
unfolding tree_cause discounts_cause flows_cause
tree-most n b discounts flows =
    lowest-most _ _ most-number
    (chosen-most (eqb (shape_cause n b) 0) _ _ most-number
    (chosen-most (leb (discounts_needed n b) (length discounts)) _ 6 most-number
    (chosen-most (accepted_discounts n b discounts) 0 9 most-number (omega arith) (omega arith)) (omega arith)) (shape-most n b))
    (chosen-most (eqb (length flows) n) _ 6 most-number
    (chosen-most (each (length flows) (between 0 most_flow (values flows))) 0 10 most-number (omega arith) (omega arith)) (omega arith))

-- a price has the number of its cause
priced-most : (number price bound : ℕ) → number ≤ most-number → (priced number price bound).number ≤ most-number
unfolding priced
priced-most number price bound h = go (eqb number 0)
  where
    go : (t : Bool) → (cond {A = Price} t (record { number = 0; value = price; bound = bound })
        (record { number = number; value = 0; bound = 0 })).number ≤ most-number
    go true = omega arith
    go false = h

bond-most : (n b : ℕ) (discounts flows : List ℕ) → (bond_price n b discounts flows).number ≤ most-number
unfolding bond_price
bond-most n b discounts flows = priced-most _ _ _ (first-most _ _ most-number (tree-most n b discounts flows) (limit-most _))

scheduled-most : (n b : ℕ) (discounts flows : List ℕ) (side : Side) (strike : ℕ) (rows : Schedule) (cause : ℕ) → cause ≤ most-number →
    (scheduled_price n b discounts flows side strike rows cause).number ≤ most-number
unfolding option_limit
scheduled-most n b discounts flows side strike rows cause h =
    priced-most _ _ _ (first-most _ _ most-number (tree-most n b discounts flows) (first-most _ _ most-number h (limit-most _)))

kind-most : (n kind expiry strike : ℕ) → option_cause n kind expiry strike ≤ most-number
unfolding option_cause
kind-most n kind expiry strike = chosen-most (leb 1 kind && leb kind 4 && ltb expiry n && leb strike most_strike) 0 11 most-number (omega arith) (omega arith)

dated-most : (n side : ℕ) (dates : List ℕ) (strike : ℕ) → dated_cause n side dates strike ≤ most-number
unfolding dated_cause terms_cause dates_cause
dated-most n side dates strike =
    lowest-most _ _ most-number (chosen-most (leb 1 side && leb side 2 && leb strike most_strike) 0 11 most-number (omega arith) (omega arith))
    (chosen-most (ltb 0 (length dates) && (rising dates && ltb (last_date dates) n)) 0 13 most-number (omega arith) (omega arith))

tagged-most : (n b : ℕ) (discounts flows : List ℕ) (option : OptionRecord) → (tagged_option n b discounts flows option).number ≤ most-number
unfolding tagged_option option_price dated_price
tagged-most n b discounts flows option =
    by-test (eqb option.tag 8) (λ (p : Price). p.number ≤ most-number) _ _
    (λ t. scheduled-most n b discounts flows _ _ _ _ (kind-most n _ _ _)) (λ t. scheduled-most n b discounts flows _ _ _ _ (dated-most n _ _ _))

tree-number-most : {n b : ℕ} {discounts flows : List ℕ} {option : OptionRecord} → Implied (n ▸ b ▸ discounts ▸ flows ▸ lastly option) →
    tree_number n b discounts flows option ≤ most-number
unfolding tree_number
tree-number-most {n} {b} {discounts} {flows} {option} _ = go (has_option option)
  where
    go : (t : Bool) → cond t (cond {A = Price} t (tagged_option n b discounts flows option) (record { number = 0; value = 0; bound = 0 })).number
        (bond_price n b discounts flows).number ≤ most-number
    go true = tagged-most n b discounts flows option
    go false = bond-most n b discounts flows

pub record-most : (job : Job) (discounts prices : ℕ) → record_number job discounts prices ≤ most-number
unfolding record_number option_form record_fit
record-most job discounts prices =
    first-most _ _ most-number
    (chosen-most (leb job.option.count most_dates && (eqb job.option.tag 0 || (eqb job.option.tag 8 || eqb job.option.tag 10))) 0 1 most-number
    (omega arith) (omega arith))
    (first-most _ _ most-number
    (lowest-most _ _ most-number (chosen-most (ltb most_job_steps job.steps) 1 _ most-number (omega arith) (fit-most implied)) (memory-most _ _ _ _))
    (tree-number-most implied))
