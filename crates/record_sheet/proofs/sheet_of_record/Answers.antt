use mathlib.Core.Path.{◌≡◌, refl, sym, ap, ◌∙◌}
use Prim.Native.Nat.{ℕ, ◌≤◌}
use native.Mathlib.Omega.{arith}
use lib.ListN.{length}
use Rattle.std.proofs.lemmas.Result.{err_from_is_err_and}
use Rattle.arithmetic.specs.Answers.{lowest_cause}
use Rattle.arithmetic.specs.Refusals.{cause_of}
use Rattle.arithmetic.proofs.RefusalLaws.{refusal-some}
use Rattle.limits.specs.Limits.{most_discounts, most_state_prices}
use Rattle.job_laws.specs.JobPrices.{record_prices}
use Rattle.sheet_room.specs.Room.{sheet_room}
use Rattle.sheet_laws.specs.inside.Stored.{Fitted}
use Rattle.sheet_laws.specs.WholeJob.{job_number}
use Rattle.sheet_laws.proofs.FittedLaws as fits
use Rattle.sheet_laws.proofs.SheetLaws as laws
use Rattle.record_sheet.proofs.AnswerLaws as answers
use Rattle.record_sheet.proofs.NumberLaws.{record-most}
use Rattle.record_sheet.proofs.sheet_of_record.Goals as goal
use Rattle.record_sheet.proofs.sheet_of_record.Goals.{After-prices_in_place-prices, After-room_cause, In_ok-lowest_refusal}

clauses-answer-memory : {A B : Type 0} → A × B → record { answer : A; memory : B }
clauses-answer-memory w = record { answer = w.0; memory = w.1 }

largest : (c : After-prices_in_place-prices) → c.prices_in_place-prices.result ≡ record_prices c.args.job most_discounts most_state_prices
largest c =
    let own-d = c.discount_room-discounts in
    let own-p = c.state_price_room-state_prices in
    fits.prices-largest c.args.job own-d.result own-p.result own-d.ensures own-p.ensures _ c.prices_in_place-prices.ensures.answer

-- the number of the prices is a refusal's or 0
pub outcome_of-requires : goal.outcome_of-requires
outcome_of-requires c =
    let e = laws.prices-number-is c.args.job _ (largest (goal.at.outcome_of-requires c).After-prices_in_place-prices) in
    omega (arith, e, record-most c.args.job most_discounts most_state_prices)

-- the lowest of both causes, by the number of the prices
lowest : (c : After-room_cause) (x : ℕ) → x ≡ lowest_cause (cause_of c.outcome_of.result) (cause_of c.room_cause.result) →
    x ≡ lowest_cause c.prices_in_place-prices.result.number (cause_of c.room_cause.result)
lowest c x e = e ∙ ap (λ (y : ℕ). lowest_cause y (cause_of c.room_cause.result)) c.outcome_of.ensures

number_is : (c : After-room_cause) (x : ℕ) → x ≡ lowest_cause (cause_of c.outcome_of.result) (cause_of c.room_cause.result) →
    x ≡ job_number c.args.job (length c.args.out.now)
number_is c x e =
    laws.cause-is c.args.job _ (largest (goal.at.After-room_cause c).After-prices_in_place-prices)
    c.args.out.now _ x c.room_cause.ensures (lowest c x e)

pub returns-in_err-lowest_refusal : goal.returns-in_err-lowest_refusal
returns-in_err-lowest_refusal c =
    let p = err_from_is_err_and c.from_residual.result c.from_residual.ensures.1 in
    let number = number_is (goal.at.returns-in_err-lowest_refusal c).After-room_cause _ c.in_err-lowest_refusal.ensures in
    rw (p.1, p.2) (clauses-answer-memory (answers.refused-by _ _ _ c.args.out.now _ refl number (refusal-some _)))

-- where no cause refuses the job
no-cause : (c : In_ok-lowest_refusal) → c.prices_in_place-prices.result.number ≡ 0
no-cause c =
    laws.priced-none c.args.job _ (largest (goal.at.In_ok-lowest_refusal c).After-prices_in_place-prices)
    c.args.out.now _ _ c.room_cause.ensures
    (lowest (goal.at.In_ok-lowest_refusal c).After-room_cause _ c.in_ok-lowest_refusal.ensures) refl

room : (c : In_ok-lowest_refusal) → sheet_room ≤ length c.args.out.now
room c =
    laws.room-given c.args.job _ (largest (goal.at.In_ok-lowest_refusal c).After-prices_in_place-prices)
    c.args.out.now _ _ c.room_cause.ensures
    (lowest (goal.at.In_ok-lowest_refusal c).After-room_cause _ c.in_ok-lowest_refusal.ensures) refl

fitted : (c : In_ok-lowest_refusal) →
    Fitted c.args.job c.prices_in_place-prices.new.discounts c.prices_in_place-prices.new.state_prices
fitted c =
    let job = c.args.job in
    let own-d = c.discount_room-discounts in
    let own-p = c.state_price_room-state_prices in
    let left = c.prices_in_place-prices.ensures in
    fits.fitted job own-d.result own-p.result own-d.ensures own-p.ensures _ _
    (sym (laws.prices-number-is job _ (largest (goal.at.In_ok-lowest_refusal c).After-prices_in_place-prices)) ∙ no-cause c)
    left.discounted left.priced

pub draw-start-requires : goal.draw-start-requires
draw-start-requires c =
    let ok = (goal.at.draw-start-requires c).In_ok-lowest_refusal in
    record {
      fitted = (fitted ok, room ok);
      prices_value = laws.prices-known c.args.job _ (largest (goal.at.draw-start-requires c).After-prices_in_place-prices) (no-cause ok);
    }

pub overflow_sub-result : goal.overflow_sub-result
overflow_sub-result c = omega (arith, c.draw-start.ensures.place)

pub returns : goal.returns
returns c =
    let number = number_is (goal.at.returns c).After-room_cause _ c.in_ok-lowest_refusal.ensures in
    clauses-answer-memory (answers.sheet-put _ _ c.args.out.now _ _ (sym number) c.draw-start.ensures)
