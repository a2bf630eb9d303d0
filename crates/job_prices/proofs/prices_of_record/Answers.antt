use Rattle.std.proofs.Common.{◌≡◌, ◌∙◌, ℕ, length, sym, ap}
use Rattle.arithmetic.specs.Refusals.{cause_of}
use Rattle.arithmetic.proofs.RefusalLaws.{err-cause, ok-cause}
use Rattle.limits.specs.WithinLimits.{WithinLimits}
use Rattle.lattice.specs.Entries.{memory_cause}
use Rattle.lattice.proofs.TreeEntries.{tree-ok}
use Rattle.job_laws.specs.RecordFit.{job_reversion}
use Rattle.job_laws.proofs.PriceLaws as laws
use Rattle.job_prices.proofs.Clauses.{clauses}
use Rattle.job_prices.proofs.prices_of_record.Goals as goal
use Rattle.job_prices.proofs.prices_of_record.Goals.{After-memory_cause-memory, After-unwrap-price_count, Else-is_err, Else-prices-ne0}

-- whether the lent memories are long enough
memory-is : (c : After-memory_cause-memory) →
    let a = c.args in
    cause_of c.memory_cause-memory.result ≡ memory_cause a.job.steps (job_reversion a.job) (length a.discounts.now) (length a.state_prices.now)
memory-is c =
    let a = c.args in
    c.memory_cause-memory.ensures
    ∙ ap (λ (b : ℕ). memory_cause a.job.steps b (length a.discounts.now) (length a.state_prices.now)) c.meant_reversion-working.ensures

pub returns-then-is_err : goal.returns-then-is_err
returns-then-is_err c =
    let a = c.args in
    let prices = c.prices_in_place.ensures in
    let memory = memory-is (goal.at.returns-then-is_err c).After-memory_cause-memory in
    clauses
    (laws.short-left a.job a.discounts.now a.state_prices.now (λ z. err-cause _ (sym c.if-is_err.true ∙ c.is_err.ensures.value) (memory ∙ z)) _ _ _
    (prices.answer, (prices.discounted, prices.priced)))

-- the lent memories are long enough
long : (c : Else-is_err) →
    let a = c.args in
    memory_cause a.job.steps (job_reversion a.job) (length a.discounts.now) (length a.state_prices.now) ≡ 0
long c = sym (memory-is (goal.at.Else-is_err c).After-memory_cause-memory) ∙ ok-cause _ (sym c.if-is_err.false ∙ c.is_err.ensures.value)

pub returns-then-prices-ne0 : goal.returns-then-prices-ne0
returns-then-prices-ne0 c =
    let a = c.args in
    let own-d = c.discount_room-fitted_discounts in
    let own-p = c.state_price_room-fitted_prices in
    let prices = c.prices_in_place-prices.ensures in
    clauses
    (laws.apart-refused a.job a.discounts.now a.state_prices.now (long (goal.at.returns-then-prices-ne0 c).Else-is_err) own-d.result own-p.result
    own-d.ensures own-p.ensures _ _ _ (prices.answer, (prices.discounted, prices.priced)) c.if-prices-ne0.true)

within : (c : Else-prices-ne0) → WithinLimits c.args.job.steps c.meant_reversion-working.result
within c =
    let a = c.args in
    let own-d = c.discount_room-fitted_discounts in
    let own-p = c.state_price_room-fitted_prices in
    let prices = c.prices_in_place-prices.ensures in
    rw c.meant_reversion-working.ensures
    (laws.tree-within a.job a.discounts.now a.state_prices.now (long (goal.at.Else-prices-ne0 c).Else-is_err) own-d.result
    own-p.result own-d.ensures own-p.ensures _ _ _ (prices.answer, (prices.discounted, prices.priced)) c.if-prices-ne0.false)

pub unwrap-discount_count-requires : goal.unwrap-discount_count-requires
unwrap-discount_count-requires c =
    tree-ok _ _ _ _ c.discounts_needed.ensures (within (goal.at.unwrap-discount_count-requires c).Else-prices-ne0)

pub unwrap-price_count-requires : goal.unwrap-price_count-requires
unwrap-price_count-requires c =
    tree-ok _ _ _ _ c.state_prices_needed.ensures (within (goal.at.unwrap-price_count-requires c).Else-prices-ne0)

apart : (c : After-unwrap-price_count) →
    let a = c.args in
    laws.Apart a.job a.discounts.now a.state_prices.now c.prices_in_place-prices.new.discounts c.prices_in_place-prices.new.state_prices
    c.unwrap-discount_count.result c.unwrap-price_count.result c.prices_in_place-prices.result
apart c =
    let a = c.args in
    let own-d = c.discount_room-fitted_discounts in
    let own-p = c.state_price_room-fitted_prices in
    let prices = c.prices_in_place-prices.ensures in
    laws.apart a.job a.discounts.now a.state_prices.now (long (goal.at.After-unwrap-price_count c).Else-is_err) own-d.result own-p.result
    own-d.ensures own-p.ensures _ _ _ (prices.answer, (prices.discounted, prices.priced)) c.if-prices-ne0.false
    c.meant_reversion-working.result c.meant_reversion-working.ensures _ _
    (rw c.unwrap-discount_count.ensures at c.discounts_needed.ensures) (rw c.unwrap-price_count.ensures at c.state_prices_needed.ensures)

pub slice_bounds-fitted_discounts-end : goal.slice_bounds-fitted_discounts-end
slice_bounds-fitted_discounts-end c = (apart c).discounts-end

pub slice_bounds-place-end : goal.slice_bounds-place-end
slice_bounds-place-end c = (apart (goal.at.slice_bounds-place-end c).After-unwrap-price_count).discounts-count

pub place-requires : goal.place-requires
place-requires c = (apart (goal.at.place-requires c).After-unwrap-price_count).discounts-fit

pub slice_bounds-fitted_prices-end : goal.slice_bounds-fitted_prices-end
slice_bounds-fitted_prices-end c = (apart (goal.at.slice_bounds-fitted_prices-end c).After-unwrap-price_count).prices-end

pub slice_bounds-place-end-2 : goal.slice_bounds-place-end-2
slice_bounds-place-end-2 c = (apart (goal.at.slice_bounds-place-end-2 c).After-unwrap-price_count).prices-count

pub place-requires-2 : goal.place-requires-2
place-requires-2 c = (apart (goal.at.place-requires-2 c).After-unwrap-price_count).prices-fit

pub returns : goal.returns
returns c = clauses ((apart (goal.at.returns c).After-unwrap-price_count).placed _ _ c.place.ensures c.place-2.ensures)
