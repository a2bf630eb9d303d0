use Rattle.std.proofs.Common.{arith}
use Rattle.arithmetic.proofs.RefusalLaws.{value-or}
use Rattle.lattice.proofs.MemoryLaws as laws
use Rattle.lattice.proofs.memory_cause.Goals as goal

pub returns-then-discounts-needed : goal.returns-then-discounts-needed
returns-then-discounts-needed c =
    laws.memory-short _ _ _ c.discounts_needed.ensures c.state_prices_needed.ensures
    (omega (arith, value-or c.discounts_needed.result))

pub returns-then-state_prices-all : goal.returns-then-state_prices-all
returns-then-state_prices-all c =
    laws.memory-lacks _ _ _ c.discounts_needed.ensures c.state_prices_needed.ensures
    (omega (arith, value-or c.discounts_needed.result)) (omega (arith, value-or c.state_prices_needed.result))

pub returns : goal.returns
returns c =
    laws.memory-enough _ _ _ c.discounts_needed.ensures c.state_prices_needed.ensures
    (omega (arith, value-or c.discounts_needed.result)) (omega (arith, value-or c.state_prices_needed.result))
