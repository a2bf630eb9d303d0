use native.Mathlib.Omega.{arith}
use Rattle.bands.proofs.StopLaws.{row_before, row-after, price-below, price-above, inside, added_none, added-one}
use Rattle.bands.proofs.add_band.Goals as goal

pub returns-then-row-first : goal.returns-then-row-first
returns-then-row-first c = added_none (omega arith) (omega arith) (λ q l m. row_before _ _ _ _ (omega arith))

pub returns-then-last-row : goal.returns-then-last-row
returns-then-last-row c = added_none (omega arith) (omega arith) (λ q l m. row-after _ _ _ _ (omega arith))

pub returns-then-stop-low : goal.returns-then-stop-low
returns-then-stop-low c = added_none (omega arith) (omega arith) (λ q l m. price-below _ _ _ _ (omega arith))

pub returns-then-price-low : goal.returns-then-price-low
returns-then-price-low c = added_none (omega arith) (omega arith) (λ q l m. price-below _ _ _ _ (omega arith))

pub returns-then-high-price : goal.returns-then-high-price
returns-then-high-price c = added_none (omega arith) (omega arith) (λ q l m. price-above _ _ _ _ (omega arith))

pub returns-then-high-stop : goal.returns-then-high-stop
returns-then-high-stop c = added-one (omega arith) (omega arith) (λ q l m. inside (omega arith) (omega arith) (omega arith) (omega arith))

pub returns : goal.returns
returns c = added-one (omega arith) (omega arith) (λ q l m. inside (omega arith) (omega arith) (omega arith) (omega arith))
