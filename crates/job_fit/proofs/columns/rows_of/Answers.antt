use Rattle.std.proofs.Common.{◌≡◌, ◌+◌, ◌∙◌, ℕ, length, take, drop, ap, arith, length-append, length-drop, length-take}
use Rattle.std.proofs.Math.Seq.{take_at}
use Rattle.arithmetic.specs.Row.{row}
use Rattle.arithmetic.proofs.RowLaws.{filled-all}
use Rattle.job_fit.proofs.columns.rows_of.Goals as goal

pub returns : goal.returns
returns c =
    let zeros = c.no_rows-rows.result in
    let count = c.args.count in
    let items = c.loop-index.row-items in
    let whole : length (take count zeros) ≡ count = omega (arith, length-take count zeros) in
    let long : length items ≡ count = omega arith in (
      omega (arith, length-append items (drop count zeros), length-drop count zeros),
      take_at items (drop count zeros) count long
          ∙ filled-all _ items _ c.loop-index.index c.loop-index.invariant (omega arith)
          ∙ ap (λ (n : ℕ). row n (λ (k : ℕ). k + 1)) whole,
    )
