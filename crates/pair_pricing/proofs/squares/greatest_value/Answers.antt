use Rattle.std.proofs.Common.{◌≡◌, ◌∙◌, ℕ, sym, ap, arith}
use Rattle.arithmetic.specs.Sum.{greatest}
use Rattle.arithmetic.proofs.SumLaws.{greatest-none}
use Rattle.pair_laws.specs.inside.Square.{cell}
use Rattle.pair_laws.proofs.Squares.{line-greatest, lines-greatest}
use Rattle.pair_pricing.proofs.squares.greatest_value.Goals as goal

pub loop-a-init : goal.loop-a-init
loop-a-init c = sym (greatest-none _)

pub loop-a-preserved : goal.loop-a-preserved
loop-a-preserved c =
    let l = c.loop-a in
    let xs = c.args.square.now in
    lines-greatest xs c.args.width l.a l.best _ _ l.invariant
    (line-greatest xs _ l.a c.args.width _ (omega arith) c.part.ensures c.greatest_of-line.ensures) c.larger-best.ensures

pub returns : goal.returns
returns c =
    let e : c.loop-a.a ≡ c.args.lines = omega arith in
    c.loop-a.invariant ∙ ap (λ (n : ℕ). greatest n (λ (t : ℕ). greatest c.args.width (λ (k : ℕ). cell c.args.square.now t k))) e
