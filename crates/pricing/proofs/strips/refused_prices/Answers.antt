use Rattle.std.proofs.Common.{◌≡◌, ℕ, ◌++◌, ◌∙◌, ◌-◌, ◌≤◌, length, drop, replicate, ap, arith, length-append}
use Rattle.std.proofs.lemmas.List.{get_or-append_right, get_or-replicate, get_or_append_left, drop-replicate, length-replicate}
use Rattle.std.proofs.lemmas.Grind.{common_steps}
use Rattle.arithmetic.specs.Row.{padded}
use Rattle.arithmetic.proofs.PaddedLaws.{padded-of}
use Rattle.arithmetic.proofs.RowLaws.{zeros}
use Rattle.price_laws.specs.Strips.{most_strikes}
use Rattle.price_laws.specs.Prices.{refused_price}
use Rattle.price_laws.proofs.StripLaws.{no-column, strip-is}
use Rattle.pricing.proofs.strips.refused_prices.Goals as goal

-- zeros, the first n of them overwritten with one value
front-filled : (places n v : ℕ) → n ≤ places → replicate n v ++ replicate (places - n) 0 ≡ padded places n (λ k. v)
front-filled places n v few =
    let long : length (replicate n v) ≡ n = length-replicate n v in
    padded-of places _ n (λ k. v)
    (omega (arith, length-append (replicate n v) (replicate (places - n) 0), long, length-replicate {A = ℕ} (places - n) 0))
    (λ k h. get_or_append_left (replicate n v) _ 0 k (omega arith) ∙ get_or-replicate n k v 0 h)
    (λ k h. get_or-append_right (replicate n v) _ n k 0 long h ∙ zeros (places - n) (k - n))

pub returns : goal.returns
returns c =
    let a = c.args in
    let zeros = no-column _ a.count c.no_answers-zeros.ensures in
    let some : c.fill.new.self ≡ replicate a.count a.number =
    c.fill.ensures.after (λ y e. e) ∙ ap (λ (n : ℕ). replicate n a.number) (grind (arith, common_steps)) in
    let rest : drop a.count c.no_answers-numbers.result ≡ replicate (most_strikes - a.count) 0 =
    rw c.no_answers-numbers.ensures (drop-replicate a.count most_strikes 0) in
    strip-is a.count (λ k. refused_price a.number) _ _ _
    (rw (some, rest) (front-filled most_strikes a.count a.number c.requires)) zeros zeros
