use mathlib.Core.Path.{◌≡◌, sym, ◌∙◌}
use Prim.Native.Nat.{ℕ}
use borrow.Author.Tests.{eq-eqb, ne_eqb}
use Rattle.arithmetic.specs.Answers.{first_cause}
use Rattle.price_laws.specs.Prices.{refused_price}
use Rattle.price_laws.specs.Strips.{strip_of}
use Rattle.price_laws.proofs.StripLaws.{strip-few, strip-refused, strip-given}
use Rattle.pricing.proofs.refused_kind.Goals as goal

-- the first of the two causes in every place
by_first : (count found cause : ℕ) → (found ≡ 0 → ⊥) →
    strip_of count (λ k. refused_price found) ≡ strip_of count (λ k. refused_price (first_cause found cause))
unfolding first_cause
by_first count found cause z = rw (ne_eqb found 0 z)

by-later : (count found cause : ℕ) → found ≡ 0 →
    strip_of count (λ k. refused_price cause) ≡ strip_of count (λ k. refused_price (first_cause found cause))
unfolding first_cause
by-later count found cause z = rw (eq-eqb found 0 z)

pub returns-then-own-ne0 : goal.returns-then-own-ne0
returns-then-own-ne0 c = c.refused_strip.ensures ∙ strip-refused _ _ _ _ c.strip_cause-own.ensures c.if-own-ne0.true

pub refused_prices-requires : goal.refused_prices-requires
refused_prices-requires c = strip-few _ _ _ (sym c.strip_cause-own.ensures ∙ c.if-own-ne0.false)

pub returns-then-bound-ne0 : goal.returns-then-bound-ne0
returns-then-bound-ne0 c =
    strip-given _ _ _ _ (sym c.strip_cause-own.ensures ∙ c.if-own-ne0.false)
    (c.refused_prices.ensures ∙ by_first _ _ c.args.cause c.if-bound-ne0.true)

pub refused_prices-requires-2 : goal.refused_prices-requires-2
refused_prices-requires-2 c = strip-few _ _ _ (sym c.strip_cause-own.ensures ∙ c.if-own-ne0.false)

pub returns : goal.returns
returns c =
    strip-given _ _ _ _ (sym c.strip_cause-own.ensures ∙ c.if-own-ne0.false)
    (c.refused_prices-2.ensures ∙ by-later _ _ _ c.if-bound-ne0.false)
