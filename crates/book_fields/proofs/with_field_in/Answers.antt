use mathlib.Core.Path.{sym, ◌∙◌, ap}
use Rattle.book_laws.proofs.OpenLaws.{field-shut, field-full, field-added, memory-shut, memory-full, memory-added}
use Rattle.book_laws.specs.Books.{with_prices}
use Rattle.book_laws.proofs.BoundLaws.{bounded}
use Rattle.book_fields.proofs.with_field_in.Goals as goal

pub returns-then-not-is_open : goal.returns-then-not-is_open
returns-then-not-is_open c =
    let shut = sym c.is_open.ensures ∙ c.if-not-is_open.true in
    record { answer = field-shut _ _ shut; discounted = memory-shut _ _ _ _ shut; priced = memory-shut _ _ _ _ shut }

pub returns-then-book-ge-MOST_FIELDS : goal.returns-then-book-ge-MOST_FIELDS
returns-then-book-ge-MOST_FIELDS c =
    let full = c.if-book-ge-MOST_FIELDS.true in
    record { answer = field-full _ _ full; discounted = memory-full _ _ _ _ full; priced = memory-full _ _ _ _ full }

pub with_prices-requires : goal.with_prices-requires
with_prices-requires c =
    (sym c.is_open.ensures ∙ c.if-not-is_open.false, rw c.prices_of.ensures.answer (bounded _))

pub returns : goal.returns
returns c =
    let going = sym c.is_open.ensures ∙ c.if-not-is_open.false in
    let room = c.if-book-ge-MOST_FIELDS.false in
    record {
      answer = c.with_prices.ensures ∙ ap (λ p. with_prices c.args.book p) c.prices_of.ensures.answer ∙ sym (field-added _ _ going room);
      discounted = c.prices_of.ensures.discounted ∙ memory-added _ _ _ _ going room;
      priced = c.prices_of.ensures.priced ∙ memory-added _ _ _ _ going room;
    }
