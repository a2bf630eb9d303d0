use mathlib.Core.Path.{◌≡◌, refl, ◌∙◌}
use Rattle.arithmetic.proofs.Implied.{implied}
use Rattle.price_laws.specs.Prices.{dated_cause}
use Rattle.price_laws.proofs.OptionLaws.{dated-cause-is}
use Rattle.pricing.proofs.StripTurns.{kept-through}
use Rattle.pricing.proofs.StrikeLaws.{strike-refused, exercisable, rolled-refuses, rolled-gives, bond-refuses}
use Rattle.pricing.proofs.strips.strike_price.Goals as goal
use Rattle.pricing.proofs.strips.strike_price.Goals.{After-lowest_cause-cause}

-- the cause about the strike and the list
cause : (c : After-lowest_cause-cause) → let a = c.args in
    c.lowest_cause-cause.result ≡ dated_cause a.shared.steps a.shared.side a.dates.now a.strike
cause c =
    dated-cause-is _ _ _ _ (c.cause-about_terms.ensures ∙ c.terms_cause.ensures) c.requires.list-is c.lowest_cause-cause.ensures

pub returns-then-cause-ne0 : goal.returns-then-cause-ne0
returns-then-cause-ne0 c =
    c.refused.ensures
    ∙ strike-refused implied c.requires.none (cause (goal.at.returns-then-cause-ne0 c).After-lowest_cause-cause) c.if-cause-ne0.true

pub returns-then-shared-ne0 : goal.returns-then-shared-ne0
returns-then-shared-ne0 c =
    let ready = c.requires.ready in
    c.refused-then-shared-ne0.ensures
    ∙ bond-refuses implied c.requires.none (cause (goal.at.returns-then-shared-ne0 c).After-lowest_cause-cause) c.if-cause-ne0.false
    ready.tree.limits.steps-within-limit refl c.requires.marks-are ready.tree ready.paid c.requires.bond-is.cause c.if-shared-ne0.true

pub roll_strike-rolled-requires : goal.roll_strike-rolled-requires
roll_strike-rolled-requires c =
    let ready = c.requires.ready in
    let on =
    exercisable {bound = c.args.shared.bound} implied c.requires.none
    (cause (goal.at.roll_strike-rolled-requires c).After-lowest_cause-cause) c.if-cause-ne0.false ready.tree.limits.steps-within-limit
    c.terms_on-terms.ensures c.requires.marks-are in
    (ready, on.0, on.1, kept-through c.requires.bond-is c.if-shared-ne0.false, c.requires.room)

pub returns-then-rolled-ne0 : goal.returns-then-rolled-ne0
returns-then-rolled-ne0 c =
    let ready = c.requires.ready in
    c.refused-then-rolled-ne0.ensures
    ∙ rolled-refuses implied c.requires.none (cause (goal.at.returns-then-rolled-ne0 c).After-lowest_cause-cause) c.if-cause-ne0.false
    ready.tree.limits.steps-within-limit c.terms_on-terms.ensures c.requires.marks-are c.roll_strike-rolled.ensures c.if-rolled-ne0.true

pub returns : goal.returns
returns c =
    let ready = c.requires.ready in
    rolled-gives implied c.requires.none (cause (goal.at.returns c).After-lowest_cause-cause) c.if-cause-ne0.false
    ready.tree.limits.steps-within-limit c.terms_on-terms.ensures c.requires.marks-are c.roll_strike-rolled.ensures c.if-rolled-ne0.false
