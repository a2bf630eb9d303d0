use mathlib.Core.Path.{◌≡◌, sym, ◌∙◌}
use mathlib.Core.Bool.{true}
use Rattle.arithmetic.specs.Frequency.{is_frequency}
use Rattle.arithmetic.proofs.FrequencyLaws.{listed_small}
use Rattle.quotes.proofs.QuoteLaws.{row_low, row-high, row-known, lone-frequency, lone_row, lone-kind}
use Rattle.quotes.proofs.lone_point.Goals as goal
use Rattle.quotes.proofs.lone_point.Goals.{Else-not-is_frequency}

pub returns-then-not-is_frequency : goal.returns-then-not-is_frequency
returns-then-not-is_frequency c = sym (lone-frequency _ _ _ (sym c.is_frequency.ensures ∙ c.if-not-is_frequency.true))

known : (c : Else-not-is_frequency) → is_frequency c.args.frequency ≡ true
known c = sym c.is_frequency.ensures ∙ c.if-not-is_frequency.false

pub returns-then-row-lt1 : goal.returns-then-row-lt1
returns-then-row-lt1 c =
    let k = known (goal.at.returns-then-row-lt1 c).Else-not-is_frequency in
    sym (lone_row _ c.args.kind c.args.point k (row_low c.args.point.row c.if-row-lt1.true))

pub returns-then-row-gt-LAST_ROW : goal.returns-then-row-gt-LAST_ROW
returns-then-row-gt-LAST_ROW c =
    let k = known (goal.at.returns-then-row-gt-LAST_ROW c).Else-not-is_frequency in
    sym (lone_row _ c.args.kind c.args.point k (row-high c.args.point.row c.if-row-lt1.false c.if-row-gt-LAST_ROW.true))

pub of_point-requires : goal.of_point-requires
of_point-requires c =
    let f = listed_small c.args.frequency (known (goal.at.of_point-requires c).Else-not-is_frequency) in
    (f.0, f.1, c.if-row-gt-LAST_ROW.false)

pub returns : goal.returns
returns c =
    let k = known (goal.at.returns c).Else-not-is_frequency in
    c.of_point.ensures
    ∙ sym (lone-kind _ c.args.kind c.args.point k (row-known c.args.point.row c.if-row-lt1.false c.if-row-gt-LAST_ROW.false))
