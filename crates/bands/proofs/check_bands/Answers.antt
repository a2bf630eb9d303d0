use mathlib.Core.Path.{sym, ◌∙◌}
use native.Mathlib.Omega.{arith}
use Rattle.arithmetic.proofs.Implied.{implied}
use Rattle.bands.proofs.TestLaws.{lengths-agree}
use Rattle.bands.proofs.VerdictLaws.{table-bad, table-many, table-pairs, verdict-lengths, verdict-table}
use Rattle.bands.proofs.check_bands.Goals as goal

pub returns-then-not-have_one_length : goal.returns-then-not-have_one_length
returns-then-not-have_one_length c = verdict-lengths implied (sym c.have_one_length.ensures ∙ c.if-not-have_one_length.true)

pub first_bad-requires : goal.first_bad-requires
first_bad-requires c = lengths-agree implied (sym c.have_one_length.ensures ∙ c.if-not-have_one_length.false)

pub returns-in-Some : goal.returns-in-Some
returns-in-Some c =
    table-bad _ _ _ c.in-Some.ensures.0 c.in-Some.ensures.1 ∙ verdict-table implied (sym c.have_one_length.ensures ∙ c.if-not-have_one_length.false)

pub returns-then-firsts-gt-MOST_BANDS : goal.returns-then-firsts-gt-MOST_BANDS
returns-then-firsts-gt-MOST_BANDS c =
    table-many _ _ _ c.in_default.ensures (omega arith) c.if-firsts-gt-MOST_BANDS.true
    ∙ verdict-table implied (sym c.have_one_length.ensures ∙ c.if-not-have_one_length.false)

pub judge_pairs-requires : goal.judge_pairs-requires
judge_pairs-requires c =
    (lengths-agree implied (sym c.have_one_length.ensures ∙ c.if-not-have_one_length.false)).0

pub returns : goal.returns
returns c =
    c.judge_pairs.ensures
    ∙ (table-pairs _ _ _ c.in_default.ensures (omega arith) c.if-firsts-gt-MOST_BANDS.false
    ∙ verdict-table implied (sym c.have_one_length.ensures ∙ c.if-not-have_one_length.false))
