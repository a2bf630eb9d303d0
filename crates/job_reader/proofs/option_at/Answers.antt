use mathlib.Core.Path.{sym, ◌∙◌}
use native.Mathlib.Omega.{arith}
use Rattle.job_record.proofs.Forms.{kind-ends, list-head, rest-kind, rest-list, rest_from}
use Rattle.job_record.proofs.Options.{option-none, option-kind, option-list}
use Rattle.job_reader.proofs.option_at.Goals as goal

pub returns-then-bytes-at : goal.returns-then-bytes-at
returns-then-bytes-at c = c.no_option.ensures ∙ sym (option-none _ _ c.if-bytes-at.true)

pub bounds-bytes-at : goal.bounds-bytes-at
bounds-bytes-at c = omega (arith, rest_from _ _ c.requires.1)

pub kind_option_at-requires : goal.kind_option_at-requires
kind_option_at-requires c =
    omega (arith, kind-ends _ _ (rest-kind _ _ c.requires.1 c.if-bytes-at.false c.if-bytes-at-eq8.true))

pub returns-then-bytes-at-eq8 : goal.returns-then-bytes-at-eq8
returns-then-bytes-at-eq8 c = c.kind_option_at.ensures ∙ sym (option-kind _ _ c.if-bytes-at.false c.if-bytes-at-eq8.true)

pub list_option_at-requires : goal.list_option_at-requires
list_option_at-requires c =
    omega (arith, list-head _ _ (rest-list _ _ c.requires.1 c.if-bytes-at.false c.if-bytes-at-eq8.false))

pub returns : goal.returns
returns c = c.list_option_at.ensures ∙ sym (option-list _ _ c.if-bytes-at.false c.if-bytes-at-eq8.false)
