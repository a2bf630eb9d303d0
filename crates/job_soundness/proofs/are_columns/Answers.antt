use mathlib.Core.Path.{◌∙◌}
use Rattle.job_record.proofs.Answers.{passed, failed}
use Rattle.writer_laws.proofs.SoundTests.{column-here, no-kinds, no-tags, no-figures, columns-by-flows}
use Rattle.job_soundness.proofs.are_columns.Goals as goal

pub returns-then-not-are_kinds : goal.returns-then-not-are_kinds
returns-then-not-are_kinds c = no-kinds _ _ _ _ (failed c.are_kinds.ensures c.if-not-are_kinds.true)

pub returns-then-not-is_byte_column : goal.returns-then-not-is_byte_column
returns-then-not-is_byte_column c =
    let pre = c.requires in
    no-tags _ _ _ _ (passed c.are_kinds.ensures c.if-not-are_kinds.false)
    (failed (column-here _ _ _ _ pre.1 c.is_byte_column.ensures) c.if-not-is_byte_column.true)

pub returns-then-not-is_column : goal.returns-then-not-is_column
returns-then-not-is_column c =
    let pre = c.requires in
    no-figures _ _ _ _ (passed c.are_kinds.ensures c.if-not-are_kinds.false)
    (passed (column-here _ _ _ _ pre.1 c.is_byte_column.ensures) c.if-not-is_byte_column.false)
    (failed (column-here _ _ _ _ pre.2 c.is_column.ensures) c.if-not-is_column.true)

pub returns : goal.returns
returns c =
    let pre = c.requires in
    column-here _ _ _ _ pre.3 c.is_column-2.ensures
    ∙ columns-by-flows _ _ _ _ (passed c.are_kinds.ensures c.if-not-are_kinds.false)
    (passed (column-here _ _ _ _ pre.1 c.is_byte_column.ensures) c.if-not-is_byte_column.false)
    (passed (column-here _ _ _ _ pre.2 c.is_column.ensures) c.if-not-is_column.false)
