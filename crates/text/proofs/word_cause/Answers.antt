use mathlib.Core.Path.{◌∙◌}
use Rattle.text_laws.proofs.WordLineLaws.{word-long, word-short}
use Rattle.text.proofs.word_cause.Goals as goal

pub returns-then-word-gt-LONGEST_WORD : goal.returns-then-word-gt-LONGEST_WORD
returns-then-word-gt-LONGEST_WORD c = word-long _ _ _ c.if-word-gt-LONGEST_WORD.true

pub returns : goal.returns
returns c = c.line_cause.ensures ∙ word-short _ _ _ c.if-word-gt-LONGEST_WORD.false
