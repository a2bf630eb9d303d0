use native.Mathlib.Omega.{arith}
use Rattle.text_laws.proofs.LineLaws.{number-near, number-outside, number-none}
use Rattle.text.proofs.line_cause.Goals as goal

pub returns-then-end-lt-LONGEST_LINE : goal.returns-then-end-lt-LONGEST_LINE
returns-then-end-lt-LONGEST_LINE c =
    number-near c.args.size c.args.end (omega arith)

pub returns-then-size-end : goal.returns-then-size-end
returns-then-size-end c =
    number-outside c.args.size c.args.end (omega arith) (omega arith)

pub returns : goal.returns
returns c =
    number-none c.args.size c.args.end (omega arith) (omega arith)
