use Rattle.text_laws.proofs.LineLaws.{line-ok}
use Rattle.sheet_laws.proofs.PartLaws as laws
use borrow.Author.Rules.{rules}
use Rattle.record_sheet.proofs.lines.put_option.Goals as goal

pub unwrap-requires : goal.unwrap-requires
unwrap-requires c = line-ok _ _ _ c.option_line.result c.requires.0 c.requires.1 (c.option_line.ensures.value, c.option_line.ensures.out_after)

pub returns-then-present : goal.returns-then-present
returns-then-present c =
    laws.option-stands c.args.out.now _ c.args.end c.args.present c.args.option c.if-present.true (search rules, search rules) c.requires.0
    c.requires.1 (rw c.unwrap.ensures at c.option_line.ensures.value, c.option_line.ensures.out_after)

pub returns : goal.returns
returns c =
    laws.option-none c.args.out.now c.args.end c.args.present c.args.option c.if-present.false c.requires.1
