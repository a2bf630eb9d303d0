use Rattle.text_laws.proofs.LineLaws.{line-ok}
use Rattle.sheet_laws.proofs.PartLaws as laws
use borrow.Author.Rules.{rules}
use native.Mathlib.Omega.{arith}
use Rattle.record_sheet.proofs.lines.put_prices.Goals as goal

pub put_option-below-requires : goal.put_option-below-requires
put_option-below-requires c = (omega (arith, c.requires.0), c.requires.1)

pub unwrap-requires : goal.unwrap-requires
unwrap-requires c =
    let a = c.args in
    let room = laws.option-room a.present a.option (search rules, search rules) c.requires.0 c.put_option-below.ensures in
    line-ok _ _ _ c.bond_line.result room.0 room.1 (c.bond_line.ensures.value, c.bond_line.ensures.out_after)

pub returns : goal.returns
returns c =
    laws.prices-stand _ c.args.bond c.args.present c.args.option (search rules, search rules) (search rules, search rules) c.requires.0
    c.put_option-below.ensures (rw c.unwrap.ensures at c.bond_line.ensures.value, c.bond_line.ensures.out_after)
