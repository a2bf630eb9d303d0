use Rattle.capi.proofs.mixegorta_bond_and_dated_option.Goals as goal

pub returns : goal.returns
returns c = c.bond_and_dated_option.ensures
