use Rattle.capi.proofs.mixegorta_bond_price.Goals as goal

pub returns : goal.returns
returns c = c.bond_price.ensures
