use Rattle.capi.proofs.mixegorta_dated_option_price.Goals as goal

pub returns : goal.returns
returns c = c.dated_option_price.ensures
