use Rattle.capi.proofs.mixegorta_shelf_ask.Goals as goal

pub returns : goal.returns
returns c = record { number = c.ask.ensures.number; slots = c.ask.ensures.slots; memory = c.ask.ensures.memory }
