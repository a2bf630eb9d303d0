use Rattle.text.proofs.bond_line.Goals as goal

pub returns : goal.returns
returns c = record { value = c.price_line.ensures.value; out_after = c.price_line.ensures.out_after }
