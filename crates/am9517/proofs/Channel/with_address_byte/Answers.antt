use Rattle.am9517.proofs.Channel.with_address_byte.Goals as goal

pub returns : goal.returns
returns c = simp (c.before.with_byte.ensures, c.with_byte-2.ensures)
