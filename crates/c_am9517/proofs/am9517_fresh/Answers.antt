use Rattle.c_am9517.proofs.am9517_fresh.Goals as goal

pub returns : goal.returns
returns c = simp (c.edition_byte.ensures, c.before.fresh-chip.ensures)
