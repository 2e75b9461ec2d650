use Rattle.words.proofs.bits.is_set.Goals as goal

pub returns : goal.returns
returns c = simp c.bit.ensures
