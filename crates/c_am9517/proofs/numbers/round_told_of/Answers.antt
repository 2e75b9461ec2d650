use Rattle.c_am9517.proofs.numbers.round_told_of.Goals as goal

pub returns : goal.returns
returns c = rw c.before.round_pair-pair.ensures
