use Rattle.c_am9517.proofs.calls.answered_of.Goals as goal

pub returns : goal.returns
returns c = rw c.told_of-said.ensures
