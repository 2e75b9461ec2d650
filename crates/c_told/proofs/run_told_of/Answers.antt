use Rattle.c_told.proofs.run_told_of.Goals as goal

pub returns : goal.returns
returns c = rw c.run_pair-pair.ensures
