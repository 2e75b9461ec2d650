use Rattle.c_board.proofs.calls.done_of.Goals as goal

pub returns : goal.returns
returns c = rw c.told_of-said.ensures
