use Rattle.board.proofs.runs.ran_on.Goals as goal

pub returns : goal.returns
returns c = simp c.with_chip.ensures
