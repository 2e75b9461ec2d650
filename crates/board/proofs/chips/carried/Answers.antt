use Rattle.board.proofs.chips.carried.Goals as goal

pub returns : goal.returns
returns c = simp c.with_chip.ensures
