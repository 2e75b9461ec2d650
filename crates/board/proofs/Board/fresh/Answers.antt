use Rattle.board.proofs.Board.fresh.Goals as goal

pub returns : goal.returns
returns c = simp (c.fresh-two.ensures, c.before.fresh-one.ensures)
