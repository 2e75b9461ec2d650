use Rattle.board.proofs.Board.winner.Goals as goal

pub returns : goal.returns
returns c = simp (c.winner_of.ensures, c.before.picked-2.ensures, c.before.before.picked.ensures)
