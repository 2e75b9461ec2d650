use Rattle.words.specs.Choice.{◌and◌}
use Rattle.board.specs.Bus.{quiet}
use Rattle.board.proofs.Board.quiet.Goals as goal

pub returns : goal.returns
unfolding quiet ◌and◌
returns c = simp (c.picked-2.ensures, c.before.picked.ensures)
