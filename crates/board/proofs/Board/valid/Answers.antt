use Rattle.words.specs.Choice.{◌and◌}
use Rattle.board.specs.Ranges.{pair_valid}
use Rattle.board.proofs.Board.valid.Goals as goal

pub returns : goal.returns
unfolding pair_valid ◌and◌
returns c = simp (c.before.before.valid.ensures, c.before.valid-2.ensures)
