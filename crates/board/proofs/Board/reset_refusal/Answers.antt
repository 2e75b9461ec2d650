use Rattle.words.specs.Grounds.{first}
use Rattle.words.specs.Choice.{when}
use Rattle.am9517.specs.Refusals.{numbered, refused}
use Rattle.board.proofs.RefusalLaws.{refused_is}
use Rattle.board.specs.Refusals.{board_reset_grounds}
use Rattle.board.proofs.Board.reset_refusal.Goals as goal

pub returns : goal.returns
unfolding first refused numbered when
returns c = simp (refused_is (board_reset_grounds c.args.self), c.when.ensures, c.valid.ensures)
