use Rattle.words.specs.Grounds.{first}
use Rattle.words.specs.Choice.{when}
use Rattle.am9517.specs.Refusals.{numbered, refused}
use Rattle.board.proofs.RefusalLaws.{refused_is}
use Rattle.board.specs.Refusals.{board_round_grounds}
use Rattle.board.proofs.refusals.round_refusal.Goals as goal

pub returns : goal.returns
unfolding first refused numbered when
returns c = simp (refused_is (board_round_grounds c.args.b c.args.memory.now c.args.k), c.when.ensures, c.valid.ensures, c.when-refusal-3.ensures, c.when-refusal-2.ensures, c.when-refusal.ensures, c.serves.ensures)
