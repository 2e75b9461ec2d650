use Rattle.words.specs.Grounds.{first}
use Rattle.words.specs.Choice.{when}
use mathlib.Core.List.{[]}
use Rattle.am9517.specs.Refusals.{numbered, refused}
use Rattle.board.proofs.RefusalLaws.{refused_is}
use Rattle.board.specs.Refusals.{idle_grounds}
use Rattle.board.proofs.Board.idle_refusal.Goals as goal

pub returns : goal.returns
unfolding first refused numbered when
returns c = simp (refused_is (idle_grounds c.args.self []), c.when.ensures, c.valid.ensures, c.when-refusal.ensures, c.serves.ensures)
