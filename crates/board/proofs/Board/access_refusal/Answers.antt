use Rattle.words.specs.Grounds.{first}
use Rattle.words.specs.Choice.{when}
use mathlib.Core.List.{[]}
use Rattle.am9517.specs.Refusals.{numbered, refused}
use Rattle.board.proofs.RefusalLaws.{refused_is}
use Rattle.board.specs.Refusals.{access_grounds}
use Rattle.board.proofs.Board.access_refusal.Goals as goal

pub returns : goal.returns
unfolding first refused numbered when
returns c = simp (refused_is (access_grounds c.args.self c.args.reg []), c.when.ensures, c.valid.ensures, c.when-refusal-2.ensures, c.when-refusal.ensures, c.serves.ensures)
