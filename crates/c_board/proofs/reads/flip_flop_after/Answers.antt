use Rattle.words.specs.Choice.{when}
use Rattle.words.specs.Grounds.{first}
use Rattle.am9517.specs.Registers.{after_read}
use Rattle.c_board.proofs.ReadLaws.{flip_flop_kept}
use borrow.Author.Tests.{lt-ltb}
use Rattle.c_board.proofs.reads.flip_flop_after.Goals as goal

pub returns-then-reg-lt8 : goal.returns-then-reg-lt8
unfolding after_read first when
returns-then-reg-lt8 c = simp (lt-ltb _ _ c.before.before.if-reg-lt8.true, c.when.ensures)

pub returns : goal.returns
returns c = flip_flop_kept c.before.args.c c.before.args.reg c.if-reg-lt8.false
