use Rattle.words.specs.Choice.{when}
use Rattle.c_board.specs.Host.{chip_of}
use borrow.Author.Tests.{eq-eqb, ne_eqb}
use Rattle.c_board.proofs.calls.chip_of.Goals as goal

pub returns-then-which-eq0 : goal.returns-then-which-eq0
unfolding chip_of when
returns-then-which-eq0 c = simp (eq-eqb _ _ c.if-which-eq0.true)

pub returns : goal.returns
unfolding chip_of when
returns c = simp (ne_eqb _ _ c.if-which-eq0.false)
