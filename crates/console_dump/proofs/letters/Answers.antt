use Rattle.console_dump.proofs.DumpLaws.{letters_turn, letters_end}
use Rattle.console_dump.proofs.letters.Goals as goal

pub loop-b-preserved : goal.loop-b-preserved
loop-b-preserved c = letters_turn _ _ _ _ _ c.loop-b-test.true (rw c.letter_of.ensures at c.byte-next.ensures) c.loop-b.invariant

pub returns : goal.returns
returns c = letters_end _ _ _ c.loop-b.b-index c.loop-b-test.false c.loop-b.invariant
