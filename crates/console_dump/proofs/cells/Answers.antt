use Rattle.console_dump.proofs.DumpLaws.{cells_turn, cells_end}
use Rattle.console_dump.proofs.cells.Goals as goal

pub loop-b-preserved : goal.loop-b-preserved
loop-b-preserved c = cells_turn _ _ _ _ _ c.loop-b-test.true c.cell-next.ensures c.loop-b.invariant

pub returns : goal.returns
returns c = cells_end _ _ _ c.loop-b.b-index c.loop-b-test.false c.loop-b.invariant
