use mathlib.Core.Path.{◌∙◌}
use Rattle.console_dump.proofs.DumpLaws.{rows_turn, rows_end, rows_begin}
use Rattle.console_dump.proofs.rows.Goals as goal

pub loop-k-preserved : goal.loop-k-preserved
loop-k-preserved c =
    rows_turn _ _ _ _ _ _ _ c.loop-k.k c.loop-k-test.true c.byte-next.ensures c.row_from-next-in-loop-k.ensures c.loop-k.invariant

pub returns : goal.returns
returns c =
    rows_end _ _ _ _ _ c.loop-k.k c.loop-k-test.false c.loop-k.invariant ∙ rows_begin _ _ _ _ c.requires.0 c.row_from-next.ensures
