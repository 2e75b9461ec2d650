use Rattle.console_arrays.proofs.ServiceLaws.{commas_turn, commas_end}
use Rattle.console_arrays.proofs.runs.behind_commas.Goals as goal

pub loop-n-preserved : goal.loop-n-preserved
loop-n-preserved c = commas_turn _ _ _ _ _ c.loop-n-test.true c.behind_comma-next.ensures c.loop-n.invariant

pub returns : goal.returns
returns c = commas_end _ _ _ c.loop-n.n-index c.loop-n-test.false c.loop-n.invariant
