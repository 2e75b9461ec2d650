use Rattle.console_text.proofs.TextLaws.{put_both}
use Rattle.console_arrays.specs.Services.{run_text}
use Rattle.console_arrays.proofs.runs.run_said.Goals as goal

pub returns-in-Ok : goal.returns-in-Ok
unfolding run_text
returns-in-Ok c = simp c.in-Ok.is (put_both _ _ _ _ _ c.reason_said-next.ensures c.counts_said.ensures)

pub returns-in-Err : goal.returns-in-Err
unfolding run_text
returns-in-Err c = simp c.in-Err.is c.refused.ensures
