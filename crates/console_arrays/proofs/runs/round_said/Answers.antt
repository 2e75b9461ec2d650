use Rattle.console_text.proofs.TextLaws.{put_both}
use Rattle.console_arrays.specs.Services.{round_text}
use Rattle.console_arrays.proofs.runs.round_said.Goals as goal

pub returns-in-Ok : goal.returns-in-Ok
unfolding round_text
returns-in-Ok c = simp c.in-Ok.is (put_both _ _ _ _ _ c.end_said-next.ensures c.round_counts.ensures)

pub returns-in-Err : goal.returns-in-Err
unfolding round_text
returns-in-Err c = simp c.in-Err.is c.refused.ensures
