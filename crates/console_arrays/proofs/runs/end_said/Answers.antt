use Rattle.console_arrays.specs.Services.{reason_text, end_text}
use Rattle.console_arrays.proofs.runs.end_said.Goals as goal

pub returns-in-Done : goal.returns-in-Done
unfolding end_text
returns-in-Done c = simp c.in-Done.is c.text.ensures

pub returns-in-Quiet : goal.returns-in-Quiet
unfolding end_text
returns-in-Quiet c = simp c.in-Quiet.is c.text-in-Quiet.ensures

pub returns-in-Stopped : goal.returns-in-Stopped
unfolding end_text reason_text
returns-in-Stopped c = simp c.in-Stopped.is c.reason_said.ensures
