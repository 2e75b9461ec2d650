use Rattle.console_arrays.specs.Services.{reason_text}
use Rattle.console_arrays.proofs.runs.reason_said.Goals as goal

pub returns-in-Ended : goal.returns-in-Ended
unfolding reason_text
returns-in-Ended c = simp c.in-Ended.is c.text.ensures

pub returns-in-Dropped : goal.returns-in-Dropped
unfolding reason_text
returns-in-Dropped c = simp c.in-Dropped.is c.text-in-Dropped.ensures

pub returns-in-Cascade : goal.returns-in-Cascade
unfolding reason_text
returns-in-Cascade c = simp c.in-Cascade.is c.text-in-Cascade.ensures

pub returns-in-Limit : goal.returns-in-Limit
unfolding reason_text
returns-in-Limit c = simp c.in-Limit.is c.text-in-Limit.ensures

pub returns-in-Short : goal.returns-in-Short
unfolding reason_text
returns-in-Short c = simp c.in-Short.is c.text-in-Short.ensures
