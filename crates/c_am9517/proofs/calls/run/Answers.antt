use mathlib.Core.Path.{ap}
use Rattle.c_am9517.specs.Host.{run_call_of}
use Rattle.c_am9517.proofs.calls.run.Goals as goal

pub returns : goal.returns
returns c = rw c.run_told_of-said.ensures (ap run_call_of c.before.before.before.before.before.before.before.run-ran.ensures.0)
