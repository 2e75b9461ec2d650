use mathlib.Core.Path.{ap}
use Rattle.c_am9517.specs.Host.{round_call_of}
use Rattle.c_am9517.proofs.calls.round.Goals as goal

pub returns : goal.returns
returns c = rw c.round_told_of-said.ensures (ap round_call_of c.before.before.before.before.before.before.round-rounded.ensures.0)
