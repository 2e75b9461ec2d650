use mathlib.Core.Path.{ap}
use Rattle.c_am9517.specs.Host.{load_of}
use Rattle.c_am9517.proofs.calls.load_in.Goals as goal

pub returns : goal.returns
returns c = rw c.sheet_number.ensures (ap load_of c.before.before.read-held.ensures.0)
