use mathlib.Core.Path.{ap}
use Rattle.c_told.specs.Numbers.{save_of}
use Rattle.c_am9517.proofs.calls.save2.Goals as goal

pub returns : goal.returns
returns c = rw c.sheet_number.ensures (ap save_of c.before.before.before.write.ensures.0)
