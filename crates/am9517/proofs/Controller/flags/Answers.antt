use native.Mathlib.Omega.{arith}
use Rattle.am9517.specs.ClosedMasks.{joined}
use Rattle.am9517.proofs.Controller.flags.Goals as goal

pub returns : goal.returns
unfolding joined
returns c = rw c.from_le_bytes.ensures (omega arith)
