use mathlib.Core.Path.{ap}
use Rattle.c_told.specs.declared.Told.{Told}
use Rattle.c_am9517.proofs.calls.check.Goals as goal

pub returns : goal.returns
returns c = ap (λ (t : Told). t.refusal) c.shown.ensures
