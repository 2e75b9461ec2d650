use Rattle.c_told.proofs.RequestingLaws.{requesting}
use mathlib.Core.Path.{◌∙◌}
use Rattle.c_told.proofs.requesting_set.Goals as goal

pub returns : goal.returns
returns c = c.entitled_set.ensures ∙ requesting c.before.before.args.c
