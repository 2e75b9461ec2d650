use Rattle.am9517.proofs.ServingLaws.{lines_are}
use Rattle.am9517.proofs.Controller.lines.Goals as goal

pub returns : goal.returns
returns c = simp (c.when.ensures, c.before.active_set.ensures, c.before.before.disabled.ensures) (lines_are _)
