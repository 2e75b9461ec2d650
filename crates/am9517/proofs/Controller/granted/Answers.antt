use Rattle.am9517.specs.Serving.{granted}
use Rattle.am9517.proofs.Controller.granted.Goals as goal

pub returns : goal.returns
unfolding granted
returns c = simp (c.when.ensures, c.before.rotating.ensures)
