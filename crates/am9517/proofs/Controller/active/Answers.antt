use Rattle.am9517.specs.Serving.{active}
use Rattle.am9517.proofs.Controller.active.Goals as goal

pub returns : goal.returns
unfolding active
returns c = simp (c.bit-2.ensures, c.before.bit.ensures)
