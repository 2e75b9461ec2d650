use mathlib.Core.Path.{refl}
use Rattle.am9517.specs.ClosedSets.{entitled_of}
use Rattle.am9517.proofs.serving.entitled_of.Goals as goal

pub returns : goal.returns
unfolding entitled_of
returns c = refl
