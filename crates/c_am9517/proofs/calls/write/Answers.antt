use Rattle.c_am9517.proofs.CallLaws.{number_only}
use Rattle.c_am9517.proofs.calls.write.Goals as goal

pub returns : goal.returns
returns c = rw (c.done_of.ensures, c.before.write.ensures.0) (number_only _ _ _)
