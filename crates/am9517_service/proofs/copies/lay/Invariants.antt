use Rattle.am9517_service.proofs.CopyRestoreLaws.{Laying}
use Rattle.am9517_service.proofs.copies.lay.Given as goal

abbrev pub invariant-loop-left : goal.invariant-loop-left
invariant-loop-left l = Laying l.initial.here l.area l.n l.initial.memory l.here l.memory l.until l.left

abbrev pub decreases-loop-left : goal.decreases-loop-left
decreases-loop-left l = l.left
