use Rattle.am9517_service.proofs.CopyPieceLaws.{Moving}
use Rattle.am9517_service.proofs.copies.carry_all.Given as goal

abbrev pub invariant-loop-left : goal.invariant-loop-left
invariant-loop-left l = Moving l.initial.here l.initial.memory l.n l.here l.memory l.left

abbrev pub decreases-loop-left : goal.decreases-loop-left
decreases-loop-left l = l.left
