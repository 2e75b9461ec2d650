use lib.ListN.{length}
use Rattle.am9517_service.proofs.RoundLoopLaws.{Looping}
use Rattle.am9517_service.specs.Round.{beginning, round_of}
use Rattle.am9517_service.proofs.rounds.round.Given as goal

abbrev pub invariant-loop-left : goal.invariant-loop-left
invariant-loop-left l = Looping l.k l.device (length l.initial.room) (round_of l.k l.device (beginning l.initial.s l.initial.memory l.initial.room)) l.f l.s l.services l.n l.nexts l.longs l.i l.left l.memory l.room

abbrev pub decreases-loop-left : goal.decreases-loop-left
decreases-loop-left l = l.left
