use Prim.Native.Nat.{◌-◌}
use lib.ListN.{length}
use Rattle.logs.proofs.JudgeLaws.{Passing}
use Rattle.logs.proofs.judging.pass.Given as goal

abbrev pub invariant-loop-s : goal.invariant-loop-s
invariant-loop-s l = Passing l.c l.initial.memory l.log l.g l.memory l.at

abbrev pub decreases-loop-s : goal.decreases-loop-s
decreases-loop-s l = length l.log - l.at
