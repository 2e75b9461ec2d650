use Prim.Native.Nat.{◌-◌}
use lib.ListN.{length}
use Rattle.board.specs.Round.{board_beginning, board_round_of}
use Rattle.board.proofs.RoundLaws.{Rolling, begins_with}
use Rattle.board.proofs.rounds.round.Given as goal

abbrev pub invariant-loop-begun : goal.invariant-loop-begun
invariant-loop-begun l = Rolling l.k l.device (length l.initial.room) (board_round_of l.k l.device (board_beginning (begins_with l.initial.rotas l.initial.last) l.initial.memory l.initial.room)) l.services l.n l.rotas l.nexts l.last (l.k - l._begun) l.memory l.room
