-- All that is shown beside A9.
use Rattle.board_demands.specs.Further.{BoardFurther}
use Rattle.board_demands.proofs.Calls.{board_demand_1_of_calls}
use Rattle.board_demands.proofs.Rounds.{board_round_is_calls, board_round_stops}
use Rattle.board_demands.proofs.Alone.{alone_and_arbiter, alone_throughout_lem}

pub board_further : BoardFurther
board_further =
    record {
      refusals_in_c = board_demand_1_of_calls;
      round_is_calls = board_round_is_calls;
      round_stops = board_round_stops;
      alone_and_arbiter = alone_and_arbiter;
      alone_throughout = alone_throughout_lem;
    }
