-- All of it.
use Rattle.board_demands.specs.Board.{BoardDemands}
use Rattle.board_demands.proofs.Refusals.{board_demand_1}
use Rattle.board_demands.proofs.Outcomes.{one_outcome_of_board, one_outcome_of_board_calls}
use Rattle.board_demands.proofs.Ranges.{board_ranges_kept}
use Rattle.board_demands.proofs.Fairness.{board_demand_3, round_grants_are_grants}
use Rattle.board_demands.proofs.Reports.{board_reports}
use Rattle.board_demands.proofs.Alone.{alone}
use Rattle.board_demands.proofs.Cases.{board_tight}

pub board_demands_lem : BoardDemands
board_demands_lem =
    record {
      refusals = board_demand_1;
      one_outcome = one_outcome_of_board;
      one_outcome_in_c = one_outcome_of_board_calls;
      ranges = board_ranges_kept;
      fairness = board_demand_3;
      round_grants = round_grants_are_grants;
      reports = board_reports;
      tight = board_tight;
      alone = alone;
    }
