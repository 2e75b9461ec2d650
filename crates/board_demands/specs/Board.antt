-- Document 02, A9, as one statement. Its one theorem is `board_demands_lem`.
use Rattle.board_demands.specs.Refusals.{BoardDemand1}
use Rattle.board_demands.specs.Outcomes.{OneOutcomeOfBoard, OneOutcomeOfBoardCalls}
use Rattle.board_demands.specs.Ranges.{BoardRangesKept}
use Rattle.board_demands.specs.Fairness.{BoardDemand3, RoundGrantsAreGrants, BoardReports}
use Rattle.board_demands.specs.Alone.{Alone}
use Rattle.board_demands.specs.Cases.{BoardTight}

pub record BoardDemands : Type 2 where
  -- "Demands 1 and 2 read for the pair": a refusal says its number, exactly when its ground is the first that holds, and changes nothing;
  pub refusals : BoardDemand1
  -- each public function of board admits one outcome only, and so does each call for C, which is lent the board in one place.
  pub one_outcome : OneOutcomeOfBoard
  pub one_outcome_in_c : OneOutcomeOfBoardCalls
  -- Ranges of a pair are kept.
  pub ranges : BoardRangesKept
  -- Demand 3 on the board: a channel that contends at each grant sees at most seven others first, and gets an eighth of them, inside a round too; the
  -- grants of a round are grants as `grant` makes them, and it reports them;
  pub fairness : BoardDemand3
  pub round_grants : RoundGrantsAreGrants
  pub reports : BoardReports
  -- and no smaller number would do.
  pub tight : BoardTight
  -- A controller alone on the board does what it does without the board.
  pub alone : Alone
