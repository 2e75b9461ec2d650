-- What is shown of the board beside document 02's A9, as one statement. Its one theorem is `board_further`.
use Rattle.board_demands.specs.Calls.{BoardDemand1OfCalls}
use Rattle.board_demands.specs.Rounds.{BoardRoundIsCalls, BoardRoundStops}
use Rattle.board_demands.specs.Throughout.{AloneAndArbiter, AloneThroughout}

pub record BoardFurther : Type 2 where
  -- Demand 1 of each call for C, where a number that names no chip is refused by 2.
  pub refusals_in_c : BoardDemand1OfCalls
  -- A round is its calls, grant and run in turn; of the reasons of a run it says, where counts fit 16 bits, "cascade" and "short" alone.
  pub round_is_calls : BoardRoundIsCalls
  pub round_stops : BoardRoundStops
  -- A controller alone on the board: the arbiter and resets, and any list of its operations.
  pub alone_and_arbiter : AloneAndArbiter
  pub alone_throughout : AloneThroughout
