-- What the owner asked for, as one statement. Its one theorem is `owner`.
use Rattle.demands.specs.Refusals.{Demand1}
use Rattle.demands.specs.Calls.{Demand1OfCalls, ChipsStayGood}
use Rattle.demands.specs.Outcomes.{OneOutcome, OneOutcomeOfCalls, OneOutcomeWhereAsked}
use Rattle.demands.specs.Ranges.{RangesKept}
use Rattle.demands.specs.Steps.{StepsOverTheWidth}
use Rattle.demands.specs.Sheets.{RoundTrips}
use Rattle.demands.specs.Rounds.{RoundIsCalls, RoundStops, SpelledLeads}
use Rattle.demands.specs.Fairness.{Demand3, Demand3Reported, LowestKept}
use Rattle.demands.specs.Services.{StopsAsSaid}
use Rattle.requests.specs.Copies.{CopyLoop}
use Rattle.requests.specs.Editions.{EditionsDiffer}
use Rattle.requests.specs.Waits.{SlowCards}
use Rattle.requests.specs.Most.{MostCounted}
use Rattle.requests.specs.Forms.{SheetForms}
use Rattle.requests.specs.Logs.{LogsJudged}
use Rattle.board_demands.specs.Board.{BoardDemands}
use Rattle.owner.specs.Cases.{WorkedCases, Tight}

pub record Owner : Type 2 where
  -- Demand 1: a refusal says its number, exactly when its condition is the first that holds, and changes nothing; of the C calls, too.
  pub refusals : Demand1
  pub refusals_in_c : Demand1OfCalls
  -- Demand 2: each public function of words, am9517, am9517_service, am9517_sheet, logs, c_told and c_am9517 admits one outcome only; those
  -- public by need, where they get what they ask for.
  pub one_outcome : OneOutcome
  pub one_outcome_in_c : OneOutcomeOfCalls
  pub one_outcome_where_asked : OneOutcomeWhereAsked
  -- The step is shown once over the width, and the worked cases hold.
  pub steps : StepsOverTheWidth
  pub cases : WorkedCases
  -- Sheets of either form are read as they were written, and written as they were read.
  pub sheet_trips : RoundTrips
  -- Ranges are kept, and so is a chip in its ranges that a C program owns.
  pub ranges : RangesKept
  pub good_chips : ChipsStayGood
  -- A round is its grants and runs, alone and among other operations, and never says "dropped", "limit" or "ended".
  pub rounds : RoundIsCalls
  pub rounds_among_others : SpelledLeads
  pub round_stops : RoundStops
  -- A run leaves its service open or over, as its reason says, and memory and room in their size.
  pub services : StopsAsSaid
  -- Demand 3: under rotation a channel that stays entitled is served fairly; a round reports it so; of a trace only a grant moves the
  -- lowest channel.
  pub fairness : Demand3
  pub fair_reports : Demand3Reported
  pub lowest : LowestKept
  -- Document 02, A1: in every run of memory-to-memory channel 0 steps with each transfer, by nothing else, and ends nothing.
  pub copies : CopyLoop
  -- Document 02, A2: the two editions differ in a write of register E, in the TC bit where external EOP is met, in the writing of a sheet, and in
  -- nothing else; nothing changes the edition but the reading of a sheet.
  pub editions : EditionsDiffer
  -- Document 02, A3: wait states are set by their own call and kept by all else but the reading of a sheet; each transfer costs that many states
  -- more, of memory-to-memory twice that, and nothing else changes; the most that a run and a round count is this, it fits, and it is reached.
  pub slow_cards : SlowCards
  pub most : MostCounted
  -- Document 02, A5: sheets convert between the forms with the state that they tell, there and back to the same bytes; a reader refuses a sheet of
  -- the other form, and one with a changed byte.
  pub sheet_forms : SheetForms
  -- Document 02, A8: an honest log is accepted, and what is accepted is the log of the run that it tells of; a wrong one is handed back from the first
  -- record on that is not what the rules do next, with its address error; in parts as in one.
  pub logs : LogsJudged
  -- Document 02, A9: the demands read for the pair of the board; a channel that contends at each of its grants sees at most seven others first; a
  -- controller alone on it does what it does without it.
  pub board : BoardDemands
  -- Demand 3's numbers can't be better.
  pub tight : Tight
