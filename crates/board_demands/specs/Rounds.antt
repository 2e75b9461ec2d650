-- A round on the board is its calls, in all that it leaves and says, as a controller's own (crates/demands, Rounds).
use Rattle.std.specs.Prelude.{ℕ, zero, suc, ◌≡◌, not, List, [], ◌∷◌, ◌++◌, eqb, length, get_or, drop, Ok}
use Rattle.words.specs.Choice.{when}
use Rattle.words.specs.Grounds.{◌if◌, first}
use Rattle.am9517.specs.Refusals.{refusal}
use Rattle.am9517_service.specs.declared.Reason.TheVariants.{Ended, Dropped, Limit}
use Rattle.am9517_service.specs.Answers.{Given, given}
use Rattle.board.specs.declared.Board.{Board}
use Rattle.board.specs.Chips.{chip}
use Rattle.board.specs.Bus.{quiet}
use Rattle.board.specs.Refusals.{board_round_grounds}
use Rattle.board.specs.Runs.{server, BoardGiven, board_ran_of}
use Rattle.board.specs.RoundAnswers.{board_rounded_of}
use Rattle.demands.specs.Lists.{count}
use Rattle.demands.specs.Rounds.{has_ended, memory_behind, room_behind, sums, last_answer, closing, Words}
use Rattle.board_demands.specs.Operations.{BoardOp, Write, Read, Pins, Reset, Waits, Grant, Run, Round, SheetWriting, SheetReading, next, after_all, said}
use Rattle.board_demands.specs.Grants.{made, grants, channels}
use Rattle.am9517_service.specs.declared.RoundEnd.TheVariants.{Stopped}

-- "grant then run, limit 65,536, no EOP. The device bytes not yet used are handed on to the next run, and so is the room behind the last
-- byte written." The calls of a round on the board that may begin so many more services.
unfoldable pub board_calls_from : ℕ → Board → List ℕ → List ℕ → List ℕ → List BoardOp
board_calls_from zero b m d r = []
board_calls_from (suc left) b m d r =
    let g = board_ran_of (next b Grant) m d r 65536 0 in
    first ([] if quiet b ∷ [])
    (Grant
    ∷ Run m d r 65536 0
    ∷ first ([] if not (has_ended g.ran.answer) ∷ [])
    (board_calls_from left g.ran.board g.memory (drop g.ran.counts.used d) (drop g.ran.counts.written g.room)))

-- the calls of a round; a refused one makes none
abbrev pub board_calls : Board → List ℕ → List ℕ → List ℕ → ℕ → List BoardOp
board_calls b m d r k = when (eqb (refusal (board_round_grounds b m k)) 0) (board_calls_from k b m d r) []

-- what a run on board b gives, as the chip that served has it
abbrev pub served : Board → BoardGiven → Given
served b g = given (record { controller = chip g.ran.board (server b); answer = g.ran.answer; counts = g.ran.counts }) g.memory g.room

-- what a call of run gives; other calls give none
abbrev pub gave : Board → BoardOp → List Given
gave b (Write r x) = []
gave b (Read r) = []
gave b (Pins p) = []
gave b Reset = []
gave b (Waits which n) = []
gave b Grant = []
gave b (Run m d r limit eop) = served b (board_ran_of b m d r limit eop) ∷ []
gave b (Round m d r k) = []
gave b (SheetWriting form which out) = []
gave b (SheetReading form which bytes) = []

-- what the runs among these calls give, in their order
abbrev pub runs : Board → List BoardOp → List Given
runs b [] = []
runs b (op ∷ ops) = gave b op ++ runs (next b op) ops

-- none of these calls is refused
abbrev pub BoardAccepted : Board → List BoardOp → Type 0
BoardAccepted b [] = Unit
BoardAccepted b (op ∷ ops) = (said b op ≡ 0) × BoardAccepted (next b op) ops

-- The round is these calls:
pub record IsBoardCalls (b : Board) (m d r : List ℕ) (k : ℕ) (ops : List BoardOp) : Type 0 where
  -- none of them is refused;
  pub accepted : BoardAccepted b ops
  -- it leaves the board, the memory and the room that they leave;
  pub leaves : next b (Round m d r k) ≡ after_all b ops
  pub memory : (board_rounded_of b m d r k).memory ≡ memory_behind m (runs b ops)
  pub room : (board_rounded_of b m d r k).room ≡ room_behind r (runs b ops)
  -- it makes the grants that they make, and reports them per channel of the eight, and the sums of what their runs count;
  pub makes : made b (Round m d r k) ≡ grants b ops
  pub reports : (n : ℕ) → get_or (board_rounded_of b m d r k).rounded.services n 0 ≡ count n (channels (grants b ops))
  pub totals : (board_rounded_of b m d r k).rounded.totals ≡ sums (runs b ops)
  -- and, unless refused, it answers by their last run, or by whether k services were begun.
  pub answers : said b (Round m d r k) ≡ 0
      → (board_rounded_of b m d r k).rounded.answer ≡ closing (last_answer (Ok Ended) (runs b ops)) (eqb (length (grants b ops)) k)

-- A round on the board is its calls.
abbrev pub BoardRoundIsCalls : Type 0
BoardRoundIsCalls = (b : Board) (m d r : List ℕ) (k : ℕ) → IsBoardCalls b m d r k (board_calls b m d r k)

-- These three reasons never come out of a round on the board; "limit" where counts fit 16 bits, the type of the fields.
pub record BoardRoundNeverStops (b : Board) (m d r : List ℕ) (k : ℕ) : Type 0 where
  pub dropped : ¬ ((board_rounded_of b m d r k).rounded.answer ≡ Ok (Stopped Dropped))
  pub limit : Words b.first → Words b.second → ¬ ((board_rounded_of b m d r k).rounded.answer ≡ Ok (Stopped Limit))
  pub ended : ¬ ((board_rounded_of b m d r k).rounded.answer ≡ Ok (Stopped Ended))

abbrev pub BoardRoundStops : Type 0
BoardRoundStops = (b : Board) (m d r : List ℕ) (k : ℕ) → BoardRoundNeverStops b m d r k
