-- A run on the board: "Memory is shared; one service at a time"
use Rattle.std.specs.Prelude.{ℕ, Err, List, eqb}
use Rattle.words.specs.Choice.{when}
use Rattle.am9517.specs.Refusals.{numbered, refusal, busy}
use Rattle.am9517_service.specs.declared.Ran.{Ran}
use Rattle.am9517_service.specs.Counts.{none}
use Rattle.am9517_service.specs.Answers.{Given, ran_of}
use Rattle.board.specs.declared.Board.{Board}
use Rattle.board.specs.declared.Chip.{Chip}
use Rattle.board.specs.declared.Chip.TheVariants.{First, Second}
use Rattle.board.specs.declared.BoardRan.{BoardRan}
use Rattle.board.specs.Chips.{chip, with_chip}
use Rattle.board.specs.Refusals.{board_run_grounds}

-- "one service at a time": the controller whose service is open
unfoldable pub server : Board → Chip
server b = when (busy b.first) First Second

-- what a call gives: its answer, and the memory and the room as it leaves them
pub record BoardGiven : Type 0 where
  pub ran : BoardRan
  pub memory : List ℕ
  pub room : List ℕ

abbrev pub board_given : BoardRan → List ℕ → List ℕ → BoardGiven
board_given r m room = record { ran = r; memory = m; room = room }

-- the board with what a run of this chip made of it
abbrev pub ran_on : Board → Chip → Ran → BoardRan
ran_on b which r = record { board = with_chip b which r.controller; answer = r.answer; counts = r.counts }

abbrev pub refused_on : Board → ℕ → BoardRan
refused_on b n = record { board = b; answer = Err (numbered n); counts = none }

abbrev pub served_by : Board → Chip → Given → BoardGiven
served_by b which g = board_given (ran_on b which g.ran) g.memory g.room

unfoldable pub board_ran_of : Board → List ℕ → List ℕ → List ℕ → ℕ → ℕ → BoardGiven
board_ran_of b m d r limit eop =
    let n = refusal (board_run_grounds b m) in
    when (eqb n 0) (served_by b (server b) (ran_of (chip b (server b)) m d r limit eop)) (board_given (refused_on b n) m r)
