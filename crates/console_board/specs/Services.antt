-- The services of the board: their answers, and what they leave.
use Rattle.std.specs.Prelude.{ℕ, List}
use Rattle.board.specs.declared.Board.{Board}
use Rattle.board.specs.Runs.{BoardGiven, board_ran_of}
use Rattle.board.specs.RoundAnswers.{BoardRoundGiven, board_rounded_of}
use Rattle.console_text.specs.Numbers.{number_of}
use Rattle.console_chip.specs.Answers.{numbered, word_most}
use Rattle.console_arrays.specs.Services.{Service, counted_service, unserved, run_text, round_text}

-- "as for the controller"
unfoldable pub board_run_service : BoardGiven → Service Board
board_run_service g =
    let r = g.ran in
    counted_service r.board r.counts g.memory g.room (run_text r.answer r.counts)

abbrev pub board_run_reply : Board → List ℕ → List ℕ → List ℕ → List ℕ → List ℕ → Service Board
board_run_reply b m device room limit eop =
    numbered (number_of word_most limit)
    (λ (l : ℕ). numbered (number_of word_most eop) (λ (e : ℕ). board_run_service (board_ran_of b m device room l e)) (unserved b m room))
    (unserved b m room)

-- "as `round`, with eight services"
unfoldable pub board_round_service : BoardRoundGiven → Service Board
board_round_service g =
    let r = g.rounded in
    counted_service r.board r.totals g.memory g.room (round_text r.answer r.services r.totals)

abbrev pub board_round_reply : Board → List ℕ → List ℕ → List ℕ → List ℕ → Service Board
board_round_reply b m device room count =
    numbered (number_of word_most count) (λ (k : ℕ). board_round_service (board_rounded_of b m device room k)) (unserved b m room)
