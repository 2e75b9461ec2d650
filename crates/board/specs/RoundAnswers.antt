-- What a call of round on the board gives, for all inputs.
use Rattle.std.specs.Prelude.{ℕ, Err, List, eqb}
use Rattle.words.specs.Choice.{when}
use Rattle.am9517.specs.Refusals.{numbered, refusal}
use Rattle.board.specs.declared.Board.{Board}
use Rattle.board.specs.declared.BoardRounded.{BoardRounded}
use Rattle.board.specs.Refusals.{board_round_grounds}
use Rattle.board.specs.Round.{board_beginning, BoardClose, board_close, board_round_of}

pub record BoardRoundGiven : Type 0 where
  pub rounded : BoardRounded
  pub memory : List ℕ
  pub room : List ℕ

abbrev pub board_round_given : BoardRounded → List ℕ → List ℕ → BoardRoundGiven
board_round_given r m room = record { rounded = r; memory = m; room = room }

-- services begun per channel, eight numbers, and the totals
unfoldable pub board_closed : BoardClose → BoardRoundGiven
board_closed k =
    let w = k.course in
    board_round_given
    (record { board = w.board; answer = k.answer; services = w.services; totals = w.totals })
    w.memory w.room

-- a refusal gives its number only; board, memory and room stay
unfoldable pub board_rounded_of : Board → List ℕ → List ℕ → List ℕ → ℕ → BoardRoundGiven
board_rounded_of b m d r k =
    let n = refusal (board_round_grounds b m k) in
    when (eqb n 0) (board_closed (board_round_of k d (board_beginning b m r))) (board_closed (board_close (board_beginning b m r) (Err (numbered n))))
