-- What a command on the board says.
use Rattle.board.specs.declared.Board.{Board}
use Rattle.board.specs.declared.BoardOutcome.{BoardOutcome}
use Rattle.console_chip.specs.declared.answers.ValueKind.{ValueKind}
use Rattle.console_chip.specs.Answers.{answer_text, Reply, reply}

-- "as for the controller; `channel` 0 to 7"
abbrev pub board_outcome_reply : ValueKind → BoardOutcome → Reply Board
board_outcome_reply kind o = reply o.board (answer_text kind o.answer)
