-- What each command on the board answers and leaves.
use Rattle.std.specs.Prelude.{ℕ, List}
use Rattle.board.specs.declared.Board.{Board}
use Rattle.board.specs.Chips.{fresh_board}
use Rattle.board.specs.Answers.{board_reset_of, board_grant_of}
use Rattle.console_text.specs.declared.forms.BoardCommand.{BoardCommand}
use Rattle.console_text.specs.declared.forms.BoardCommand.TheVariants.{State, SetState, Fresh, FreshOf, Write, Read, Pins, Reset, Waits, Grant, Sheet, Load}
use Rattle.console_text.specs.declared.forms.BoardServiceCommand.{BoardServiceCommand}
use Rattle.console_text.specs.declared.forms.BoardServiceCommand.TheVariants.{Run, Round}
use Rattle.console_chip.specs.declared.answers.ValueKind.TheVariants.{Byte, Channel}
use Rattle.console_chip.specs.Answers.{ok_text, Reply, reply}
use Rattle.console_arrays.specs.Services.{Service}
use Rattle.console_board.specs.Answers.{board_outcome_reply}
use Rattle.console_board.specs.Control.{board_state_text, board_state_reply, board_fresh_reply, board_write_reply, board_read_reply, board_pins_reply, board_waits_reply}
use Rattle.console_board.specs.Sheets.{board_sheet_reply, board_load_reply}
use Rattle.console_board.specs.Services.{board_run_reply, board_round_reply}

-- The next board, and the answer.
unfoldable pub board_reply : BoardCommand → Board → List ℕ → List ℕ → List ℕ → Reply Board
board_reply State b one two three = reply b (board_state_text b)
board_reply SetState b one two three = board_state_reply b one
board_reply Fresh b one two three = reply (fresh_board 0 0) ok_text
board_reply FreshOf b one two three = board_fresh_reply b one two
board_reply Write b one two three = board_write_reply b one two
board_reply Read b one two three = board_read_reply b one
board_reply Pins b one two three = board_pins_reply b one
board_reply Reset b one two three = board_outcome_reply Byte (board_reset_of b)
board_reply Waits b one two three = board_waits_reply b one two
board_reply Grant b one two three = board_outcome_reply Channel (board_grant_of b)
board_reply Sheet b one two three = board_sheet_reply b one two three
board_reply Load b one two three = board_load_reply b one two three

-- A service on what is lent to it: memory, device bytes and room.
unfoldable pub board_service_reply : BoardServiceCommand → Board → List ℕ → List ℕ → List ℕ → List ℕ → List ℕ → Service Board
board_service_reply Run b memory device room one two = board_run_reply b memory device room one two
board_service_reply Round b memory device room one two = board_round_reply b memory device room one
