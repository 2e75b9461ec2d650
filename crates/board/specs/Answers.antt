-- What each operation on the board hands back, for all inputs: the next board, and what is said of it.
use Rattle.std.specs.Prelude.{ℕ, ◌/◌, ◌%◌, Option, Some, None, eqb}
use Rattle.words.specs.Choice.{when}
use Rattle.am9517.specs.Fields.{put, Pins, Waits}
use Rattle.am9517.specs.State.{cleared}
use Rattle.am9517.specs.Registers.{after_write, value, after_read}
use Rattle.am9517.specs.Refusals.{unless, refusal}
use Rattle.board.specs.declared.Board.{Board}
use Rattle.board.specs.declared.Chip.{Chip}
use Rattle.board.specs.declared.Chip.TheVariants.{Second}
use Rattle.board.specs.declared.BoardOutcome.{BoardOutcome}
use Rattle.board.specs.Chips.{number_of, chip, with_chip, addressed, own}
use Rattle.board.specs.Bus.{winning_channel, granted_to}
use Rattle.board.specs.Refusals.{board_write_grounds, board_read_grounds, board_pins_grounds, board_reset_grounds, board_waits_grounds, board_grant_grounds}

-- refused by n: its number, and the board as it was; or, with n zero, the next board and what is told of it
unfoldable pub board_outcome : ℕ → Board → Board → Option ℕ → BoardOutcome
board_outcome n was next told =
    record { board = when (eqb n 0) next was; answer = unless n told }

-- a register access is that of the controller that bit 4 picks; the other and the arbiter stay, at a master clear, too
abbrev pub board_write_of : Board → ℕ → ℕ → BoardOutcome
board_write_of b r x =
    let which = addressed r in
    board_outcome (refusal (board_write_grounds b r x)) b (with_chip b which (after_write (chip b which) (own r) x)) None

abbrev pub board_read_of : Board → ℕ → BoardOutcome
board_read_of b r =
    let which = addressed r in
    board_outcome (refusal (board_read_grounds b r)) b (with_chip b which (after_read (chip b which) (own r))) (Some (value (chip b which) (own r)))

-- lines 0 to 3 are the first controller's, 4 to 7 the second's
abbrev pub pinned : Board → ℕ → Board
pinned b p = record { first = put b.first Pins (p % 16); second = put b.second Pins (p / 16); granted_last = b.granted_last }

abbrev pub board_pins_of : Board → ℕ → BoardOutcome
board_pins_of b p = board_outcome (refusal (board_pins_grounds b p)) b (pinned b p) None

-- both controllers and the arbiter: "the first controller being first after reset"
abbrev pub board_cleared : Board → Board
board_cleared b = record { first = cleared b.first; second = cleared b.second; granted_last = number_of Second }

abbrev pub board_reset_of : Board → BoardOutcome
board_reset_of b = board_outcome (refusal (board_reset_grounds b)) b (board_cleared b) None

abbrev pub board_waits_of : Board → Chip → ℕ → BoardOutcome
board_waits_of b which n = board_outcome (refusal (board_waits_grounds b which)) b (with_chip b which (put (chip b which) Waits n)) None

abbrev pub board_grant_of : Board → BoardOutcome
board_grant_of b = board_outcome (refusal (board_grant_grounds b)) b (granted_to b) (Some (winning_channel b))
