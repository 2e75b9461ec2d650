-- What each command on the board's state, registers, lines and grants answers.
use Rattle.std.specs.Prelude.{ℕ, ◌+◌, ◌*◌, List, [], ◌∷◌, ◌++◌, eqb, get_or, take, drop, Option}
use Rattle.std.specs.Option.{option_map}
use Rattle.words.specs.Choice.{when}
use Rattle.am9517_sheet.specs.declared.forms.Form.TheVariants.{Two}
use Rattle.am9517_sheet.specs.Form.{body_size}
use Rattle.am9517_sheet.specs.Body.{body_of, state_of}
use Rattle.board.specs.declared.Board.{Board}
use Rattle.board.specs.declared.Chip.{Chip}
use Rattle.board.specs.declared.Chip.TheVariants.{First, Second}
use Rattle.board.specs.Chips.{fresh_board}
use Rattle.board.specs.Answers.{board_write_of, board_read_of, board_pins_of, board_waits_of}
use Rattle.console_text.specs.Text.{codes}
use Rattle.console_text.specs.Numbers.{number_of}
use Rattle.console_text.specs.Hex.{hex_text, bytes_in}
use Rattle.console_chip.specs.declared.answers.ValueKind.TheVariants.{Byte}
use Rattle.console_chip.specs.Answers.{Reply, reply, error_reply, ok_text, numbered, word_most}
use Rattle.console_chip.specs.Control.{says_bytes}
use Rattle.console_board.specs.Answers.{board_outcome_reply}

-- "202 digits: the controller granted last (1 after reset), then edition, waits and the 48 body bytes of each": each as in a body of form 2
abbrev pub board_state_text : Board → List ℕ
board_state_text b =
    codes "b.state " ++ hex_text (b.granted_last ∷ []) ++ hex_text (body_of Two b.first) ++ hex_text (body_of Two b.second)

abbrev pub board_size : ℕ
board_size = 1 + 2 * body_size Two

abbrev pub board_in : List ℕ → Board
board_in bytes =
    record {
      first = state_of Two (take 50 (drop 1 bytes));
      second = state_of Two (take 50 (drop 51 bytes));
      granted_last = get_or bytes 0 0;
    }

-- "the board is now these 101 bytes, taken with no range check"
abbrev pub board_state_reply : Board → List ℕ → Reply Board
board_state_reply b digits = when (says_bytes digits board_size) (reply (board_in (bytes_in digits)) ok_text) (error_reply b)

-- "a fresh board, of these editions (0 0 when missing); an edition over 1 is `error`"
abbrev pub board_fresh_reply : Board → List ℕ → List ℕ → Reply Board
board_fresh_reply b first second =
    numbered (number_of 1 first)
    (λ (e : ℕ). numbered (number_of 1 second) (λ (f : ℕ). reply (fresh_board e f) ok_text) (error_reply b))
    (error_reply b)

-- "as for the controller": the same words, the same numbers
abbrev pub board_write_reply : Board → List ℕ → List ℕ → Reply Board
board_write_reply b reg byte =
    numbered (number_of word_most reg)
    (λ (r : ℕ). numbered (number_of 255 byte) (λ (x : ℕ). board_outcome_reply Byte (board_write_of b r x)) (error_reply b))
    (error_reply b)

abbrev pub board_read_reply : Board → List ℕ → Reply Board
board_read_reply b reg = numbered (number_of word_most reg) (λ (r : ℕ). board_outcome_reply Byte (board_read_of b r)) (error_reply b)

abbrev pub board_pins_reply : Board → List ℕ → Reply Board
board_pins_reply b levels = numbered (number_of word_most levels) (λ (p : ℕ). board_outcome_reply Byte (board_pins_of b p)) (error_reply b)

-- 0 is the first, 1 the second
unfoldable pub chip_numbered : ℕ → Chip
chip_numbered n = when (eqb n 0) First Second

-- the chip that a word names
abbrev pub chip_in : List ℕ → Option Chip
chip_in word = option_map chip_numbered (number_of 1 word)

-- "CHIP over 1 or N over 255 is `error`"
abbrev pub board_waits_reply : Board → List ℕ → List ℕ → Reply Board
board_waits_reply b which states =
    numbered (chip_in which)
    (λ (c : Chip). numbered (number_of 255 states) (λ (n : ℕ). board_outcome_reply Byte (board_waits_of b c n)) (error_reply b))
    (error_reply b)
