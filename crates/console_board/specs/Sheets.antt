-- "one sheet of form 1 or 2 for each chip, as `sheet` and `load`"
use Rattle.std.specs.Prelude.{ℕ, List, eqb, Option, Some, None}
use Rattle.words.specs.Choice.{when}
use Rattle.am9517_sheet.specs.declared.forms.Form.{Form}
use Rattle.am9517_sheet.specs.declared.forms.Form.TheVariants.{One, Two}
use Rattle.board.specs.declared.Board.{Board}
use Rattle.board.specs.declared.BoardSheetRead.{BoardSheetRead}
use Rattle.board.specs.declared.Chip.{Chip}
use Rattle.board.specs.Sheets.{board_sheet_write_of, board_sheet_read_of}
use Rattle.console_text.specs.Numbers.{number_of}
use Rattle.console_text.specs.Hex.{is_bytes, bytes_in}
use Rattle.console_chip.specs.Answers.{Reply, reply, error_reply, ok_text, numbered}
use Rattle.console_chip.specs.Sheets.{sheet_said, stored_reply}
use Rattle.console_board.specs.Control.{chip_in}

-- FORM is 1 or 2
unfoldable pub form_numbered : ℕ → Option Form
form_numbered n = when (eqb n 0) None (Some (when (eqb n 1) One Two))

-- the form that a word names
abbrev pub form_in : List ℕ → Option Form
form_in word = numbered (number_of 2 word) form_numbered None

-- by the chip and the form that two words name, if they do
abbrev pub naming : {A : Type 0} → List ℕ → List ℕ → (Chip → Form → A) → A → A
naming which form f other = numbered (chip_in which) (λ (c : Chip). numbered (form_in form) (f c) other) other

abbrev pub board_sheet_reply : Board → List ℕ → List ℕ → List ℕ → Reply Board
board_sheet_reply b which form size = naming which form (λ (c : Chip) (f : Form). stored_reply (board_sheet_write_of f b c) b size) (error_reply b)

abbrev pub board_read : BoardSheetRead → Reply Board
board_read r = reply r.board (sheet_said r.answer ok_text)

-- the sheet at the end of these bytes is read into the chip that the words name
abbrev pub board_loaded : Board → List ℕ → List ℕ → List ℕ → Reply Board
board_loaded b which form bytes = naming which form (λ (c : Chip) (f : Form). board_read (board_sheet_read_of f b c bytes)) (error_reply b)

abbrev pub board_load_reply : Board → List ℕ → List ℕ → List ℕ → Reply Board
board_load_reply b which form digits = when (is_bytes digits) (board_loaded b which form (bytes_in digits)) (error_reply b)
