-- "sheets stay one per chip", of either form.
use Rattle.std.specs.Prelude.{List, ℕ}
use Rattle.am9517_sheet.specs.declared.forms.Form.{Form}
use Rattle.am9517_sheet.specs.Sheet.{Stored, sheet_write_of, sheet_read_of}
use Rattle.board.specs.declared.Board.{Board}
use Rattle.board.specs.declared.Chip.{Chip}
use Rattle.board.specs.declared.BoardSheetRead.{BoardSheetRead}
use Rattle.board.specs.Chips.{chip, with_chip}

-- writing asks that chip alone; of the other and of the arbiter nothing is asked or stored
abbrev pub board_sheet_write_of : Form → Board → Chip → List ℕ → Stored
board_sheet_write_of form b which out = sheet_write_of form (chip b which) out

-- reading looks at the bytes alone, not at the pair: one that then has both in service is refused by 1 in the next call
abbrev pub board_sheet_read_of : Form → Board → Chip → List ℕ → BoardSheetRead
board_sheet_read_of form b which bytes =
    let r = sheet_read_of form (chip b which) bytes in
    record { board = with_chip b which r.controller; answer = r.answer }
