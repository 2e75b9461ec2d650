-- Sheets of a chip on the board are its own.
use Prim.Native.Nat.{ℕ}
use mathlib.Core.Path.{◌≡◌, ap, ◌∙◌}
use mathlib.Core.List.{List}
use lib.ListN.{length}
use Rattle.am9517.specs.Refusals.{refusal}
use Rattle.am9517.specs.declared.Controller.{Controller}
use Rattle.am9517_sheet.specs.declared.forms.Form.{Form}
use Rattle.am9517_sheet.specs.declared.SheetRead.{SheetRead}
use Rattle.am9517_sheet.specs.Sheet.{SheetAnswer, sheet_refusal_number, stored, sheet_write_grounds, sheet_write_of, sheet_read_grounds, sheet_read_of}
use Rattle.board.specs.declared.Board.{Board}
use Rattle.board.specs.declared.Chip.{Chip}
use Rattle.board.specs.Chips.{chip, with_chip}
use Rattle.board.specs.Sheets.{board_sheet_write_of, board_sheet_read_of}

pub written_is : (form : Form) (b : Board) (which : Chip) (out out' : List ℕ) (c : Controller) (a : SheetAnswer) → c ≡ chip b which
    → stored a out' ≡ sheet_write_of form c out → sheet_refusal_number a ≡ refusal (sheet_write_grounds form c (length out))
    → (stored a out' ≡ board_sheet_write_of form b which out) × (sheet_refusal_number a ≡ refusal (sheet_write_grounds form (chip b which) (length out)))
written_is form b which out out' c a ec e n =
    (e ∙ ap (λ (k : Controller). sheet_write_of form k out) ec, n ∙ ap (λ (k : Controller). refusal (sheet_write_grounds form k (length out))) ec)

pub read_is : (form : Form) (b : Board) (which : Chip) (bytes : List ℕ) (c : Controller) (x : SheetRead) (next : Board) → c ≡ chip b which
    → x ≡ sheet_read_of form c bytes → sheet_refusal_number x.answer ≡ refusal (sheet_read_grounds form bytes) → next ≡ with_chip b which x.controller
    → (record { board = next; answer = x.answer } ≡ board_sheet_read_of form b which bytes) × (sheet_refusal_number x.answer ≡ refusal (sheet_read_grounds form bytes))
read_is form b which bytes c x next ec e n en =
    let own : x ≡ sheet_read_of form (chip b which) bytes = e ∙ ap (λ (k : Controller). sheet_read_of form k bytes) ec in
    (ap (λ (k : Board). record { board = k; answer = x.answer }) en ∙ ap (λ (k : SheetRead). record { board = with_chip b which k.controller; answer = k.answer }) own, n)
