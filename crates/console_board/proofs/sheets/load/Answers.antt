use Rattle.console_board.specs.Sheets.{board_read, board_loaded}
use Rattle.console_chip.specs.Answers.{numbered, error_reply, saying}
use Rattle.console_chip.proofs.SheetLaws.{by_bytes}
use Rattle.std.proofs.Common.{◌≡◌, ap, ◌∙◌, sym, arith}
use Rattle.console_board.proofs.sheets.load.Goals as goal
use Rattle.console_board.proofs.sheets.load.Goals.{in_default-2-via-in-Some+in-None-1, in_default-2-via-in-None-1}

pub returns-in_default : goal.returns-in_default
unfolding numbered
returns-in_default c =
    let s = c.args in
    let e = by_bytes _ _ _ (board_loaded s.b s.which.now s.form.now) (error_reply s.b) c.bytes_of.ensures in
    c.fault.ensures ∙ ap (saying _) (simp c.in_default.is at e)

pub returns-in_default-2 : goal.returns-in_default-2
unfolding numbered
returns-in_default-2 c =
    let s = c.args in
    let e = by_bytes _ _ _ (board_loaded s.b s.which.now s.form.now) (error_reply s.b) c.bytes_of.ensures in
    let none : board_loaded s.b s.which.now s.form.now c.in-Some.bytes.now ≡ error_reply s.b = elim c.in_default-2.branch [ in_default-2-via-in-Some+in-None-1 w ↦ grind arith | in_default-2-via-in-None-1 w ↦ grind arith ] in
    c.fault-in_default-2.ensures ∙ ap (saying _) (sym none ∙ simp c.in-Some.is at e)

pub returns : goal.returns
unfolding numbered
returns c =
    let s = c.args in
    let e = by_bytes _ _ _ (board_loaded s.b s.which.now s.form.now) (error_reply s.b) c.bytes_of.ensures in
    let told : board_read c.read_sheet-told.result ≡ board_loaded s.b s.which.now s.form.now c.in-Some.bytes.now = simp (sym c.chip_in.ensures ∙ c.in-Some-Some.is-0, sym c.form_in.ensures ∙ c.in-Some-Some.is-1) (ap board_read c.read_sheet-told.ensures.0) in
    c.loaded.ensures ∙ ap (saying _) (told ∙ simp c.in-Some.is at e)
