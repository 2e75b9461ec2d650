use mathlib.Core.Path.{sym, ap, ◌∙◌}
use Rattle.words.specs.Choice.{when}
use Rattle.board.specs.declared.Chip.{Chip}
use Rattle.board.specs.Sheets.{board_sheet_write_of}
use Rattle.c_told.specs.Numbers.{save_of}
use Rattle.c_board.specs.Host.{save_call_of}
use Rattle.c_board.proofs.calls.save_in.Goals as goal

pub returns-then-names_none : goal.returns-then-names_none
unfolding save_call_of when
returns-then-names_none c = simp (sym c.before.names_none.ensures ∙ c.if-names_none.true)

pub returns : goal.returns
unfolding save_call_of when
returns c =
    let at-write-sheet = c.before.before.before in let at-chip-of = at-write-sheet.before.before in let at-if1 = at-chip-of.before in
    let at-names-none = at-if1.before in let entry = at-names-none.before.before in
    rw (sym at-names-none.names_none.ensures ∙ at-if1.if-names_none.false, c.sheet_number.ensures) (ap save_of (at-write-sheet.write_sheet.ensures.0 ∙ ap (λ (w : Chip). board_sheet_write_of entry.args.form entry.args.b w entry.args.sheet.now) at-chip-of.chip_of.ensures))
