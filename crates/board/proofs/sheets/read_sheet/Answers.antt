use Rattle.board.proofs.SheetLaws.{read_is}
use Rattle.board.proofs.sheets.read_sheet.Goals as goal

pub returns : goal.returns
returns c =
    let at_read = c.before.before in let at-chip-of = at_read.before in let entry = at-chip-of.before.before in
    read_is entry.args.form entry.args.b entry.args.which entry.args.bytes.now _ at_read.read-done.result _ at-chip-of.chip_of.ensures at_read.read-done.ensures.0 at_read.read-done.ensures.1 c.with_chip.ensures
