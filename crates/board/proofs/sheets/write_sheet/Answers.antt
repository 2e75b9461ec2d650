use Rattle.board.proofs.SheetLaws.{written_is}
use Rattle.board.proofs.sheets.write_sheet.Goals as goal

pub returns : goal.returns
returns c =
    let at-write = c.before.before in let at-chip-of = at-write.before.before in let entry = at-chip-of.before.before in
    written_is entry.args.form entry.args.b entry.args.which entry.args.out.now _ _ at-write.write.result at-chip-of.chip_of.ensures at-write.write.ensures.0 at-write.write.ensures.1
