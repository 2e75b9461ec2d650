use Rattle.board.proofs.ChipLaws.{turned}
use Rattle.board.proofs.Board.turned_to.Goals as goal

pub returns : goal.returns
returns c =
    let at-with-chip = c.before in let entry = at-with-chip.before in
    turned entry.args.self entry.args.which entry.args.c _ _ at-with-chip.with_chip-next.ensures c.from.ensures
