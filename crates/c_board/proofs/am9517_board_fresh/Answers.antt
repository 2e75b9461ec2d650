use Rattle.c_board.proofs.am9517_board_fresh.Goals as goal

pub returns : goal.returns
returns c =
    let at-fresh = c.before.before in let at-edition-byte2 = at-fresh.before in let at-edition-byte = at-edition-byte2.before in
    simp (at-edition-byte2.edition_byte-two.ensures, at-edition-byte.edition_byte-one.ensures, at-fresh.fresh-board.ensures)
