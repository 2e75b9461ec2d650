use Rattle.c_board.proofs.calls.entitled.Goals as goal

pub returns : goal.returns
returns c =
    let at-wide2 = c.before in let at_wide = at-wide2.before in let at-entitled-set2 = at_wide.before in
    let at-entitled-set = at-entitled-set2.before in
    rw (c.shown.ensures, at-wide2.wide-2.ensures.0, at_wide.wide.ensures.0, at-entitled-set2.entitled_set-second.ensures, at-entitled-set.entitled_set-first.ensures)
