use Rattle.am9517.specs.Serving.{status}
use Rattle.c_am9517.proofs.calls.status.Goals as goal

pub returns : goal.returns
unfolding status
returns c =
    let at-wide2 = c.before in let at_wide = at-wide2.before in let at-requesting-set = at_wide.before in
    rw (c.shown.ensures, at-wide2.wide-2.ensures.0, at_wide.wide.ensures.0, at-requesting-set.requesting_set-requesting.ensures)
