use Rattle.am9517.specs.Serving.{picked}
use Rattle.am9517.proofs.Controller.picked.Goals as goal

pub returns : goal.returns
unfolding picked
returns c =
    let at-entitled-set = c.before in let at-when = at-entitled-set.before in let at-rotating = at-when.before in
    simp (c.picked_from.ensures, at-entitled-set.entitled_set.ensures, at-when.when-last.ensures, at-rotating.rotating.ensures)
