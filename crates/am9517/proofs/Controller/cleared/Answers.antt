use Rattle.am9517.proofs.Controller.cleared.Goals as goal

pub returns : goal.returns
returns c = simp c.ended-next.ensures
