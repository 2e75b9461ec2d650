use Rattle.am9517.proofs.Controller.fresh.Goals as goal

pub returns : goal.returns
returns c = simp c.edition_number.ensures
