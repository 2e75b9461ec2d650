use Rattle.am9517_sheet.specs.Body.{body_of}
use Rattle.am9517_sheet.proofs.body.body_of.Goals as goal

pub returns : goal.returns
unfolding body_of
returns c = rw c.before.store_body.ensures
