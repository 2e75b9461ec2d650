use Rattle.am9517_sheet.specs.Body.{exceeds}
use Rattle.am9517_sheet.proofs.body.exceeds.Goals as goal

pub returns-in-One : goal.returns-in-One
unfolding exceeds
returns-in-One c = rw c.in-One.is

pub returns-in-Two : goal.returns-in-Two
unfolding exceeds
returns-in-Two c = rw c.in-Two.is
