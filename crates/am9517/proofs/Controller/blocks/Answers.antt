use Rattle.am9517.proofs.ServingLaws.{blocks_are}
use Rattle.am9517.proofs.Controller.blocks.Goals as goal

pub returns : goal.returns
returns c = simp (c.when.ensures, c.before.block_set.ensures, c.before.before.disabled.ensures) (blocks_are _)
