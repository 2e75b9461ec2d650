use Rattle.words.proofs.BitLaws.{weight_fits}
use Rattle.words.proofs.bits.weight.Goals as goal

pub returns : goal.returns
returns c = weight_fits _ c.requires
