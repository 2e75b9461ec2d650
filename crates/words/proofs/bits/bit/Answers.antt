use mathlib.Core.Path.{sym}
use Rattle.words.proofs.BitLaws.{bit_above}
use Rattle.words.proofs.bits.bit.Goals as goal

pub returns-else-n-lt8 : goal.returns-else-n-lt8
returns-else-n-lt8 c = sym (bit_above _ _ c.before.ranges.b.fits c.if-n-lt8.false)
