use Rattle.words.specs.Bytes.{byte_of}
use Rattle.words.specs.Choice.{when}
use Rattle.words.proofs.bytes.byte_of.Goals as goal

pub returns-then-high : goal.returns-then-high
unfolding when byte_of
returns-then-high c = simp c.before.if-high.true c.high_byte.ensures

pub returns-else-high : goal.returns-else-high
unfolding when byte_of
returns-else-high c = simp c.before.if-high.false c.low_byte.ensures
