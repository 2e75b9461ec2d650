use Rattle.words.specs.Bytes.{with_byte}
use Rattle.words.specs.Choice.{when}
use Rattle.words.proofs.bytes.with_byte.Goals as goal

pub returns-then-high : goal.returns-then-high
unfolding when with_byte
returns-then-high c = simp (c.before.before.if-high.true, c.word_of.ensures, c.before.low_byte.ensures)

pub returns-else-high : goal.returns-else-high
unfolding when with_byte
returns-else-high c = simp (c.before.before.if-high.false, c.word_of-else-high.ensures, c.before.high_byte.ensures)
