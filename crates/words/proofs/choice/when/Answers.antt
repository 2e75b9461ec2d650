use Rattle.words.specs.Choice.{when}
use Rattle.words.proofs.choice.when.Goals as goal

pub returns-then-hit : goal.returns-then-hit
unfolding when
returns-then-hit g c = simp c.if-hit.true

pub returns-else-hit : goal.returns-else-hit
unfolding when
returns-else-hit g c = simp c.if-hit.false
