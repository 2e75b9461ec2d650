use Rattle.words.specs.Choice.{when}
use Rattle.words.specs.Spans.{reach_of}
use Rattle.words.proofs.spans.reach.Goals as goal

pub returns-then-down : goal.returns-then-down
unfolding reach_of when
returns-then-down c = simp c.if-down.true

pub returns-else-down : goal.returns-else-down
unfolding reach_of when
returns-else-down c = simp c.if-down.false
