use Rattle.words.specs.Choice.{when}
use Rattle.words.specs.Spans.{wrapped_to}
use Rattle.words.proofs.spans.wrapped_to.Goals as goal

pub returns-then-down : goal.returns-then-down
unfolding wrapped_to when
returns-then-down c = simp c.if-down.true

pub returns-else-down : goal.returns-else-down
unfolding wrapped_to when
returns-else-down c = simp c.if-down.false
