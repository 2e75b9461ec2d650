use Rattle.words.specs.Spans.{place_of}
use Rattle.words.specs.Choice.{when}
use native.Mathlib.Omega.{arith}
use Rattle.words.proofs.spans.place.Goals as goal

pub overflow_sub-result : goal.overflow_sub-result
overflow_sub-result c = omega (arith, c.before.requires.0 c.if-down.true)

pub overflow_add-result : goal.overflow_add-result
overflow_add-result c = omega (arith, c.before.requires.1 c.if-down.false)

pub returns-then-down : goal.returns-then-down
unfolding place_of when
returns-then-down c = simp c.if-down.true

pub returns-else-down : goal.returns-else-down
unfolding place_of when
returns-else-down c = simp c.if-down.false
