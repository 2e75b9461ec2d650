use mathlib.Core.Path.{refl}
use borrow.Author.Tests.{lt-ltb, le-ltb}
use Rattle.words.specs.Choice.{when}
use Rattle.console_commands.specs.Doings.{further}
use Rattle.console_commands.proofs.services.further.Goals as goal

pub returns-then-last-from : goal.returns-then-last-from
unfolding when further
returns-then-last-from c = simp (lt-ltb _ _ c.if-last-from.true) refl

pub returns-then-last-from-2 : goal.returns-then-last-from-2
unfolding when further
returns-then-last-from-2 c = simp (le-ltb _ _ c.before.if-last-from.false, lt-ltb _ _ c.if-last-from-2.true) refl

pub returns : goal.returns
unfolding when further
returns c = simp (le-ltb _ _ c.before.if-last-from.false, le-ltb _ _ c.if-last-from-2.false) refl
