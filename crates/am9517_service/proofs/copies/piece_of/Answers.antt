use mathlib.Core.Path.{sym}
use Rattle.words.proofs.ChoiceLaws.{when_hit, when_miss}
use Rattle.am9517_service.proofs.copies.piece_of.Goals as goal

pub returns-then-each : goal.returns-then-each
returns-then-each c = sym (when_hit _ _ _ c.if-each.true)

pub returns : goal.returns
returns c = rw (c.min.ensures, c.before.straight.ensures) (sym (when_miss _ _ _ c.before.before.if-each.false))
