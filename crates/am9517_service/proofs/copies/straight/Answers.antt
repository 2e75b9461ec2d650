use Rattle.am9517_service.specs.ClosedCopies.{straight_of}
use Rattle.words.proofs.ChoiceLaws.{when_hit, when_miss}
use mathlib.Core.Path.{sym}
use Rattle.am9517_service.proofs.copies.straight.Goals as goal

pub returns-then-route : goal.returns-then-route
unfolding straight_of
returns-then-route c = rw (c.before.min-target.ensures, c.before.before.reach.ensures) (sym (when_hit _ _ _ c.if-route.true))

pub returns : goal.returns
unfolding straight_of
returns c =
    rw (c.min.ensures, c.reach-2.ensures, c.decrement.ensures, c.min-target.ensures, c.reach.ensures) (sym (when_miss _ _ _ c.if-route.false))
