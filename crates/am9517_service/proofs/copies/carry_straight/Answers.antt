use Rattle.am9517_service.proofs.CopyPieceLaws.{held_bytes, moved_bytes}
use Rattle.am9517_service.proofs.copies.carry_straight.Goals as goal

pub returns-then-route : goal.returns-then-route
returns-then-route c =
    held_bytes c.args.route _ _ c.requires.1 c.if-route.true _ c.fill.ensures

pub returns-else-route : goal.returns-else-route
returns-else-route c =
    moved_bytes c.args.route _ _ c.requires.1 c.if-route.false _ (rw c.decrement.ensures at c.carry.ensures)
