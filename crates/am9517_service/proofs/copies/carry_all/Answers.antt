use Rattle.am9517_service.proofs.CopyPieceLaws.{moving_piece, moving_on, moving_over, moving_end}
use native.Mathlib.Omega.{arith}
use Rattle.am9517_service.proofs.copies.carry_all.Goals as goal

pub carry_straight-requires : goal.carry_straight-requires
carry_straight-requires c =
    (c.loop-left.invariant.size, (moving_piece _ c.loop-left.invariant c.straight-piece.ensures).straight)

pub overflow_sub-left : goal.overflow_sub-left
overflow_sub-left c =
    omega (arith, (moving_piece _ c.loop-left.invariant c.straight-piece.ensures).most)

pub loop-left-smaller-then-left-gt0 : goal.loop-left-smaller-then-left-gt0
loop-left-smaller-then-left-gt0 c =
    let p = moving_piece _ c.loop-left.invariant c.straight-piece.ensures in omega (arith, p.most, p.some (omega arith))

pub loop-left-preserved-then-left-gt0 : goal.loop-left-preserved-then-left-gt0
loop-left-preserved-then-left-gt0 c =
    moving_on _ _ _ _ _ _ _ _ _ c.loop-left.invariant (moving_piece _ c.loop-left.invariant c.straight-piece.ensures).most c.carry_straight.ensures c.farther-here.ensures

pub loop-left-preserved : goal.loop-left-preserved
loop-left-preserved c =
    moving_over _ _ _ _ _ _ _ _ c.loop-left.invariant (moving_piece _ c.loop-left.invariant c.straight-piece.ensures).most c.carry_straight.ensures (omega (arith, c.if-left-gt0.false))

pub returns : goal.returns
returns c = moving_end _ _ _ _ _ _ c.before.loop-left.invariant (omega arith)
