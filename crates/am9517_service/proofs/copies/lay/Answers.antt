use Rattle.am9517_service.proofs.CopyRestoreLaws.{laying_start, laying_piece, laying_on, laying_again}
use native.Mathlib.Omega.{arith}
use Rattle.words.proofs.ChoiceLaws.{when_hit}
use mathlib.Core.Path.{◌∙◌}
use Rattle.am9517_service.proofs.copies.lay.Goals as goal

pub loop-left-init : goal.loop-left-init
loop-left-init c =
    laying_start _ _ _ _ (omega (arith, c.well_formed)) (omega (arith, c.well_formed)) (omega (arith, c.well_formed)) c.requires.1 c.requires.0

pub carry_piece-requires : goal.carry_piece-requires
carry_piece-requires c =
    (c.loop-left.invariant.size, (laying_piece c.loop-left.invariant (omega (arith, c.loop-left-test.true)) _ _ c.piece_of-piece.ensures).straight, λ e. c.piece_of-piece.ensures ∙ when_hit _ _ _ e)

pub overflow_sub-until : goal.overflow_sub-until
overflow_sub-until c =
    omega (arith, (laying_piece c.loop-left.invariant (omega (arith, c.loop-left-test.true)) _ _ c.piece_of-piece.ensures).within)

pub overflow_sub-left : goal.overflow_sub-left
overflow_sub-left c =
    omega (arith, (laying_piece c.loop-left.invariant (omega (arith, c.loop-left-test.true)) _ _ c.piece_of-piece.ensures).most)

pub loop-left-preserved-then-until-eq0 : goal.loop-left-preserved-then-until-eq0
loop-left-preserved-then-until-eq0 c =
    rw c.begun-here.ensures (laying_again c.loop-left.invariant _ (laying_piece c.loop-left.invariant (omega (arith, c.loop-left-test.true)) _ _ c.piece_of-piece.ensures) _ c.carry_piece.ensures _ c.farther-here.ensures c.if-until-eq0.true)

pub loop-left-smaller : goal.loop-left-smaller
loop-left-smaller c =
    let p = laying_piece c.loop-left.invariant (omega (arith, c.loop-left-test.true)) _ _ c.piece_of-piece.ensures in omega (arith, p.some, p.most)

pub loop-left-preserved : goal.loop-left-preserved
loop-left-preserved c =
    laying_on c.loop-left.invariant _ (laying_piece c.loop-left.invariant (omega (arith, c.loop-left-test.true)) _ _ c.piece_of-piece.ensures) _ c.carry_piece.ensures _ c.farther-here.ensures (omega (arith, c.if-until-eq0.false))
