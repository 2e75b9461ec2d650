use native.Mathlib.Omega.{arith}
use Rattle.am9517_service.proofs.CopyRestoreLaws.{one_along}
use Rattle.am9517_service.proofs.copies.carry_piece.Goals as goal

pub returns-then-each : goal.returns-then-each
returns-then-each c =
    one_along c.args.route _ _ (c.requires.2 c.if-each.true) (omega (arith, c.well_formed)) (omega (arith, c.well_formed))
