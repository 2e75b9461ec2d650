use Rattle.am9517_service.proofs.CopyLegLaws.{last_moved}
use Rattle.am9517_service.proofs.CopyRestoreLaws.{along_by, one_carried, one_moved}
use native.Mathlib.Omega.{arith}
use mathlib.Core.Path.{sym, ◌∙◌}
use Rattle.am9517_service.proofs.copies.copy_bytes.Goals as goal

pub returns-then-n-eq1 : goal.returns-then-n-eq1
returns-then-n-eq1 c =
    record { value = one_moved c.args.hold c.args.source c.args.target _ _ c.if-n-eq1.true; memory = one_carried c.args.hold c.args.source c.args.target _ _ c.if-n-eq1.true (omega (arith, c.well_formed)) }

pub returns-then-restores : goal.returns-then-restores
returns-then-restores c =
    record { value = rw c.address_after-last.ensures (last_moved _ _ _ _ _ _ c.requires.1 c.requires.0 c.carry_restoring.ensures); memory = c.carry_restoring.ensures }

pub returns : goal.returns
returns c =
    let e = (rw c.decrement.ensures at c.carry_all.ensures) ∙ along_by c.args.hold c.args.source c.args.target c.args.memory.now c.args.n (omega (arith, c.well_formed)) (omega (arith, c.well_formed)) (sym c.restores.ensures ∙ c.if-restores.false) in record { value = rw c.address_after-last.ensures (last_moved _ _ _ _ _ _ c.requires.1 c.requires.0 e); memory = e }
