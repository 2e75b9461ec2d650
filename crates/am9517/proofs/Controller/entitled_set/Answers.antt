use mathlib.Core.Path.{sym}
use native.Mathlib.Omega.{arith}
use Rattle.am9517.proofs.ServingLaws.{entitled_set_is}
use Rattle.am9517.proofs.Controller.entitled_set.Goals as goal

pub returns : goal.returns
returns c =
    let at-blocks2 = c.before in let at-lines = at-blocks2.before in let entry = at-lines.before in
    simp (c.entitled_of.ensures, at-blocks2.blocks-2.ensures, at-lines.lines.ensures) (sym (entitled_set_is entry.args.self (omega (arith, entry.well_formed))))
