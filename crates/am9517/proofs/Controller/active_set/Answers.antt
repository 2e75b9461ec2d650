use native.Mathlib.Omega.{arith}
use Rattle.am9517.proofs.ServingLaws.{active_set_lem}
use Rattle.am9517.proofs.Controller.active_set.Goals as goal

pub returns : goal.returns
returns c =
    let at-active-low = c.before in let at-struct-known = at-active-low.before in let entry = at-struct-known.before in
    simp (c.when.ensures, at-active-low.active_low.ensures) (active_set_lem entry.args.self (omega (arith, at-struct-known.struct_known-1.given)))
