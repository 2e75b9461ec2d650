use native.Mathlib.Omega.{arith}
use mathlib.Core.Path.{sym, ap, ◌∙◌}
use Prim.Native.Nat.{◌<◌}
use Rattle.am9517.specs.declared.Controller.{Controller}
use Rattle.logs.proofs.RegisterLaws.{serving_same}
use Rattle.logs.proofs.LastLaws.{last_made}
use Rattle.logs.proofs.ends.make_last.Goals as goal

pub last_by-requires : goal.last_by-requires
last_by-requires c =
    let c₀ = c.args.c in let four = c.well_formed.0.1.1.0.1.0.1 in let here : c₀.serving < 4 = omega (arith, c.requires.0, c.requires.1) in (c.requires.0, c.requires.1 ∙ sym (ap (λ (y : Controller). y.serving) c.with_registers-next.ensures ∙ serving_same c₀ four here _))

pub returns : goal.returns
returns c =
    let c₀ = c.args.c in let four = c.well_formed.0.1.1.0.1.0.1 in let here : c₀.serving < 4 = omega (arith, c.requires.0, c.requires.1) in let both = last_made c₀ four here _ _ c.requires.2.flows _ _ _ _ _ _ _ _ c.service_of-s.ensures c.registers_of-g.ensures c.when-moved.ensures c.store_by.ensures c.stepped_by.ensures c.with_registers-next.ensures c.last_by.ensures in record { value = both.0; memory = both.1 }
