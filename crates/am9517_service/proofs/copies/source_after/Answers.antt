use Prim.Native.Nat.{◌+◌, ◌-◌, ◌%◌}
use mathlib.Core.Bool.{Bool, ◌&&◌}
use mathlib.Core.Path.{sym, ap, ◌∙◌}
use lib.Dec.{leb}
use Rattle.am9517.specs.declared.Channel.{Channel}
use Rattle.am9517_service.specs.ClosedCopies.{source_on}
use native.Mathlib.Omega.{arith}
use Rattle.am9517_service.proofs.CopySourceLaws.{source_past, source_before}
use Rattle.am9517_service.proofs.copies.source_after.Goals as goal

pub returns-then-autoinitialize-first : goal.returns-then-autoinitialize-first
returns-then-autoinitialize-first c =
    c.source_on.ensures ∙ ap (λ (x : Channel). source_on c.args.hold x ((c.args.n - (c.args.source.count + 1)) % (c.args.source.base_count + 1))) c.restored.ensures ∙ source_past _ _ _ (omega (arith, c.well_formed)) (omega (arith, c.well_formed)) (omega (arith, c.well_formed)) (omega (arith, c.well_formed)) (ap (λ (b : Bool). b && leb (c.args.source.count + 1) c.args.n) (sym c.autoinitialize.ensures) ∙ c.if-autoinitialize-first.true)

pub returns : goal.returns
returns c =
    c.source_on-2.ensures ∙ source_before _ _ _ (omega (arith, c.well_formed)) (omega (arith, c.well_formed)) (ap (λ (b : Bool). b && leb (c.args.source.count + 1) c.args.n) (sym c.autoinitialize.ensures) ∙ c.if-autoinitialize-first.false)
