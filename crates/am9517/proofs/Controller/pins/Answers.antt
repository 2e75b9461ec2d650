use mathlib.Core.Path.{refl, ap, ◌∙◌}
use Rattle.am9517.specs.Fields.{put, Pins}
use Rattle.std.proofs.Common.{None}
use Rattle.am9517.proofs.RefusalLaws.{done, kept, pins_fit}
use Rattle.am9517.proofs.Controller.pins.Goals as goal
use Rattle.am9517.proofs.Controller.pins.Goals.{then-is_none, else-is_none}

pub returns : goal.returns
returns c =
    elim c.if-is_none.branch [
      | then-is_none w ↦ done _ refl _ _ None _ c.pins_refusal-refusal.ensures _ c.is_none.ensures _ c.answered-answer.ensures _ w.if-is_none.true (λ z. w.next-is ∙ ap (put c.args.self Pins) (pins_fit c.args.self c.args.levels z))
      | else-is_none w ↦ kept _ refl _ _ None _ c.pins_refusal-refusal.ensures _ c.is_none.ensures _ c.answered-answer.ensures _ w.if-is_none.false w.next-is
    ]
