use mathlib.Core.Path.{refl, ◌∙◌}
use Rattle.std.proofs.Common.{None}
use Rattle.am9517.proofs.RefusalLaws.{done, kept}
use Rattle.am9517.proofs.Controller.reset.Goals as goal
use Rattle.am9517.proofs.Controller.reset.Goals.{then-is_none, else-is_none}

pub returns : goal.returns
returns c =
    elim c.if-is_none.branch [
      | then-is_none w ↦ done _ refl _ _ None _ c.reset_refusal-refusal.ensures _ c.is_none.ensures _ c.answered-answer.ensures _ w.if-is_none.true (λ z. w.next-is ∙ w.cleared-next.ensures)
      | else-is_none w ↦ kept _ refl _ _ None _ c.reset_refusal-refusal.ensures _ c.is_none.ensures _ c.answered-answer.ensures _ w.if-is_none.false w.next-is
    ]
