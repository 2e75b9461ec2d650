use Prim.Native.Nat.{ℕ}
use mathlib.Core.Path.{refl, ap, ◌∙◌}
use Rattle.am9517.specs.Serving.{granted}
use Rattle.am9517.specs.ClosedAnswers.{answered}
use Rattle.std.proofs.Common.{Some}
use Rattle.am9517.proofs.RefusalLaws.{done, kept}
use Rattle.am9517.proofs.Controller.grant.Goals as goal
use Rattle.am9517.proofs.Controller.grant.Goals.{then-is_none, else-is_none}

pub returns : goal.returns
returns c =
    elim c.if-is_none.branch [
      | then-is_none w ↦ done _ refl _ _ (Some _) _ c.grant_refusal-refusal.ensures _ c.is_none.ensures _ (c.answered-answer.ensures ∙ ap (λ (v : ℕ). answered c.grant_refusal-refusal.result (Some v)) c.picked-n.ensures) _ w.if-is_none.true (λ z. w.next-is ∙ w.granted-next.ensures ∙ ap (granted c.args.self) c.picked-n.ensures)
      | else-is_none w ↦ kept _ refl _ _ (Some _) _ c.grant_refusal-refusal.ensures _ c.is_none.ensures _ (c.answered-answer.ensures ∙ ap (λ (v : ℕ). answered c.grant_refusal-refusal.result (Some v)) c.picked-n.ensures) _ w.if-is_none.false w.next-is
    ]
