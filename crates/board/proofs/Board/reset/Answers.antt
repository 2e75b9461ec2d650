use Rattle.am9517.specs.declared.Outcome.{Outcome}
use mathlib.Core.Path.{refl, sym, ap, ◌∙◌}
use Rattle.std.proofs.Common.{None}
use Rattle.board.proofs.RefusalLaws.{free}
use Rattle.board.specs.Refusals.{board_reset_grounds}
use Rattle.board.proofs.OutcomeLaws.{grounds_stated, refused_is, settles, reset_passed, chip_reset}
use Rattle.board.proofs.Board.reset.Goals as goal

pub returns-in-Some : goal.returns-in-Some
returns-in-Some c = grounds_stated _ (board_reset_grounds c.args.self) _ _ None refl (c.refused.ensures ∙ refused_is _ _ _ None _ (sym c.reset_refusal.ensures ∙ c.in-Some.is))

pub returns : goal.returns
returns c =
    let z = free _ c.reset_refusal.result c.reset_refusal.ensures c.in_default.not-Some in
    let p = reset_passed c.args.self _ refl z in
    grounds_stated _ (board_reset_grounds c.args.self) _ _ None refl (settles c.args.self _ z _ _ _ _ _ _ (ap (λ (o : Outcome). o.controller) c.reset-first.ensures.0 ∙ chip_reset _ p.first) (ap (λ (o : Outcome). o.controller) c.reset-second.ensures.0 ∙ chip_reset _ p.second) c.settled.ensures)
