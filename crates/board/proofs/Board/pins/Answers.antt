use Rattle.am9517.specs.declared.Outcome.{Outcome}
use native.Mathlib.Omega.{arith}
use mathlib.Core.Path.{refl, sym, ap, ◌∙◌}
use Rattle.std.proofs.Common.{None}
use Rattle.board.proofs.RefusalLaws.{free}
use Rattle.board.specs.Refusals.{board_pins_grounds}
use Rattle.board.proofs.OutcomeLaws.{grounds_stated, refused_is, settles, pins_passed, chip_pins}
use Rattle.board.proofs.Board.pins.Goals as goal

pub returns-in-Some : goal.returns-in-Some
returns-in-Some c = grounds_stated _ (board_pins_grounds c.args.self c.args.levels) _ _ None refl (c.refused.ensures ∙ refused_is _ _ _ None _ (sym c.pins_refusal.ensures ∙ c.in-Some.is))

pub returns : goal.returns
returns c =
    let z = free _ c.pins_refusal.result c.pins_refusal.ensures c.in_default.not-Some in
    let p = pins_passed c.args.self c.args.levels _ refl z in let h = p.1 in
    grounds_stated _ (board_pins_grounds c.args.self c.args.levels) _ _ None refl (settles c.args.self _ z _ _ _ _ _ _ (ap (λ (o : Outcome). o.controller) c.pins-first.ensures.0 ∙ chip_pins _ _ p.0.first (omega arith)) (ap (λ (o : Outcome). o.controller) c.pins-second.ensures.0 ∙ chip_pins _ _ p.0.second (omega (arith, h))) c.settled.ensures)
