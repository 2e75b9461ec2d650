use mathlib.Core.Path.{refl, sym, ◌∙◌}
use Rattle.std.proofs.Common.{None}
use Rattle.am9517.specs.Refusals.{refusal, waits_grounds}
use Rattle.am9517.specs.Fields.{put, Waits}
use Rattle.board.proofs.RefusalLaws.{free}
use Rattle.board.specs.Refusals.{board_waits_grounds}
use Rattle.board.proofs.OutcomeLaws.{grounds_stated, refused_is, carries, idle_refused, idle_passed}
use Rattle.board.proofs.Board.waits.Goals as goal

pub returns-in-Some : goal.returns-in-Some
returns-in-Some c =
    grounds_stated _ (board_waits_grounds c.args.self c.args.which) _ _ None refl (c.refused.ensures ∙ refused_is _ _ _ None _ (idle_refused c.args.self _ _ (sym c.idle_refusal.ensures ∙ c.in-Some.is)))

pub returns : goal.returns
returns c =
    let z = free _ c.idle_refusal.result c.idle_refusal.ensures c.in_default.not-Some in
    grounds_stated _ (board_waits_grounds c.args.self c.args.which) _ _ None refl (carries c.args.self (λ k. refusal (waits_grounds k)) (λ k. put k Waits c.args.states) (λ k. None) _ c.args.which c.args.which _ _ _ (idle_passed c.args.self _ z) refl c.chip_of-c.ensures c.waits.ensures.0 c.carried.ensures)
