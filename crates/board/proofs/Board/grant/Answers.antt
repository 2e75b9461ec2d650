use native.Mathlib.Omega.{arith}
use mathlib.Core.Path.{refl, sym, ◌∙◌}
use Rattle.std.proofs.Common.{Some}
use Rattle.board.proofs.RefusalLaws.{free}
use Rattle.board.specs.Refusals.{board_grant_grounds}
use Rattle.board.proofs.OutcomeLaws.{grounds_stated, refused_is, granted_is, picked_few}
use Rattle.board.proofs.Board.grant.Goals as goal

pub returns-in-Some : goal.returns-in-Some
returns-in-Some c = grounds_stated _ (board_grant_grounds c.args.self) _ _ (Some _) refl (c.refused.ensures ∙ refused_is _ _ _ (Some _) _ (sym c.grant_refusal.ensures ∙ c.in-Some.is))

pub channel_of-requires : goal.channel_of-requires
channel_of-requires c = omega (arith, c.picked-n.ensures, picked_few c.chip_of-c.result)

pub returns : goal.returns
returns c =
    grounds_stated _ (board_grant_grounds c.args.self) _ _ (Some _) refl (granted_is c.args.self (free _ c.grant_refusal.result c.grant_refusal.ensures c.in_default.not-Some) _ c.winner-which.ensures _ c.chip_of-c.ensures _ c.picked-n.ensures _ c.grant-done.ensures.0 _ c.turned_to-board.ensures _ c.channel_of.ensures)
