use Rattle.c_board.proofs.ReadLaws.{read_refused, read_first, read_second}
use mathlib.Core.Path.{refl, ◌∙◌}
use Rattle.board.proofs.RefusalLaws.{free}
use Rattle.c_board.proofs.reads.read.Goals as goal

pub returns-in-Some : goal.returns-in-Some
returns-in-Some c = read_refused c.args.b c.args.register _ _ c.in-Some.ensures (c.wide.ensures.0 ∙ c.number.ensures)

pub returns-then-register-lt16 : goal.returns-then-register-lt16
returns-then-register-lt16 c =
    read_first c.args.b c.args.register _ _ _ _ refl (free _ _ c.read_refusal.ensures c.in_default.not-Some) c.if-register-lt16.true c.tc_after.ensures c.flip_flop_after.ensures c.value_of.ensures

pub returns : goal.returns
returns c =
    read_second c.args.b c.args.register _ _ _ _ refl (free _ _ c.read_refusal.ensures c.in_default.not-Some) c.if-register-lt16.false c.tc_after-2.ensures c.flip_flop_after-2.ensures c.value_of-2.ensures
