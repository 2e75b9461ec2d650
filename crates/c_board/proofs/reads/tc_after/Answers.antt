use Rattle.c_board.proofs.ReadLaws.{tc_left}
use mathlib.Core.Path.{◌∙◌}
use Rattle.c_board.proofs.reads.tc_after.Goals as goal

pub returns : goal.returns
returns c = c.when.ensures ∙ tc_left c.before.args.c c.before.args.reg
