use Rattle.console_text.proofs.TextLaws.{put_both, put_one_lem}
use mathlib.Core.Path.{sym, ◌∙◌}
use Rattle.console_commands.proofs.holding.error_line.Goals as goal

pub returns : goal.returns
returns c = put_both _ _ _ _ _ c.before.before.before.before.before.before.error-next.ensures (c.before.before.byte.ensures ∙ sym (put_one_lem _ _))
