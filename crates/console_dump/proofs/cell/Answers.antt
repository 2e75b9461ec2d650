use Rattle.console_text.proofs.TextLaws.{put_both, put_one_lem}
use mathlib.Core.Path.{sym, ◌∙◌}
use Rattle.console_dump.proofs.cell.Goals as goal

pub returns : goal.returns
returns c = put_both _ _ _ _ _ c.hex-next.ensures (c.byte.ensures ∙ sym (put_one_lem _ _))
