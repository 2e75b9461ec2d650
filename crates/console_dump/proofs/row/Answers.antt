use Rattle.console_text.proofs.TextLaws.{put_both, put_one_lem}
use Rattle.console_dump.specs.Dump.{row_text}
use mathlib.Core.Path.{sym, ◌∙◌}
use Rattle.console_dump.proofs.row.Goals as goal

pub returns : goal.returns
unfolding row_text
returns c = put_both _ _ _ _ _ (put_both _ _ _ _ _ (put_both _ _ _ _ _ (put_both _ _ _ _ _ (put_both _ _ _ _ _ c.address-next.ensures c.text-next.ensures) c.cells-next.ensures) c.copies-next.ensures) (c.byte-next.ensures ∙ sym (put_one_lem _ _))) c.letters.ensures
