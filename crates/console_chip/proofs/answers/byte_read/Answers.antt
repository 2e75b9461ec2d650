use Rattle.console_text.proofs.TextLaws.{put_both}
use Rattle.console_chip.proofs.answers.byte_read.Goals as goal

pub returns : goal.returns
returns c = put_both _ _ _ _ _ c.text-at.ensures c.hex.ensures
