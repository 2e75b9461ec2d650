use Rattle.console_text.proofs.TextLaws.{put_both}
use Rattle.console_chip.proofs.answers.bytes_said.Goals as goal

pub returns : goal.returns
returns c = put_both _ _ _ _ _ c.text-at.ensures c.bytes.ensures
