use Rattle.console_text.proofs.TextLaws.{put_both}
use Rattle.console_chip.proofs.answers.channel.Goals as goal

pub returns : goal.returns
returns c = put_both _ _ _ _ _ c.text-at.ensures c.decimal.ensures
