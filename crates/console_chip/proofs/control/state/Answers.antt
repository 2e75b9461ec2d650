use Rattle.console_chip.proofs.AnswerLaws.{said_so}
use Rattle.console_text.proofs.TextLaws.{put_both}
use Rattle.am9517_sheet.specs.Body.{body_of}
use Rattle.console_chip.proofs.control.state.Goals as goal

pub returns : goal.returns
unfolding body_of
returns c = said_so _ _ _ (rw c.body_of-body.ensures at (put_both _ _ _ _ _ c.text-at.ensures c.hex-at.ensures))
