use Rattle.console_chip.proofs.AnswerLaws.{said_so}
use Rattle.console_text.proofs.TextLaws.{put_both}
use Rattle.console_board.proofs.control.state.Goals as goal

pub returns : goal.returns
returns c =
    said_so _ _ _ (rw (c.body_of.ensures, c.body_of-2.ensures) at (put_both _ _ _ _ _ (put_both _ _ _ _ _ (put_both _ _ _ _ _ c.text-at.ensures c.hex-at.ensures) c.hex-at-2.ensures) c.hex-at-3.ensures))
