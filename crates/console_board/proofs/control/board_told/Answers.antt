use Rattle.console_board.specs.Control.{board_in}
use Rattle.console_text.proofs.HexLaws.{bytes_length}
use Rattle.console_text.proofs.TextLaws.{stands_whole}
use mathlib.Core.Path.{ap}
use native.Mathlib.Omega.{arith}
use Rattle.console_board.proofs.control.board_told.Goals as goal

pub returns : goal.returns
returns c =
    rw (c.chip_told-first.ensures, c.chip_told-second.ensures) (ap board_in (stands_whole _ _ _ _ c.store.ensures (omega (arith, bytes_length c.args.digits.now, c.requires))))
