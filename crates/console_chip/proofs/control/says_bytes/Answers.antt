use Rattle.words.specs.Choice.{◌and◌}
use Rattle.console_chip.specs.Control.{says_bytes}
use Rattle.console_chip.proofs.control.says_bytes.Goals as goal

pub returns : goal.returns
unfolding says_bytes ◌and◌
returns c = simp c.is_bytes.ensures
