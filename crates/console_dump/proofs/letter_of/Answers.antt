use Rattle.words.specs.Choice.{◌and◌}
use Rattle.console_dump.specs.Dump.{letter_of}
use Rattle.console_dump.proofs.letter_of.Goals as goal

pub returns : goal.returns
unfolding letter_of ◌and◌
returns c = c.when.ensures
