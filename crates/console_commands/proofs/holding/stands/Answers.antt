use mathlib.Core.Path.{refl}
use Rattle.words.specs.Choice.{◌and◌}
use Rattle.console_commands.specs.Holding.{stands}
use Rattle.console_commands.proofs.holding.stands.Goals as goal

pub returns : goal.returns
unfolding stands ◌and◌
returns c = refl
