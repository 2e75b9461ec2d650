use mathlib.Core.Path.{refl}
use Rattle.console_commands.proofs.Console.fresh.Goals as goal

pub returns : goal.returns
returns c = rw (c.before.fresh-controller.ensures, c.fresh-board.ensures) refl
