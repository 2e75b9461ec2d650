use mathlib.Core.Path.{refl}
use Rattle.console_commands.proofs.services.after_service.Goals as goal

pub returns : goal.returns
returns c = simp (c.before.further.ensures, c.further-2.ensures) refl
