use Rattle.console_text.proofs.TextLaws.{put_none}
use mathlib.Core.Path.{sym}
use mathlib.Core.List.{[]}
use Rattle.console_commands.proofs.people.on_people.Goals as goal

pub returns-then-spare-n : goal.returns-then-spare-n
returns-then-spare-n c = record { text = []; so = sym (put_none _) }

pub returns : goal.returns
returns c = record { text = _; so = c.before.before.text.ensures }
