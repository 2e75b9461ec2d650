use lib.ListN.{drop}
use mathlib.Core.Path.{◌≡◌}
use Rattle.console_text.specs.Text.{page, put}
use Rattle.console_dump.specs.Dump.{letters}
use Rattle.console_dump.proofs.letters.Given as goal

abbrev pub invariant-loop-b : goal.invariant-loop-b
invariant-loop-b l = put (page l.out l.next) (letters (drop l.b-index l.bytes)) ≡ put (page l.initial.out l.at) (letters l.bytes)
