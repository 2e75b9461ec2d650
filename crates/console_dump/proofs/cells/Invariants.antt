use lib.ListN.{drop}
use mathlib.Core.Path.{◌≡◌}
use Rattle.console_text.specs.Text.{page, put}
use Rattle.console_dump.specs.Dump.{cells}
use Rattle.console_dump.proofs.cells.Given as goal

abbrev pub invariant-loop-b : goal.invariant-loop-b
invariant-loop-b l = put (page l.out l.next) (cells (drop l.b-index l.bytes)) ≡ put (page l.initial.out l.at) (cells l.bytes)
