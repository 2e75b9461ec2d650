use Rattle.console_arrays.specs.Services.{behind_commas}
use Rattle.console_text.specs.Text.{page, put}
use lib.ListN.{drop}
use mathlib.Core.Path.{◌≡◌}
use Rattle.console_arrays.proofs.runs.behind_commas.Given as goal

abbrev pub invariant-loop-n : goal.invariant-loop-n
invariant-loop-n l = put (page l.out l.next) (behind_commas (drop l.n-index l.numbers)) ≡ put (page l.initial.out l.at) (behind_commas l.numbers)
