use Rattle.console_text.specs.Text.{page, put}
use Rattle.std.proofs.Common.{◌≡◌, replicate}
use Rattle.console_text.proofs.page.copies.Given as goal

abbrev pub invariant-loop : goal.invariant-loop
invariant-loop l = page l.out l.next ≡ put (page l.initial.out l.at) (replicate l.counter l.b)
