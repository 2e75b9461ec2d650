use Rattle.console_text.specs.Text.{page, put}
use Rattle.std.proofs.Common.{◌≡◌, take}
use Rattle.console_text.proofs.page.put_each.Given as goal

abbrev pub invariant-loop-b : goal.invariant-loop-b
invariant-loop-b l = page l.out l.next ≡ put (page l.initial.out l.at) (take l.b-index l.s)
