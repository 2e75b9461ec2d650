use Rattle.console_text.specs.Numbers.{number_from, number_in}
use Rattle.std.proofs.Common.{◌≡◌, drop}
use Rattle.console_text.proofs.numbers.number_in.Given as goal

abbrev pub invariant-loop-b : goal.invariant-loop-b
invariant-loop-b l = number_from l.base l.most l.v (drop l.b-index l.s) ≡ number_in l.base l.most l.s
