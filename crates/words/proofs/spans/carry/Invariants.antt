use Rattle.words.proofs.SpreadLaws.{Carrying}
use Rattle.words.specs.Spans.{place_of}
use Rattle.words.proofs.spans.carry.Given as goal

abbrev pub invariant-loop-j : goal.invariant-loop-j
invariant-loop-j l = Carrying (place_of l.to_down l.to) (place_of l.from_down l.from) l.initial.memory l.n l.memory l.j
