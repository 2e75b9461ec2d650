use Rattle.words.proofs.SpreadLaws.{Copying}
use Rattle.words.specs.Spans.{place_of}
use Rattle.words.proofs.spans.copy.Given as goal

abbrev pub invariant-loop-j : goal.invariant-loop-j
invariant-loop-j l = Copying (place_of l.to_down l.to) (place_of l.from_down l.from) l.src l.initial.dst l.n l.dst l.j
