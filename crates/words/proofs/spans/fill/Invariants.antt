use Rattle.words.proofs.SpreadLaws.{Carrying}
use Rattle.words.specs.Spans.{place_of}
use lib.ListN.{get_or}
use mathlib.Core.Path.{◌≡◌}
use Prim.Native.Nat.{ℕ}
use Rattle.words.proofs.spans.fill.Given as goal

abbrev pub invariant-loop-j : goal.invariant-loop-j
invariant-loop-j l = Carrying (place_of l.to_down l.to) (λ (i : ℕ). l.from) l.initial.memory l.n l.memory l.j × (get_or l.memory l.from 0 ≡ l.byte)
