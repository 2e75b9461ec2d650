-- An answer out of its parts: for a private contract (src/state.rt). No rule stands here.
use Rattle.std.specs.Prelude.{ℕ, Option, Some, None, Ok, Err}
use Rattle.am9517.specs.Answers.{Answer}
use Rattle.am9517.specs.declared.refusals.Refusal.{Refusal}

-- the refusal, or what is told where there is none
abbrev pub answered : Option Refusal → Option ℕ → Answer
answered None told = Ok told
answered (Some r) told = Err r
