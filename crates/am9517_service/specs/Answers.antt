-- What a call of run gives, for all inputs: its answer, and the memory and the room as it leaves them.
use Rattle.std.specs.Prelude.{ℕ, Bool, not, Result, Ok, Err, List, [], ◌∷◌, eqb, length}
use Prim.Native.String.{String}
use Rattle.words.specs.Choice.{when}
use Rattle.words.specs.Grounds.{Ground, ◌if◌}
use Rattle.am9517.specs.Ranges.{valid}
use Rattle.am9517.specs.Refusals.{number_of, numbered, refusal, idle}
use Rattle.am9517.specs.declared.Controller.{Controller}
use Rattle.am9517.specs.declared.refusals.Refusal.{Refusal}
use Rattle.am9517_service.specs.declared.Reason.{Reason}
use Rattle.am9517_service.specs.declared.Reason.TheVariants.{Ended, Dropped, Cascade, Limit, Short}
use Rattle.am9517_service.specs.declared.Ran.{Ran}
use Rattle.am9517_service.specs.Counts.{none}
use Rattle.am9517_service.specs.World.{start_of, Stop}
use Rattle.am9517_service.specs.Run.{run_of}

-- "If an answer is an enum, the promises use a definition that states this paper's number and values for each of its cases": the
-- refusal number of each answer, 0 for none, stands in the promise; the word of each reason in the console's, which say it
abbrev pub word_of : Reason → String
word_of Ended = "ended"
word_of Dropped = "dropped"
word_of Cascade = "cascade"
word_of Limit = "limit"
word_of Short = "short"

abbrev pub RunAnswer : Type 0
RunAnswer = Result Reason Refusal

abbrev pub run_refusal_number : RunAnswer → ℕ
run_refusal_number (Ok why) = 0
run_refusal_number (Err r) = number_of r

pub record Given : Type 0 where
  pub ran : Ran
  pub memory : List ℕ
  pub room : List ℕ

abbrev pub given : Ran → List ℕ → List ℕ → Given
given r m room = record { ran = r; memory = m; room = room }

-- "With every stop the answer also gives transfers, device bytes used and written, and working states."
unfoldable pub stopped : Stop → Given
stopped s =
    let w = s.world in
    given
    (record { controller = w.controller; answer = Ok s.reason; counts = w.counts })
    w.memory w.room

-- "Each returns its number only, and state, memory and buffers stay."
abbrev pub refused_of : Controller → ℕ → Ran
refused_of c n = record { controller = c; answer = Err (numbered n); counts = none }

-- 7 "memory not of 65,536 bytes"; 8 "run with no service open"; "run 1, 7, 8"
abbrev pub wrong_size : List ℕ → Bool
wrong_size m = not (eqb (length m) 65536)

abbrev pub run_grounds : Controller → List ℕ → List (Ground ℕ)
run_grounds c m = 1 if not (valid c) ∷ 7 if wrong_size m ∷ 8 if idle c ∷ []

-- "Input: memory, device bytes to read, device room to write, a limit in transfers, and which transfer of this call, counted from 1,
-- meets external EOP (0: none)."
unfoldable pub ran_of : Controller → List ℕ → List ℕ → List ℕ → ℕ → ℕ → Given
ran_of c m d r limit eop =
    let n = refusal (run_grounds c m) in
    when (eqb n 0) (stopped (run_of limit eop d (start_of c m r))) (given (refused_of c n) m r)
