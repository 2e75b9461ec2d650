-- What each call gives, for all inputs: the chip that it leaves, and what it says. The chip is the controller's state, which the host owns
-- and lends to each call. A refusal leaves it as it was.
use Rattle.std.specs.Prelude.{ℕ, not, List, [], ◌∷◌, eqb}
use Rattle.words.specs.Choice.{when}
use Rattle.words.specs.Grounds.{Ground, ◌if◌}
use Rattle.am9517.specs.Ranges.{valid}
use Rattle.am9517.specs.Refusals.{refusal}
use Rattle.am9517.specs.declared.Controller.{Controller}
use Rattle.am9517.specs.declared.Outcome.{Outcome}
use Rattle.am9517_service.specs.Answers.{Given}
use Rattle.am9517_service.specs.RoundAnswers.{RoundGiven}
use Rattle.am9517_sheet.specs.declared.SheetRead.{SheetRead}
use Rattle.am9517_sheet.specs.Sheet.{sheet_refusal_number}
use Rattle.c_told.specs.declared.Told.{Told}
use Rattle.c_told.specs.declared.RunTold.{RunTold}
use Rattle.c_told.specs.Numbers.{told, told_of, run_told_of}
use Rattle.c_am9517.specs.declared.RoundTold.{RoundTold}
use Rattle.c_am9517.specs.declared.JudgeTold.{JudgeTold}
use Rattle.logs.specs.Answers.{JudgeGiven}
use Rattle.c_am9517.specs.Numbers.{round_told_of, judge_told_of}

-- a look is refused by 1, "the state breaks a range of the sheet section", and shows nothing then
abbrev pub look_grounds : Controller → List (Ground ℕ)
look_grounds s = 1 if not (valid s) ∷ []

abbrev pub look_of : Controller → ℕ → Told
look_of s shown = let n = refusal (look_grounds s) in told n (when (eqb n 0) shown 0)

-- The chip after a call, and what the call says.
pub record Left : Type 0 where
  pub chip : Controller
  pub said : Told

abbrev pub left : Controller → Told → Left
left s t = record { chip = s; said = t }

-- an operation of the controller
abbrev pub call_of : Outcome → Left
call_of o = left o.controller (told_of o.answer)

-- a sheet read into the chip
abbrev pub load_of : SheetRead → Left
load_of x = left x.controller (told (sheet_refusal_number x.answer) 0)

-- A run, and the memory and room that it leaves.
pub record RunLeft : Type 0 where
  pub chip : Controller
  pub said : RunTold
  pub memory : List ℕ
  pub room : List ℕ

abbrev pub run_left : Controller → RunTold → List ℕ → List ℕ → RunLeft
run_left s t m r = record { chip = s; said = t; memory = m; room = r }

abbrev pub run_call_of : Given → RunLeft
run_call_of g = run_left g.ran.controller (run_told_of g.ran.answer g.ran.counts) g.memory g.room

-- A round likewise.
pub record RoundLeft : Type 0 where
  pub chip : Controller
  pub said : RoundTold
  pub memory : List ℕ
  pub room : List ℕ

abbrev pub round_left : Controller → RoundTold → List ℕ → List ℕ → RoundLeft
round_left s t m r = record { chip = s; said = t; memory = m; room = r }

abbrev pub round_call_of : RoundGiven → RoundLeft
round_call_of g = round_left g.rounded.controller (round_told_of g.rounded) g.memory g.room

-- A log of this size, judged, and the memory that its good records leave.
pub record JudgeLeft : Type 0 where
  pub chip : Controller
  pub said : JudgeTold
  pub memory : List ℕ

abbrev pub judge_left : Controller → JudgeTold → List ℕ → JudgeLeft
judge_left s t m = record { chip = s; said = t; memory = m }

abbrev pub judge_call_of : ℕ → JudgeGiven → JudgeLeft
judge_call_of size g = judge_left g.judged.controller (judge_told_of size g.judged.verdict) g.memory
