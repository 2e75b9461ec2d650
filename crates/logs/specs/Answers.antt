-- What a call of judge gives, for all inputs: its answer, and the memory as it leaves it.
use Rattle.std.specs.Prelude.{ℕ, ◌/◌, Bool, List, [], eqb, length}
use Rattle.words.specs.Choice.{when}
use Rattle.am9517.specs.Refusals.{number_of, numbered, refusal}
use Rattle.am9517.specs.declared.Controller.{Controller}
use Rattle.am9517_service.specs.Answers.{run_grounds}
use Rattle.logs.specs.declared.Verdict.{Verdict}
use Rattle.logs.specs.declared.Verdict.TheVariants.{Accepted, Wrong, Refused}
use Rattle.logs.specs.declared.Judged.{Judged}
use Rattle.logs.specs.declared.Record.{Record}
use Rattle.logs.specs.Record.{record_in, record_of}
use Rattle.logs.specs.Judge.{Found, judged}

-- the refusal number of each verdict, 0 for none
abbrev pub judge_refusal_number : Verdict → ℕ
judge_refusal_number Accepted = 0
judge_refusal_number (Wrong at error) = 0
judge_refusal_number (Refused r) = number_of r

pub record JudgeGiven : Type 0 where
  pub judged : Judged
  pub memory : List ℕ

abbrev pub judge_given : Judged → List ℕ → JudgeGiven
judge_given j m = record { judged = j; memory = m }

-- a log is accepted where nothing of it is handed back, else wrong from there on
unfoldable pub verdict_of : ℕ → Found → Verdict
verdict_of size f = when (eqb f.place size) Accepted (Wrong f.place f.error)

unfoldable pub told : ℕ → Found → JudgeGiven
told size f = judge_given (record { controller = f.controller; verdict = verdict_of size f }) f.memory

-- "Refusals 1, 7, 8 in that order": those of a run
unfoldable pub judged_of : Controller → List ℕ → List ℕ → JudgeGiven
judged_of c m log =
    let n = refusal (run_grounds c m) in
    when (eqb n 0) (told (length log) (judged (length log / 8) c m log)) (judge_given (record { controller = c; verdict = Refused (numbered n) }) m)

-- where the part that is handed back begins: at the first wrong record; accepted, at the end; refused, the log is handed back whole
abbrev pub place_of : ℕ → Verdict → ℕ
place_of size Accepted = size
place_of size (Wrong at error) = at
place_of size (Refused r) = 0

-- the record of the next transfer, of an open service that a run would not refuse; else one of zeros
unfoldable pub next_record_of : Controller → List ℕ → ℕ → Bool → Record
next_record_of c m device eop = when (eqb (refusal (run_grounds c m)) 0) (record_of c m device eop) (record_in [])
