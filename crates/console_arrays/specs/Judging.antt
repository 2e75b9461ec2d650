-- The command judge: its answer, and what it leaves.
use Rattle.std.specs.Prelude.{ℕ, ◌/◌, List, ◌++◌, leb, length}
use Rattle.words.specs.Choice.{when}
use Rattle.am9517.specs.declared.Controller.{Controller}
use Rattle.logs.specs.Answers.{JudgeGiven, judged_of}
use Rattle.logs.specs.declared.Verdict.{Verdict}
use Rattle.logs.specs.declared.Verdict.TheVariants.{Accepted, Wrong, Refused}
use Rattle.console_text.specs.Text.{codes}
use Rattle.console_text.specs.Numbers.{decimal_text, signed_text}
use Rattle.console_text.specs.Hex.{is_bytes, bytes_in}
use Rattle.console_chip.specs.Answers.{refused_text}
use Rattle.console_arrays.specs.Services.{Service, unserved}

-- "`accepted records=N`, or `wrong at=PLACE error=E` .., or `refused N`", of a log of so many records
unfoldable pub verdict_text : ℕ → Verdict → List ℕ
verdict_text records Accepted = codes "accepted records=" ++ decimal_text records
verdict_text records (Wrong at error) = codes "wrong at=" ++ decimal_text at ++ codes " error=" ++ signed_text error
verdict_text records (Refused r) = refused_text r

-- "State and lent memory are as the good records made them"; no device bytes are used or written
unfoldable pub judge_service : List ℕ → ℕ → JudgeGiven → Service Controller
judge_service room records g =
    record {
      next = g.judged.controller;
      used = 0;
      written = 0;
      memory = g.memory;
      room = room;
      text = verdict_text records g.judged.verdict;
    }

-- a log of these bytes, 8 a record
abbrev pub judge_log : Controller → List ℕ → List ℕ → List ℕ → Service Controller
judge_log c m room log = judge_service room (length log / 8) (judged_of c m log)

abbrev pub judge_reply : Controller → List ℕ → List ℕ → List ℕ → Service Controller
judge_reply c m room digits = when (is_bytes digits) (judge_log c m room (bytes_in digits)) (unserved c m room)

-- the same, where an array of this length has room for the bytes
abbrev pub judge_within : ℕ → Controller → List ℕ → List ℕ → List ℕ → Service Controller
judge_within spare c m room digits = when (leb (length digits / 2) spare) (judge_reply c m room digits) (unserved c m room)
