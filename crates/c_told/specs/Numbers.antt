-- What stands for an edition and for an answer in C. A refusal's number is document 01's, 0 for none.
use Rattle.std.specs.Prelude.{ℕ, List, ltb, Some, None, Ok, Err}
use Rattle.words.specs.Choice.{when}
use Rattle.am9517.specs.Answers.{refusal_number}
use Rattle.am9517.specs.Answers.{Answer}
use Rattle.am9517_service.specs.Answers.{run_refusal_number}
use Rattle.am9517_service.specs.declared.Counts.{Counts}
use Rattle.am9517_service.specs.declared.Reason.{Reason}
use Rattle.am9517_service.specs.declared.Reason.TheVariants.{Ended, Dropped, Cascade, Limit, Short}
use Rattle.am9517_service.specs.Answers.{RunAnswer}
use Rattle.am9517_service.specs.Round.{RoundAnswer}
use Rattle.am9517_sheet.specs.Sheet.{Stored, sheet_refusal_number}
use Rattle.c_told.specs.declared.Told.{Told}
use Rattle.c_told.specs.declared.RunTold.{RunTold}
use Rattle.am9517_service.specs.declared.RoundEnd.TheVariants.{Done, Quiet, Stopped}

-- major * 10000 + minor * 100 + patch
abbrev pub version : ℕ
version = 40300

-- the state's byte for the edition that a host asks for: a number over 255 is 255, which is no edition either
unfoldable pub edition_byte : ℕ → ℕ
edition_byte edition = when (ltb 255 edition) 255 edition

-- the byte read or the channel granted; 0 where there is none
abbrev pub value_of : Answer → ℕ
value_of (Ok None) = 0
value_of (Ok (Some v)) = v
value_of (Err r) = 0

-- the end reasons of a run
abbrev pub reason_of : Reason → ℕ
reason_of Ended = 1
reason_of Dropped = 2
reason_of Cascade = 3
reason_of Limit = 4
reason_of Short = 5

-- 0 beside a refusal
abbrev pub run_reason_of : RunAnswer → ℕ
run_reason_of (Ok e) = reason_of e
run_reason_of (Err r) = 0

-- a round has two more
abbrev pub round_reason_of : RoundAnswer → ℕ
round_reason_of (Ok Done) = 6
round_reason_of (Ok Quiet) = 7
round_reason_of (Ok (Stopped e)) = reason_of e
round_reason_of (Err r) = 0

abbrev pub told : ℕ → ℕ → Told
told n v = record { refusal = n; value = v }

abbrev pub told_of : Answer → Told
told_of a = told (refusal_number a) (value_of a)

abbrev pub run_told_of : RunAnswer → Counts → RunTold
run_told_of a n =
    record {
      refusal = run_refusal_number a;
      reason = run_reason_of a;
      transfers = n.transfers;
      used = n.used;
      written = n.written;
      states = n.states;
    }

-- A sheet written or converted: the number said, and the lent bytes after it.
pub record Saved : Type 0 where
  pub refusal : ℕ
  pub sheet : List ℕ

abbrev pub saved : ℕ → List ℕ → Saved
saved n bs = record { refusal = n; sheet = bs }

abbrev pub save_of : Stored → Saved
save_of s = saved (sheet_refusal_number s.answer) s.bytes
