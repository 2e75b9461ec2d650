-- What stands for an answer of the chip's alone in C: a round of four channels, and a verdict on a log.
use Rattle.std.specs.Prelude.{ℕ, pos}
use Rattle.am9517_service.specs.RoundAnswers.{round_refusal_number}
use Rattle.am9517_service.specs.declared.Rounded.{Rounded}
use Rattle.c_told.specs.Numbers.{round_reason_of}
use Rattle.c_am9517.specs.declared.RoundTold.{RoundTold}
use Rattle.c_am9517.specs.declared.JudgeTold.{JudgeTold}
use Rattle.logs.specs.declared.Verdict.{Verdict}
use Rattle.logs.specs.declared.Verdict.TheVariants.{Accepted, Wrong, Refused}
use Rattle.am9517.specs.Refusals.{number_of}

abbrev pub round_told_of : Rounded → RoundTold
round_told_of r =
    record {
      refusal = round_refusal_number r.answer;
      reason = round_reason_of r.answer;
      services = r.services;
      transfers = r.totals.transfers;
      used = r.totals.used;
      written = r.totals.written;
      states = r.totals.states;
    }

-- a log of this size: how many of its bytes are right, and the address error of the record behind them; 0 beside a refusal
abbrev pub judge_told_of : ℕ → Verdict → JudgeTold
judge_told_of size Accepted = record { refusal = 0; error = pos 0; right = size }
judge_told_of size (Wrong at error) = record { refusal = 0; error = error; right = at }
judge_told_of size (Refused r) = record { refusal = number_of r; error = pos 0; right = 0 }
