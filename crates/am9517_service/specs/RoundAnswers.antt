-- What a call of round gives, for all inputs.
use Rattle.std.specs.Prelude.{ℕ, not, Ok, Err, List, [], ◌∷◌, eqb, ltb}
use Prim.Native.String.{String}
use Rattle.words.specs.Choice.{when}
use Rattle.words.specs.Grounds.{Ground, ◌if◌}
use Rattle.am9517.specs.Ranges.{valid}
use Rattle.am9517.specs.Refusals.{number_of, numbered, refusal, busy}
use Rattle.am9517.specs.declared.Controller.{Controller}
use Rattle.am9517_service.specs.Answers.{word_of, wrong_size}
use Rattle.am9517_service.specs.declared.RoundEnd.TheVariants.{Done, Quiet, Stopped}
use Rattle.am9517_service.specs.declared.Rounded.{Rounded}
use Rattle.am9517_service.specs.Round.{beginning, RoundAnswer, Close, close, round_of}

-- this paper's word of each answer, and its refusal number, 0 for none
abbrev pub round_word_of : RoundAnswer → String
round_word_of (Ok Done) = "done"
round_word_of (Ok Quiet) = "quiet"
round_word_of (Ok (Stopped e)) = word_of e
round_word_of (Err r) = ""

abbrev pub round_refusal_number : RoundAnswer → ℕ
round_refusal_number (Ok end) = 0
round_refusal_number (Err r) = number_of r

pub record RoundGiven : Type 0 where
  pub rounded : Rounded
  pub memory : List ℕ
  pub room : List ℕ

abbrev pub round_given : Rounded → List ℕ → List ℕ → RoundGiven
round_given r m room = record { rounded = r; memory = m; room = room }

-- "It gives services begun per channel, and the totals of transfers, device bytes used, device bytes written and states."
unfoldable pub closed : Close → RoundGiven
closed k =
    let w = k.course in
    round_given
    (record { controller = w.controller; answer = k.answer; services = w.services; totals = w.totals })
    w.memory w.room

-- 2 ".. more than 4,096 services asked for"; "round 1, 2, 7, 3"
abbrev pub round_grounds : Controller → List ℕ → ℕ → List (Ground ℕ)
round_grounds c m k = 1 if not (valid c) ∷ 2 if ltb 4096 k ∷ 7 if wrong_size m ∷ 3 if busy c ∷ []

-- a refusal gives its number only; state, memory and room stay
unfoldable pub rounded_of : Controller → List ℕ → List ℕ → List ℕ → ℕ → RoundGiven
rounded_of c m d r k =
    let n = refusal (round_grounds c m k) in
    when (eqb n 0) (closed (round_of k d (beginning c m r))) (closed (close (beginning c m r) (Err (numbered n))))
