-- The commands run and round: their answers, and what they leave.
use Rattle.std.specs.Prelude.{ℕ, List, [], ◌∷◌, ◌++◌, Ok, Err}
use Rattle.am9517.specs.declared.Controller.{Controller}
use Rattle.am9517_service.specs.Answers.{word_of, RunAnswer, Given, ran_of}
use Rattle.am9517_service.specs.declared.Counts.{Counts}
use Rattle.am9517_service.specs.declared.Reason.{Reason}
use Rattle.am9517_service.specs.RoundAnswers.{round_word_of, RoundGiven, rounded_of}
use Rattle.am9517_service.specs.declared.RoundEnd.{RoundEnd}
use Rattle.am9517_service.specs.Round.{RoundAnswer}
use Rattle.console_text.specs.Text.{codes, Page, page, put}
use Rattle.console_text.specs.Numbers.{number_of, decimal_text}
use Rattle.console_chip.specs.Answers.{error_text, refused_text, numbered, word_most}
use Rattle.console_arrays.specs.declared.runs.Served.{Served}

-- document 01's words
unfoldable pub reason_text : Reason → List ℕ
reason_text why = codes (word_of why)

-- " transfers=T used=U written=W states=S"
unfoldable pub counts_text : Counts → List ℕ
counts_text n =
    codes " transfers="
    ++ decimal_text n.transfers
    ++ codes " used="
    ++ decimal_text n.used
    ++ codes " written="
    ++ decimal_text n.written
    ++ codes " states="
    ++ decimal_text n.states

unfoldable pub run_text : RunAnswer → Counts → List ℕ
run_text (Ok why) counts = reason_text why ++ counts_text counts
run_text (Err r) counts = refused_text r

-- " services=A,B,C,D": the services begun, a number for each channel
unfoldable pub behind_commas : List ℕ → List ℕ
behind_commas [] = []
behind_commas (n ∷ ns) = codes "," ++ decimal_text n ++ behind_commas ns

unfoldable pub services_text : List ℕ → List ℕ
services_text [] = codes " services="
services_text (n ∷ ns) = codes " services=" ++ decimal_text n ++ behind_commas ns

abbrev pub round_counts : List ℕ → Counts → List ℕ
round_counts services totals = services_text services ++ counts_text totals

-- a round has two words more
unfoldable pub end_text : RoundEnd → List ℕ
end_text end = codes (round_word_of (Ok end))

unfoldable pub round_text : RoundAnswer → List ℕ → Counts → List ℕ
round_text (Ok end) services totals = end_text end ++ round_counts services totals
round_text (Err r) services totals = refused_text r

-- What a service leaves: what it is of, a controller or a board, as it is next; the device bytes used and written, the lent memory
-- and room, and its answer.
pub record Service (A : Type 0) : Type 0 where
  pub next : A
  pub used : ℕ
  pub written : ℕ
  pub memory : List ℕ
  pub room : List ℕ
  pub text : List ℕ

-- What is seen of it: the same, with the page that the answer stands on.
pub record Seen (A : Type 0) : Type 0 where
  pub next : A
  pub used : ℕ
  pub written : ℕ
  pub memory : List ℕ
  pub room : List ℕ
  pub page : Page

abbrev pub served : {A : Type 0} → Served A → List ℕ → List ℕ → List ℕ → Seen A
served r m room out =
    record { next = r.next; used = r.used; written = r.written; memory = m; room = room; page = page out r.at }

abbrev pub serving : {A : Type 0} → Page → Service A → Seen A
serving p s =
    record { next = s.next; used = s.used; written = s.written; memory = s.memory; room = s.room; page = put p s.text }

-- "error, nothing changed"
abbrev pub unserved : {A : Type 0} → A → List ℕ → List ℕ → Service A
unserved a m room = record { next = a; used = 0; written = 0; memory = m; room = room; text = error_text }

-- what a service that was counted so leaves
abbrev pub counted_service : {A : Type 0} → A → Counts → List ℕ → List ℕ → List ℕ → Service A
counted_service a n m room text = record { next = a; used = n.used; written = n.written; memory = m; room = room; text = text }

unfoldable pub run_service : Given → Service Controller
run_service g =
    let r = g.ran in
    counted_service r.controller r.counts g.memory g.room (run_text r.answer r.counts)

abbrev pub run_reply : Controller → List ℕ → List ℕ → List ℕ → List ℕ → List ℕ → Service Controller
run_reply c m device room limit eop =
    numbered (number_of word_most limit)
    (λ (l : ℕ). numbered (number_of word_most eop) (λ (e : ℕ). run_service (ran_of c m device room l e)) (unserved c m room))
    (unserved c m room)

unfoldable pub round_service : RoundGiven → Service Controller
round_service g =
    let r = g.rounded in
    counted_service r.controller r.totals g.memory g.room (round_text r.answer r.services r.totals)

abbrev pub round_reply : Controller → List ℕ → List ℕ → List ℕ → List ℕ → Service Controller
round_reply c m device room count =
    numbered (number_of word_most count) (λ (k : ℕ). round_service (rounded_of c m device room k)) (unserved c m room)
