-- "A round begins up to k services (0 to 4,096), grant then run, limit 65,536, no EOP."
use Rattle.std.specs.Prelude.{ℕ, zero, suc, ◌+◌, Bool, true, false, not, Result, Ok, List, [], ◌∷◌, ◌++◌, eqb, get_or, set, take, drop}
use Rattle.words.specs.Grounds.{◌if◌, first}
use Rattle.am9517.specs.Serving.{picked, granted}
use Rattle.am9517.specs.declared.Controller.{Controller}
use Rattle.am9517_service.specs.declared.Reason.{Reason}
use Rattle.am9517_service.specs.declared.Reason.TheVariants.{Ended, Dropped, Cascade, Limit, Short}
use Rattle.am9517_service.specs.declared.Counts.{Counts}
use Rattle.am9517_service.specs.Counts.{none, plus}
use Rattle.am9517_service.specs.World.{Stop, start_of}
use Rattle.am9517_service.specs.Run.{run_of}
use Rattle.am9517.specs.declared.refusals.Refusal.{Refusal}
use Rattle.am9517_service.specs.declared.RoundEnd.{RoundEnd}
use Rattle.am9517_service.specs.declared.RoundEnd.TheVariants.{Done, Quiet, Stopped}

-- What a round changes, and what it counts: services begun per channel, and the totals.
pub record Course : Type 0 where
  pub controller : Controller
  pub memory : List ℕ
  pub room : List ℕ
  pub services : List ℕ
  pub totals : Counts

abbrev pub course : Controller → List ℕ → List ℕ → List ℕ → Counts → Course
course c m r services n = record { controller = c; memory = m; room = r; services = services; totals = n }

-- where a round begins
abbrev pub beginning : Controller → List ℕ → List ℕ → Course
beginning c m r = course c m r (0 ∷ 0 ∷ 0 ∷ 0 ∷ []) none

-- nobody is entitled
abbrev pub nobody : Controller → Bool
nobody c = eqb (picked c) 4

-- "The device bytes not yet used are handed on to the next run, and so is the room behind the last byte written."
unfoldable pub run_next : Course → List ℕ → Stop
run_next w d =
    let c = w.controller in
    run_of 65536 0 (drop w.totals.used d) (start_of (granted c (picked c)) w.memory (drop w.totals.written w.room))

-- the course after that service
unfoldable pub with_run : Course → ℕ → Stop → Course
with_run w n s =
    let v = s.world in
    course v.controller v.memory (take w.totals.written w.room ++ v.room) (set w.services n (get_or w.services n 0 + 1))
    (plus w.totals v.counts)

abbrev pub after_next : Course → List ℕ → Course
after_next w d = with_run w (picked w.controller) (run_next w d)

abbrev pub is_ended : Reason → Bool
is_ended Ended = true
is_ended Dropped = false
is_ended Cascade = false
is_ended Limit = false
is_ended Short = false

-- how a round went: it stopped so, or was refused
abbrev pub RoundAnswer : Type 0
RoundAnswer = Result RoundEnd Refusal

-- where a round stops, and why
pub record Close : Type 0 where
  pub course : Course
  pub answer : RoundAnswer

abbrev pub close : Course → RoundAnswer → Close
close w a = record { course = w; answer = a }

-- with `remaining` more services to begin: "It stops, in this order after each run: not "ended" (its reason); k begun ("done");
-- nobody entitled ("quiet"). Before the first, k = 0 is "done" and comes before quiet."
unfoldable pub round_of : ℕ → List ℕ → Course → Close
round_of zero d w = close w (Ok Done)
round_of (suc remaining) d w =
    first (close w (Ok Quiet) if nobody w.controller ∷ [])
    (first (close (after_next w d) (Ok (Stopped (run_next w d).reason)) if not (is_ended (run_next w d).reason) ∷ [])
    (round_of remaining d (after_next w d)))
