-- A round on the board: as in document 01, with the bus given to one of two before each service.
use Rattle.std.specs.Prelude.{ℕ, zero, suc, ◌+◌, not, Ok, List, [], ◌∷◌, ◌++◌, get_or, set, take}
use Rattle.words.specs.Grounds.{◌if◌, first}
use Rattle.am9517_service.specs.declared.Counts.{Counts}
use Rattle.am9517_service.specs.declared.RoundEnd.TheVariants.{Done, Quiet, Stopped}
use Rattle.am9517_service.specs.Counts.{none, plus}
use Rattle.am9517_service.specs.World.{Stop}
use Rattle.am9517_service.specs.Round.{RoundAnswer, course, run_next, is_ended}
use Rattle.board.specs.declared.Board.{Board}
use Rattle.board.specs.Bus.{winner, winning, winning_channel, quiet, turned_to}

-- What a round changes, and what it counts: services begun per channel of the eight, and the totals.
pub record BoardCourse : Type 0 where
  pub board : Board
  pub memory : List ℕ
  pub room : List ℕ
  pub services : List ℕ
  pub totals : Counts

abbrev pub board_course : Board → List ℕ → List ℕ → List ℕ → Counts → BoardCourse
board_course b m r services n = record { board = b; memory = m; room = r; services = services; totals = n }

-- where a round begins
abbrev pub board_beginning : Board → List ℕ → List ℕ → BoardCourse
board_beginning b m r = board_course b m r (0 ∷ 0 ∷ 0 ∷ 0 ∷ 0 ∷ 0 ∷ 0 ∷ 0 ∷ []) none

-- the next service, on which the services begun so far have no bearing: that of a round of the controller that gets the bus, "grant then run, limit 65,536, no EOP", over the shared memory
abbrev pub service_next : BoardCourse → List ℕ → Stop
service_next w d = run_next (course (winning w.board) w.memory w.room [] w.totals) d

-- the course after that service
unfoldable pub with_service : BoardCourse → Stop → BoardCourse
with_service w s =
    let v = s.world in
    let n = winning_channel w.board in
    board_course (turned_to w.board (winner w.board) v.controller) v.memory (take w.totals.written w.room ++ v.room)
    (set w.services n (get_or w.services n 0 + 1)) (plus w.totals v.counts)

abbrev pub after_service : BoardCourse → List ℕ → BoardCourse
after_service w d = with_service w (service_next w d)

-- where a round stops, and why
pub record BoardClose : Type 0 where
  pub course : BoardCourse
  pub answer : RoundAnswer

abbrev pub board_close : BoardCourse → RoundAnswer → BoardClose
board_close w a = record { course = w; answer = a }

-- with `remaining` more services to begin
unfoldable pub board_round_of : ℕ → List ℕ → BoardCourse → BoardClose
board_round_of zero d w = board_close w (Ok Done)
board_round_of (suc remaining) d w =
    first (board_close w (Ok Quiet) if quiet w.board ∷ [])
    (first (board_close (after_service w d) (Ok (Stopped (service_next w d).reason)) if not (is_ended (service_next w d).reason) ∷ [])
    (board_round_of remaining d (after_service w d)))
