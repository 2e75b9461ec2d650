-- The grants that operations on the board make, in their order: what demand 3 speaks of.
use Rattle.std.specs.Prelude.{ℕ, zero, suc, not, List, [], ◌∷◌, ◌++◌, map, eqb, Some, None, Ok, Err}
use Rattle.words.specs.Choice.{when}
use Rattle.words.specs.Grounds.{◌if◌, first}
use Rattle.am9517.specs.Refusals.{refusal}
use Rattle.am9517.specs.Answers.{Answer}
use Rattle.am9517_service.specs.Round.{is_ended}
use Rattle.board.specs.declared.Board.{Board}
use Rattle.board.specs.Bus.{winning_channel, quiet}
use Rattle.board.specs.Refusals.{board_round_grounds}
use Rattle.board.specs.Answers.{board_grant_of}
use Rattle.board.specs.Round.{BoardCourse, board_beginning, service_next, after_service}
use Rattle.board_demands.specs.Operations.{BoardOp, Write, Read, Pins, Reset, Waits, Grant, Run, Round, SheetWriting, SheetReading, next}

-- A grant: the board that it was made on, and the channel of the eight that it went to.
pub record BoardGranted : Type 0 where
  pub before : Board
  pub channel : ℕ

abbrev pub granted : Board → ℕ → BoardGranted
granted b n = record { before = b; channel = n }

-- the grant that this answer of `grant` tells of; a refusal is none
abbrev pub told : Board → Answer → List BoardGranted
told b (Ok None) = []
told b (Ok (Some n)) = granted b n ∷ []
told b (Err r) = []

-- the grants of a round that may begin so many more services: one before each, as board_round_of makes them
unfoldable pub round_grants : ℕ → List ℕ → BoardCourse → List BoardGranted
round_grants zero d w = []
round_grants (suc remaining) d w =
    first ([] if quiet w.board ∷ [])
    (granted w.board (winning_channel w.board)
    ∷ first ([] if not (is_ended (service_next w d).reason) ∷ []) (round_grants remaining d (after_service w d)))

-- the grants that a call makes; a refused round makes none
abbrev pub made : Board → BoardOp → List BoardGranted
made b (Write r x) = []
made b (Read r) = []
made b (Pins p) = []
made b Reset = []
made b (Waits which n) = []
made b Grant = told b (board_grant_of b).answer
made b (Run m d r limit eop) = []
made b (Round m d r k) = when (eqb (refusal (board_round_grounds b m k)) 0) (round_grants k d (board_beginning b m r)) []
made b (SheetWriting form which out) = []
made b (SheetReading form which bytes) = []

-- the grants made, in order, when these operations are called one after the other from board b on
abbrev pub grants : Board → List BoardOp → List BoardGranted
grants b [] = []
grants b (op ∷ ops) = made b op ++ grants (next b op) ops

-- the channels that they went to
abbrev pub channels : List BoardGranted → List ℕ
channels gs = map (λ (g : BoardGranted). g.channel) gs
