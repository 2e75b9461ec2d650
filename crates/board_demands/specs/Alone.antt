-- A controller alone on the board does what it does without the board: the other in its ranges, idle and never entitled, the arbiter in its
-- range, register numbers and pins taken to that chip's own.
use Rattle.std.specs.Prelude.{ℕ, ◌+◌, ◌*◌, ◌≤◌, ◌≡◌, true, false, List, [], ◌∷◌, ◌++◌, ltb, Some, None, Ok, Err}
use Rattle.words.specs.Choice.{when}
use Rattle.am9517.specs.Ranges.{valid}
use Rattle.am9517.specs.Refusals.{busy}
use Rattle.am9517.specs.Answers.{write_of, read_of, pins_of, reset_of, waits_of, grant_of}
use Rattle.am9517.specs.Answers.{Answer}
use Rattle.am9517.specs.declared.Outcome.{Outcome}
use Rattle.am9517_service.specs.Answers.{ran_of}
use Rattle.am9517_service.specs.Round.{nobody}
use Rattle.am9517_service.specs.RoundAnswers.{RoundGiven, rounded_of}
use Rattle.board.specs.declared.Board.{Board}
use Rattle.board.specs.declared.Chip.{Chip}
use Rattle.board.specs.declared.Chip.TheVariants.{First, Second}
use Rattle.board.specs.declared.BoardOutcome.{BoardOutcome}
use Rattle.board.specs.Chips.{number_of, other, chip, with_chip, channel_of}
use Rattle.board.specs.Bus.{turned_to}
use Rattle.board.specs.Answers.{board_write_of, board_read_of, board_pins_of, board_reset_of, board_waits_of, board_grant_of}
use Rattle.board.specs.Runs.{served_by, board_ran_of}
use Rattle.board.specs.RoundAnswers.{BoardRoundGiven, board_rounded_of}

-- the other chip is in its ranges and idle, and no channel of it is entitled; the arbiter is in its range
pub record Aside (b : Board) (which : Chip) : Type 0 where
  pub range : valid (chip b (other which)) ≡ true
  pub idle : busy (chip b (other which)) ≡ false
  pub quiet : nobody (chip b (other which)) ≡ true
  pub last : b.granted_last ≤ 1

-- a register number of a chip, on the board; one that no chip has is one that the board doesn't have
unfoldable pub register_of : Chip → ℕ → ℕ
register_of which r = when (ltb 15 r) (16 + r) (16 * number_of which + r)

-- levels of a chip's four pins, on the board; those of the other stay
unfoldable pub levels_of : Board → Chip → ℕ → ℕ
levels_of b First p = when (ltb 15 p) (256 + p) (16 * b.second.pins + p)
levels_of b Second p = when (ltb 15 p) (256 + p) (16 * p + b.first.pins)

-- what a chip did and said, on the board
abbrev pub outcome_on : Board → Chip → Outcome → BoardOutcome
outcome_on b which o = record { board = with_chip b which o.controller; answer = o.answer }

-- a grant, on the board: the channel is one of eight, and the chip is granted last; a refusal leaves the board
abbrev pub grant_said : Board → Chip → Outcome → Answer → BoardOutcome
grant_said b which o (Ok None) = record { board = b; answer = Ok None }
grant_said b which o (Ok (Some n)) = record { board = turned_to b which o.controller; answer = Ok (Some (channel_of which n)) }
grant_said b which o (Err r) = record { board = b; answer = Err r }

abbrev pub grant_on : Board → Chip → Outcome → BoardOutcome
grant_on b which o = grant_said b which o o.answer

-- services per channel, on the board: those of the chip at its four places, 0 at the other's
abbrev pub services_on : Chip → List ℕ → List ℕ
services_on First services = services ++ (0 ∷ 0 ∷ 0 ∷ 0 ∷ [])
services_on Second services = (0 ∷ 0 ∷ 0 ∷ 0 ∷ []) ++ services

-- a round, on the board
pub record RoundOn (b : Board) (which : Chip) (x : BoardRoundGiven) (own : RoundGiven) : Type 0 where
  pub leaves : chip x.rounded.board which ≡ own.rounded.controller
  pub stays : chip x.rounded.board (other which) ≡ chip b (other which)
  pub answer : x.rounded.answer ≡ own.rounded.answer
  pub services : x.rounded.services ≡ services_on which own.rounded.services
  pub totals : x.rounded.totals ≡ own.rounded.totals
  pub memory : x.memory ≡ own.memory
  pub room : x.room ≡ own.room

-- Each operation of the chip, for all inputs, refused ones too. (A sheet's writing and reading are the chip's own by their definition.)
pub record AloneOnBoard (b : Board) (which : Chip) : Type 0 where
  pub write : (r x : ℕ) → board_write_of b (register_of which r) x ≡ outcome_on b which (write_of (chip b which) r x)
  pub read : (r : ℕ) → board_read_of b (register_of which r) ≡ outcome_on b which (read_of (chip b which) r)
  pub pins : (p : ℕ) → board_pins_of b (levels_of b which p) ≡ outcome_on b which (pins_of (chip b which) p)
  pub waits : (n : ℕ) → board_waits_of b which n ≡ outcome_on b which (waits_of (chip b which) n)
  pub grant : board_grant_of b ≡ grant_on b which (grant_of (chip b which))
  pub run : (m d r : List ℕ) (limit eop : ℕ) → board_ran_of b m d r limit eop ≡ served_by b which (ran_of (chip b which) m d r limit eop)
  pub round : (m d r : List ℕ) (k : ℕ) → RoundOn b which (board_rounded_of b m d r k) (rounded_of (chip b which) m d r k)
  -- A reset is both chips' own.
  pub reset : (chip (board_reset_of b).board which ≡ (reset_of (chip b which)).controller) × ((board_reset_of b).answer ≡ (reset_of (chip b which)).answer)

abbrev pub Alone : Type 0
Alone = (b : Board) (which : Chip) → Aside b which → AloneOnBoard b which
