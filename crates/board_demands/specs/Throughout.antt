-- A controller alone on the board, further: the arbiter, resets, and lists of operations.
use Rattle.std.specs.Prelude.{ℕ, ◌+◌, ◌≡◌, List, [], ◌∷◌, eqb, Some, None, Ok, Err}
use Rattle.words.specs.Choice.{when}
use Rattle.am9517.specs.Answers.{reset_of}
use Rattle.am9517.specs.Answers.{Answer}
use Rattle.am9517_service.specs.RoundAnswers.{RoundGiven, rounded_of}
use Rattle.board.specs.declared.Board.{Board}
use Rattle.board.specs.declared.Chip.{Chip}
use Rattle.board.specs.declared.Chip.TheVariants.{Second}
use Rattle.board.specs.declared.BoardOutcome.{BoardOutcome}
use Rattle.board.specs.Chips.{number_of, chip}
use Rattle.board.specs.Answers.{board_reset_of}
use Rattle.board.specs.RoundAnswers.{BoardRoundGiven, board_rounded_of}
use Rattle.demands.specs.Operations as without
use Rattle.board_demands.specs.Operations.{Write, Read, Pins, Reset, Waits, Grant, Run, Round, SheetWriting, SheetReading, next}
use Rattle.board_demands.specs.Alone.{Aside, register_of, levels_of, RoundOn, AloneOnBoard}

-- a reset, on the board: each chip's own, "the first controller being first after reset"; a refusal leaves the board
abbrev pub reset_on : Board → Answer → BoardOutcome
reset_on b (Ok None) =
    record { board = record { first = (reset_of b.first).controller; second = (reset_of b.second).controller; granted_last = number_of Second }; answer = Ok None }
reset_on b (Ok (Some n)) = record { board = b; answer = Ok (Some n) }
reset_on b (Err r) = record { board = b; answer = Err r }

-- services begun: the sum over the channels
abbrev pub begun : List ℕ → ℕ
begun [] = 0
begun (n ∷ ns) = n + begun ns

-- a round, on the board, and the arbiter behind it
pub record RoundOnBus (b : Board) (which : Chip) (x : BoardRoundGiven) (own : RoundGiven) : Type 0 where
  pub round : RoundOn b which x own
  -- granted last is who was before, if no service was begun; else this chip
  pub last : x.rounded.board.granted_last ≡ when (eqb (begun own.rounded.services) 0) b.granted_last (number_of which)

-- Beside what AloneOnBoard says:
pub record AloneOnBus (b : Board) (which : Chip) : Type 0 where
  pub round : (m d r : List ℕ) (k : ℕ) → RoundOnBus b which (board_rounded_of b m d r k) (rounded_of (chip b which) m d r k)
  -- A reset is both chips' own, and the arbiter's.
  pub reset : board_reset_of b ≡ reset_on b (reset_of (chip b which)).answer

abbrev pub AloneAndArbiter : Type 0
AloneAndArbiter = (b : Board) (which : Chip) → Aside b which → AloneOnBus b which

-- the board behind an operation of the chip, called on it; a conversion of sheets is no chip's
abbrev pub next_on : Board → Chip → without.Op → Board
next_on b which (without.Write r x) = next b (Write (register_of which r) x)
next_on b which (without.Read r) = next b (Read (register_of which r))
next_on b which (without.Pins p) = next b (Pins (levels_of b which p))
next_on b which without.Reset = next b Reset
next_on b which (without.Waits n) = next b (Waits which n)
next_on b which without.Grant = next b Grant
next_on b which (without.Run m d r limit eop) = next b (Run m d r limit eop)
next_on b which (without.Round m d r k) = next b (Round m d r k)
next_on b which (without.SheetWriting form out) = next b (SheetWriting form which out)
next_on b which (without.SheetReading form bytes) = next b (SheetReading form which bytes)
next_on b which (without.Converting to source out) = b

-- the board behind operations of the chip, called one after the other
abbrev pub behind : Board → Chip → List without.Op → Board
behind b which [] = b
behind b which (op ∷ ops) = behind (next_on b which op) which ops

-- Behind such operations, accepted or refused:
pub record AloneBehind (b : Board) (which : Chip) (ops : List without.Op) : Type 0 where
  -- the chip is what they make of it without the board;
  pub leaves : chip (behind b which ops) which ≡ without.after_all (chip b which) ops
  -- the other is still aside,
  pub aside : Aside (behind b which ops) which
  -- so the next operation, too, does what it does without the board.
  pub next : AloneOnBoard (behind b which ops) which

abbrev pub AloneThroughout : Type 0
AloneThroughout = (b : Board) (which : Chip) → Aside b which → (ops : List without.Op) → AloneBehind b which ops
