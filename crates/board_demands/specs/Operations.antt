-- The operations on the board with their arguments: what each is lent, what it leaves, and what it says. Each by the definition that its
-- contract cites.
use Rattle.std.specs.Prelude.{ℕ, List, [], ◌∷◌, ◌++◌}
use Rattle.am9517.specs.Answers.{refusal_number}
use Rattle.am9517_service.specs.declared.Counts.{Counts}
use Rattle.am9517_service.specs.Answers.{run_refusal_number}
use Rattle.am9517_service.specs.RoundAnswers.{round_refusal_number}
use Rattle.am9517_sheet.specs.declared.forms.Form.{Form}
use Rattle.am9517_sheet.specs.Sheet.{sheet_refusal_number}
use Rattle.board.specs.declared.Board.{Board}
use Rattle.board.specs.declared.Chip.{Chip}
use Rattle.board.specs.Answers.{board_write_of, board_read_of, board_pins_of, board_reset_of, board_waits_of, board_grant_of}
use Rattle.board.specs.Runs.{BoardGiven, board_ran_of}
use Rattle.board.specs.RoundAnswers.{BoardRoundGiven, board_rounded_of}
use Rattle.board.specs.Sheets.{board_sheet_write_of, board_sheet_read_of}

pub data BoardOp : Type 0 where
  -- register, byte
  Write : ℕ → ℕ → BoardOp
  -- register
  Read : ℕ → BoardOp
  -- levels of the eight lines
  Pins : ℕ → BoardOp
  Reset : BoardOp
  -- chip, wait states
  Waits : Chip → ℕ → BoardOp
  Grant : BoardOp
  -- memory, device bytes, room, limit, EOP
  Run : List ℕ → List ℕ → List ℕ → ℕ → ℕ → BoardOp
  -- memory, device bytes, room, k
  Round : List ℕ → List ℕ → List ℕ → ℕ → BoardOp
  -- form, chip, target slice
  SheetWriting : Form → Chip → List ℕ → BoardOp
  -- form, chip, bytes
  SheetReading : Form → Chip → List ℕ → BoardOp

-- All that an operation may change; a part that it isn't lent is empty.
pub record BoardScene : Type 0 where
  pub board : Board
  pub memory : List ℕ
  pub room : List ℕ
  pub slice : List ℕ

abbrev pub scene : Board → List ℕ → List ℕ → List ℕ → BoardScene
scene b m r out = record { board = b; memory = m; room = r; slice = out }

abbrev pub before : Board → BoardOp → BoardScene
before b (Write r x) = scene b [] [] []
before b (Read r) = scene b [] [] []
before b (Pins p) = scene b [] [] []
before b Reset = scene b [] [] []
before b (Waits which n) = scene b [] [] []
before b Grant = scene b [] [] []
before b (Run m d r limit eop) = scene b m r []
before b (Round m d r k) = scene b m r []
before b (SheetWriting form which out) = scene b [] [] out
before b (SheetReading form which bytes) = scene b [] [] []

abbrev pub ran_scene : BoardGiven → BoardScene
ran_scene g = scene g.ran.board g.memory g.room []

abbrev pub round_scene : BoardRoundGiven → BoardScene
round_scene g = scene g.rounded.board g.memory g.room []

abbrev pub after : Board → BoardOp → BoardScene
after b (Write r x) = scene (board_write_of b r x).board [] [] []
after b (Read r) = scene (board_read_of b r).board [] [] []
after b (Pins p) = scene (board_pins_of b p).board [] [] []
after b Reset = scene (board_reset_of b).board [] [] []
after b (Waits which n) = scene (board_waits_of b which n).board [] [] []
after b Grant = scene (board_grant_of b).board [] [] []
after b (Run m d r limit eop) = ran_scene (board_ran_of b m d r limit eop)
after b (Round m d r k) = round_scene (board_rounded_of b m d r k)
after b (SheetWriting form which out) = scene b [] [] (board_sheet_write_of form b which out).bytes
after b (SheetReading form which bytes) = scene (board_sheet_read_of form b which bytes).board [] [] []

-- the next board
abbrev pub next : Board → BoardOp → Board
next b op = (after b op).board

-- the board after these operations, called one after the other
abbrev pub after_all : Board → List BoardOp → Board
after_all b [] = b
after_all b (op ∷ ops) = after_all (next b op) ops

-- the refusal number that the answer says, 0 for none
abbrev pub said : Board → BoardOp → ℕ
said b (Write r x) = refusal_number (board_write_of b r x).answer
said b (Read r) = refusal_number (board_read_of b r).answer
said b (Pins p) = refusal_number (board_pins_of b p).answer
said b Reset = refusal_number (board_reset_of b).answer
said b (Waits which n) = refusal_number (board_waits_of b which n).answer
said b Grant = refusal_number (board_grant_of b).answer
said b (Run m d r limit eop) = run_refusal_number (board_ran_of b m d r limit eop).ran.answer
said b (Round m d r k) = round_refusal_number (board_rounded_of b m d r k).rounded.answer
said b (SheetWriting form which out) = sheet_refusal_number (board_sheet_write_of form b which out).answer
said b (SheetReading form which bytes) = sheet_refusal_number (board_sheet_read_of form b which bytes).answer

abbrev pub listed : Counts → List ℕ
listed n = n.transfers ∷ n.used ∷ n.written ∷ n.states ∷ []

-- the counts that stand beside the answer
abbrev pub counts : Board → BoardOp → List ℕ
counts b (Write r x) = []
counts b (Read r) = []
counts b (Pins p) = []
counts b Reset = []
counts b (Waits which n) = []
counts b Grant = []
counts b (Run m d r limit eop) = listed (board_ran_of b m d r limit eop).ran.counts
counts b (Round m d r k) = (board_rounded_of b m d r k).rounded.services ++ listed (board_rounded_of b m d r k).rounded.totals
counts b (SheetWriting form which out) = []
counts b (SheetReading form which bytes) = []
