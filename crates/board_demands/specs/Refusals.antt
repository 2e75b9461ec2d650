-- "Demands 1 and 2 read for the pair": demand 1. A refusal says its number, exactly when its ground is the first that holds, and changes nothing.
use Rattle.std.specs.Prelude.{ℕ, ◌≡◌, List, ◌↔◌, length}
use Rattle.words.specs.Grounds.{Ground}
use Rattle.am9517_sheet.specs.Sheet.{sheet_write_grounds, sheet_read_grounds}
use Rattle.board.specs.declared.Board.{Board}
use Rattle.board.specs.Chips.{chip}
use Rattle.board.specs.Refusals.{board_write_grounds, board_read_grounds, board_pins_grounds, board_reset_grounds, board_waits_grounds, board_grant_grounds, board_run_grounds, board_round_grounds}
use Rattle.demands.specs.Lists.{All}
use Rattle.demands.specs.Refusals.{First}
use Rattle.board_demands.specs.Operations.{BoardOp, Write, Read, Pins, Reset, Waits, Grant, Run, Round, SheetWriting, SheetReading, before, after, said, counts}

-- what refuses each operation: the very lists of crates/board; sheets by the chip's own
abbrev pub grounds : Board → BoardOp → List (Ground ℕ)
grounds b (Write r x) = board_write_grounds b r x
grounds b (Read r) = board_read_grounds b r
grounds b (Pins p) = board_pins_grounds b p
grounds b Reset = board_reset_grounds b
grounds b (Waits which n) = board_waits_grounds b which
grounds b Grant = board_grant_grounds b
grounds b (Run m d r limit eop) = board_run_grounds b m
grounds b (Round m d r k) = board_round_grounds b m k
grounds b (SheetWriting form which out) = sheet_write_grounds form (chip b which) (length out)
grounds b (SheetReading form which bytes) = sheet_read_grounds form bytes

pub record BoardRefuses (b : Board) (op : BoardOp) : Type 0 where
  -- The answer says a number exactly when its ground is the first that holds;
  pub exactly : (n : ℕ) → ¬ (n ≡ 0) → (said b op ≡ n) ↔ First n (grounds b op)
  -- a refusal leaves both chips, the arbiter, memory, room and target slice as they were;
  pub stays : ¬ (said b op ≡ 0) → after b op ≡ before b op
  -- and returns its number only: all counts are 0.
  pub only : ¬ (said b op ≡ 0) → All (λ (n : ℕ). n ≡ 0) (counts b op)

abbrev pub BoardDemand1 : Type 0
BoardDemand1 = (b : Board) (op : BoardOp) → BoardRefuses b op
