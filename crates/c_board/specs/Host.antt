-- "For the host, the board program keeps both controllers in one place and changes them there; this shall do exactly what the plain calls do."
-- What each call gives, for all inputs: the board that it leaves, and what it says, out of the plain call's definition in crates/board. The
-- host owns the board and lends it to each call. A refusal leaves it as it was.
use Rattle.std.specs.Prelude.{ℕ, ◌+◌, ◌*◌, Bool, not, List, [], ◌∷◌, eqb, ltb}
use Rattle.words.specs.Choice.{when, ◌and◌}
use Rattle.words.specs.Grounds.{Ground, ◌if◌}
use Rattle.am9517.specs.Fields.{put, Tc, FlipFlop}
use Rattle.am9517.specs.Refusals.{refusal}
use Rattle.am9517.specs.Serving.{entitled, set_of}
use Rattle.am9517_service.specs.RoundAnswers.{round_refusal_number}
use Rattle.am9517_sheet.specs.declared.forms.Form.{Form}
use Rattle.am9517_sheet.specs.Sheet.{sheet_refusal_number}
use Rattle.board.specs.declared.Board.{Board}
use Rattle.board.specs.declared.Chip.{Chip}
use Rattle.board.specs.declared.Chip.TheVariants.{First, Second}
use Rattle.board.specs.declared.BoardOutcome.{BoardOutcome}
use Rattle.board.specs.declared.BoardRounded.{BoardRounded}
use Rattle.board.specs.declared.BoardSheetRead.{BoardSheetRead}
use Rattle.board.specs.Ranges.{pair_valid}
use Rattle.board.specs.Answers.{board_waits_of}
use Rattle.board.specs.Runs.{BoardGiven}
use Rattle.board.specs.RoundAnswers.{BoardRoundGiven}
use Rattle.board.specs.Sheets.{board_sheet_write_of, board_sheet_read_of}
use Rattle.c_told.specs.declared.Told.{Told}
use Rattle.c_told.specs.declared.RunTold.{RunTold}
use Rattle.c_board.specs.declared.RoundTold.{RoundTold}
use Rattle.c_told.specs.Numbers.{told, told_of, run_told_of, round_reason_of, Saved, saved, save_of}

-- a look is refused by 1, where the pair breaks a range, and shows nothing then
abbrev pub look_grounds : Board → List (Ground ℕ)
look_grounds b = 1 if not (pair_valid b) ∷ []

abbrev pub look_of : Board → ℕ → Told
look_of b shown = let n = refusal (look_grounds b) in told n (when (eqb n 0) shown 0)

-- the entitled channels of both as eight bits: bit n of the first is channel n, of the second channel 4 + n
abbrev pub entitled_of : Board → ℕ
entitled_of b = set_of (entitled b.first) + 16 * set_of (entitled b.second)

-- The board after a call, and what the call says.
pub record Left : Type 0 where
  pub board : Board
  pub said : Told

abbrev pub left : Board → Told → Left
left b t = record { board = b; said = t }

-- an operation on the board
abbrev pub call_of : BoardOutcome → Left
call_of o = left o.board (told_of o.answer)

-- the board with these TC bits and flip-flops, of the first and of the second: a read leaves all else as it was
abbrev pub looked : Board → ℕ → ℕ → ℕ → ℕ → Board
looked b t f u g =
    record { first = put (put b.first Tc t) FlipFlop f; second = put (put b.second Tc u) FlipFlop g; granted_last = b.granted_last }

-- which of the two: 0 the first, 1 the second; a number over 1 names none, and is refused by 2
abbrev pub names_none : ℕ → Bool
names_none n = ltb 1 n

unfoldable pub chip_of : ℕ → Chip
chip_of n = when (eqb n 0) First Second

-- of the call for wait states 2 comes between the board's own 1 and 3
unfoldable pub waits_call_of : Board → ℕ → ℕ → Left
waits_call_of b which n = when (pair_valid b and names_none which) (left b (told 2 0)) (call_of (board_waits_of b (chip_of which) n))

-- of a sheet it comes before all that the chip and the bytes are refused by
unfoldable pub save_call_of : Form → Board → ℕ → List ℕ → Saved
save_call_of form b which out = when (names_none which) (saved 2 out) (save_of (board_sheet_write_of form b (chip_of which) out))

abbrev pub load_of : BoardSheetRead → Left
load_of x = left x.board (told (sheet_refusal_number x.answer) 0)

unfoldable pub load_call_of : Form → Board → ℕ → List ℕ → Left
load_call_of form b which bytes = when (names_none which) (left b (told 2 0)) (load_of (board_sheet_read_of form b (chip_of which) bytes))

-- A run, and the memory and room that it leaves.
pub record RunLeft : Type 0 where
  pub board : Board
  pub said : RunTold
  pub memory : List ℕ
  pub room : List ℕ

abbrev pub run_left : Board → RunTold → List ℕ → List ℕ → RunLeft
run_left b t m r = record { board = b; said = t; memory = m; room = r }

abbrev pub run_call_of : BoardGiven → RunLeft
run_call_of g = run_left g.ran.board (run_told_of g.ran.answer g.ran.counts) g.memory g.room

-- A round likewise: services begun per channel of the eight.
abbrev pub round_told_of : BoardRounded → RoundTold
round_told_of r =
    record {
      refusal = round_refusal_number r.answer;
      reason = round_reason_of r.answer;
      services = r.services;
      transfers = r.totals.transfers;
      used = r.totals.used;
      written = r.totals.written;
      states = r.totals.states;
    }

pub record RoundLeft : Type 0 where
  pub board : Board
  pub said : RoundTold
  pub memory : List ℕ
  pub room : List ℕ

abbrev pub round_left : Board → RoundTold → List ℕ → List ℕ → RoundLeft
round_left b t m r = record { board = b; said = t; memory = m; room = r }

abbrev pub round_call_of : BoardRoundGiven → RoundLeft
round_call_of g = round_left g.rounded.board (round_told_of g.rounded) g.memory g.room
