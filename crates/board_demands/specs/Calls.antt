-- Demand 1 of the board's calls for C: a refused call says the number of the first ground, and all that was lent stays.
use Rattle.std.specs.Prelude.{ℕ, ◌≡◌, not, List, [], ◌∷◌, ◌++◌, ◌↔◌, length}
use Rattle.words.specs.Grounds.{Ground, ◌if◌}
use Rattle.am9517_sheet.specs.declared.forms.Form.{Form}
use Rattle.am9517_sheet.specs.Sheet.{sheet_write_grounds, sheet_read_grounds}
use Rattle.board.specs.declared.Board.{Board}
use Rattle.board.specs.Chips.{chip}
use Rattle.board.specs.Ranges.{pair_valid, serves}
use Rattle.board.specs.Refusals.{board_write_grounds, board_read_grounds, board_pins_grounds, board_reset_grounds, board_grant_grounds, board_run_grounds, board_round_grounds}
use Rattle.board.specs.Answers.{board_write_of, board_read_of, board_pins_of, board_reset_of, board_grant_of}
use Rattle.board.specs.Runs.{board_ran_of}
use Rattle.board.specs.RoundAnswers.{board_rounded_of}
use Rattle.c_told.specs.declared.Told.{Told}
use Rattle.c_told.specs.Numbers.{told, Saved}
use Rattle.c_board.specs.Host.{look_grounds, look_of, entitled_of, Left, call_of, names_none, chip_of, waits_call_of, save_call_of, load_call_of, RunLeft, run_call_of, RoundLeft, round_call_of}
use Rattle.demands.specs.Lists.{All}
use Rattle.demands.specs.Refusals.{First}
use Rattle.board_demands.specs.Operations.{BoardScene, scene}

-- The calls beside the board that they are lent; each as its function in crates/c_board/src/lib.rt. (am9517_board_version and
-- am9517_board_fresh are lent none and refuse nothing.)
pub data BoardCall : Type 0 where
  CCheck CReset CGrant CEntitled : BoardCall
  -- register, byte
  CWrite : ℕ → ℕ → BoardCall
  -- register
  CRead : ℕ → BoardCall
  -- levels of the eight lines
  CPins : ℕ → BoardCall
  -- which chip, wait states
  CWaits : ℕ → ℕ → BoardCall
  -- memory, device bytes, room, limit, EOP
  CRun : List ℕ → List ℕ → List ℕ → ℕ → ℕ → BoardCall
  -- memory, device bytes, room, k
  CRound : List ℕ → List ℕ → List ℕ → ℕ → BoardCall
  -- form, which chip, and the bytes into which the sheet is written, or from which it is read: am9517_board_save and am9517_board_load for
  -- form 1, am9517_board_save2 and am9517_board_load2 for form 2
  CSave CLoad : Form → ℕ → List ℕ → BoardCall

-- what a call says, the refusal's number and the numbers beside it, and what it leaves of the board and of the bytes that it was lent
pub record BoardSpoken : Type 0 where
  pub refusal : ℕ
  pub beside : List ℕ
  pub leaves : BoardScene

-- a look changes nothing: the board is lent by `&`
abbrev pub looked : Board → Told → BoardSpoken
looked b t = record { refusal = t.refusal; beside = t.value ∷ []; leaves = scene b [] [] [] }

abbrev pub left_by : Left → BoardSpoken
left_by l = looked l.board l.said

abbrev pub ran_by : RunLeft → BoardSpoken
ran_by l =
    let t = l.said in
    record {
      refusal = t.refusal;
      beside = t.reason ∷ t.transfers ∷ t.used ∷ t.written ∷ t.states ∷ [];
      leaves = scene l.board l.memory l.room [];
    }

abbrev pub round_by : RoundLeft → BoardSpoken
round_by l =
    let t = l.said in
    record {
      refusal = t.refusal;
      beside = t.reason ∷ (t.services ++ (t.transfers ∷ t.used ∷ t.written ∷ t.states ∷ []));
      leaves = scene l.board l.memory l.room [];
    }

-- a save leaves the board, which is lent by `&`
abbrev pub saved_by : Board → Saved → BoardSpoken
saved_by b w = record { refusal = w.refusal; beside = []; leaves = scene b [] [] w.sheet }

-- each by the definition that its contract cites, on the board b
abbrev pub does : Board → BoardCall → BoardSpoken
does b CCheck = looked b (told (look_of b 0).refusal 0)
does b CEntitled = looked b (look_of b (entitled_of b))
does b (CWrite r x) = left_by (call_of (board_write_of b r x))
does b (CRead r) = left_by (call_of (board_read_of b r))
does b (CPins p) = left_by (call_of (board_pins_of b p))
does b CReset = left_by (call_of (board_reset_of b))
does b (CWaits which n) = left_by (waits_call_of b which n)
does b CGrant = left_by (call_of (board_grant_of b))
does b (CRun m d r limit eop) = ran_by (run_call_of (board_ran_of b m d r limit eop))
does b (CRound m d r k) = round_by (round_call_of (board_rounded_of b m d r k))
does b (CSave form which bytes) = saved_by b (save_call_of form b which bytes)
does b (CLoad form which bytes) = left_by (load_call_of form b which bytes)

-- what a call is lent to change; a part that it isn't lent is empty
abbrev pub lent_to : Board → BoardCall → BoardScene
lent_to b CCheck = scene b [] [] []
lent_to b CEntitled = scene b [] [] []
lent_to b (CWrite r x) = scene b [] [] []
lent_to b (CRead r) = scene b [] [] []
lent_to b (CPins p) = scene b [] [] []
lent_to b CReset = scene b [] [] []
lent_to b (CWaits which n) = scene b [] [] []
lent_to b CGrant = scene b [] [] []
lent_to b (CRun m d r limit eop) = scene b m r []
lent_to b (CRound m d r k) = scene b m r []
lent_to b (CSave form which bytes) = scene b [] [] bytes
lent_to b (CLoad form which bytes) = scene b [] [] []

-- what refuses a call: a look by 1 alone; a number over 1, which names no chip, by 2, of wait states between 1 and 3, of sheets before all
-- else; and the operation's own grounds
abbrev pub call_grounds : Board → BoardCall → List (Ground ℕ)
call_grounds b CCheck = look_grounds b
call_grounds b CEntitled = look_grounds b
call_grounds b (CWrite r x) = board_write_grounds b r x
call_grounds b (CRead r) = board_read_grounds b r
call_grounds b (CPins p) = board_pins_grounds b p
call_grounds b CReset = board_reset_grounds b
call_grounds b (CWaits which n) = 1 if not (pair_valid b) ∷ 2 if names_none which ∷ 3 if serves b ∷ []
call_grounds b CGrant = board_grant_grounds b
call_grounds b (CRun m d r limit eop) = board_run_grounds b m
call_grounds b (CRound m d r k) = board_round_grounds b m k
call_grounds b (CSave form which bytes) = 2 if names_none which ∷ sheet_write_grounds form (chip b (chip_of which)) (length bytes)
call_grounds b (CLoad form which bytes) = 2 if names_none which ∷ sheet_read_grounds form bytes

pub record BoardCallRefuses (s : BoardSpoken) (grounds : List (Ground ℕ)) (was : BoardScene) : Type 0 where
  -- The call says a number exactly when its ground is the first that holds;
  pub exactly : (n : ℕ) → ¬ (n ≡ 0) → (s.refusal ≡ n) ↔ First n grounds
  -- a refusal leaves board, memory, room and sheet as they were;
  pub stays : ¬ (s.refusal ≡ 0) → s.leaves ≡ was
  -- and says its number only: all beside it is 0.
  pub only : ¬ (s.refusal ≡ 0) → All (λ (n : ℕ). n ≡ 0) s.beside

abbrev pub BoardDemand1OfCalls : Type 0
BoardDemand1OfCalls = (b : Board) (c : BoardCall) → BoardCallRefuses (does b c) (call_grounds b c) (lent_to b c)
