-- The public operations with their arguments: what each is lent, what it leaves, and what it says. Each by the definition that its contract cites.
use Rattle.std.specs.Prelude.{ℕ, List, [], ◌∷◌, ◌++◌}
use Rattle.am9517.specs.Answers.{refusal_number, write_of, read_of, pins_of, reset_of, waits_of, grant_of}
use Rattle.am9517.specs.declared.Controller.{Controller}
use Rattle.am9517_service.specs.declared.Counts.{Counts}
use Rattle.am9517_service.specs.Answers.{Given, run_refusal_number, ran_of}
use Rattle.am9517_service.specs.RoundAnswers.{RoundGiven, round_refusal_number, rounded_of}
use Rattle.am9517_sheet.specs.declared.forms.Form.{Form}
use Rattle.am9517_sheet.specs.Sheet.{sheet_refusal_number, sheet_write_of, sheet_read_of}
use Rattle.am9517_sheet.specs.Convert.{convert_of}

pub data Op : Type 0 where
  -- register, byte
  Write : ℕ → ℕ → Op
  -- register
  Read : ℕ → Op
  -- levels
  Pins : ℕ → Op
  Reset : Op
  -- wait states
  Waits : ℕ → Op
  Grant : Op
  -- memory, device bytes, room, limit, EOP
  Run : List ℕ → List ℕ → List ℕ → ℕ → ℕ → Op
  -- memory, device bytes, room, k
  Round : List ℕ → List ℕ → List ℕ → ℕ → Op
  -- form, target slice
  SheetWriting : Form → List ℕ → Op
  -- form, bytes
  SheetReading : Form → List ℕ → Op
  -- to this form, source, target slice
  Converting : Form → List ℕ → List ℕ → Op

-- All that an operation may change; a part that it isn't lent is empty.
pub record Scene : Type 0 where
  pub controller : Controller
  pub memory : List ℕ
  pub room : List ℕ
  pub slice : List ℕ

abbrev pub scene : Controller → List ℕ → List ℕ → List ℕ → Scene
scene s m r out = record { controller = s; memory = m; room = r; slice = out }

abbrev pub before : Controller → Op → Scene
before s (Write r b) = scene s [] [] []
before s (Read r) = scene s [] [] []
before s (Pins p) = scene s [] [] []
before s Reset = scene s [] [] []
before s (Waits n) = scene s [] [] []
before s Grant = scene s [] [] []
before s (Run m d r limit eop) = scene s m r []
before s (Round m d r k) = scene s m r []
before s (SheetWriting form out) = scene s [] [] out
before s (SheetReading form bytes) = scene s [] [] []
before s (Converting to source out) = scene s [] [] out

abbrev pub ran_scene : Given → Scene
ran_scene g = scene g.ran.controller g.memory g.room []

abbrev pub round_scene : RoundGiven → Scene
round_scene g = scene g.rounded.controller g.memory g.room []

abbrev pub after : Controller → Op → Scene
after s (Write r b) = scene (write_of s r b).controller [] [] []
after s (Read r) = scene (read_of s r).controller [] [] []
after s (Pins p) = scene (pins_of s p).controller [] [] []
after s Reset = scene (reset_of s).controller [] [] []
after s (Waits n) = scene (waits_of s n).controller [] [] []
after s Grant = scene (grant_of s).controller [] [] []
after s (Run m d r limit eop) = ran_scene (ran_of s m d r limit eop)
after s (Round m d r k) = round_scene (rounded_of s m d r k)
after s (SheetWriting form out) = scene s [] [] (sheet_write_of form s out).bytes
after s (SheetReading form bytes) = scene (sheet_read_of form s bytes).controller [] [] []
after s (Converting to source out) = scene s [] [] (convert_of to source out).bytes

-- the next state
abbrev pub next : Controller → Op → Controller
next s op = (after s op).controller

-- the state after these operations, called one after the other
abbrev pub after_all : Controller → List Op → Controller
after_all s [] = s
after_all s (op ∷ ops) = after_all (next s op) ops

-- the refusal number that the answer says, 0 for none
abbrev pub said : Controller → Op → ℕ
said s (Write r b) = refusal_number (write_of s r b).answer
said s (Read r) = refusal_number (read_of s r).answer
said s (Pins p) = refusal_number (pins_of s p).answer
said s Reset = refusal_number (reset_of s).answer
said s (Waits n) = refusal_number (waits_of s n).answer
said s Grant = refusal_number (grant_of s).answer
said s (Run m d r limit eop) = run_refusal_number (ran_of s m d r limit eop).ran.answer
said s (Round m d r k) = round_refusal_number (rounded_of s m d r k).rounded.answer
said s (SheetWriting form out) = sheet_refusal_number (sheet_write_of form s out).answer
said s (SheetReading form bytes) = sheet_refusal_number (sheet_read_of form s bytes).answer
said s (Converting to source out) = sheet_refusal_number (convert_of to source out).answer

abbrev pub listed : Counts → List ℕ
listed n = n.transfers ∷ n.used ∷ n.written ∷ n.states ∷ []

-- the counts that stand beside the answer
abbrev pub counts : Controller → Op → List ℕ
counts s (Write r b) = []
counts s (Read r) = []
counts s (Pins p) = []
counts s Reset = []
counts s (Waits n) = []
counts s Grant = []
counts s (Run m d r limit eop) = listed (ran_of s m d r limit eop).ran.counts
counts s (Round m d r k) = (rounded_of s m d r k).rounded.services ++ listed (rounded_of s m d r k).rounded.totals
counts s (SheetWriting form out) = []
counts s (SheetReading form bytes) = []
counts s (Converting to source out) = []
