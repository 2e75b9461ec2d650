-- Document 02, A2: "What both editions share is shown once." How little differs: one state, as an Am9517A's and as an Intel chip's, does the same in
-- every operation but a write of register E, a run that meets external EOP, and the writing of a sheet.
use Rattle.std.specs.Prelude.{ℕ, ◌≤◌, ◌<◌, ◌≡◌, true, List, length, None, Ok, Err}
use Rattle.words.specs.Bits.{with_bit}
use Rattle.am9517.specs.Editions.{number_of}
use Rattle.am9517.specs.Fields.{put, Edition, Mask, Tc}
use Rattle.am9517.specs.Ranges.{valid}
use Rattle.am9517.specs.Answers.{write_of, read_of, pins_of, reset_of, waits_of, grant_of}
use Rattle.am9517.specs.Answers.{Answer}
use Rattle.am9517.specs.declared.Controller.{Controller}
use Rattle.am9517.specs.declared.Edition.TheVariants.{Am9517A, Intel8237A}
use Rattle.am9517_service.specs.declared.Counts.{Counts}
use Rattle.am9517_service.specs.Round.{RoundAnswer}
use Rattle.am9517_service.specs.Answers.{RunAnswer}
use Rattle.am9517_service.specs.Ends.{counting}
use Rattle.am9517_service.specs.Answers.{ran_of}
use Rattle.am9517_service.specs.RoundAnswers.{rounded_of}
use Rattle.am9517_sheet.specs.Sheet.{SheetAnswer}
use Rattle.am9517_sheet.specs.declared.forms.Form.{Form}
use Rattle.am9517_sheet.specs.declared.forms.Form.TheVariants.{One, Two}
use Rattle.am9517_sheet.specs.Sheet.{stored, sheet_write_of, sheet_read_of}
use Rattle.am9517_sheet.specs.Convert.{convert_of}
use Rattle.demands.specs.Operations.{Op, Write, Read, Pins, Reset, Waits, Grant, Run, Round, SheetWriting, SheetReading, Converting, Scene, scene, after, next}
use Rattle.am9517.specs.Refusals.{numbered}

-- the state as an Am9517A's, and as an Intel chip's
abbrev pub ours : Controller → Controller
ours s = put s Edition (number_of Am9517A)

abbrev pub intel : Controller → Controller
intel s = put s Edition (number_of Intel8237A)

-- All that an operation says: its answer with the value, the reason or the number, and the counts beside it.
pub data Reply : Type 0 where
  Told : Answer → Reply
  RunTold : RunAnswer → Counts → Reply
  RoundTold : RoundAnswer → List ℕ → Counts → Reply
  SheetTold : SheetAnswer → Reply

abbrev pub reply : Controller → Op → Reply
reply s (Write r b) = Told (write_of s r b).answer
reply s (Read r) = Told (read_of s r).answer
reply s (Pins p) = Told (pins_of s p).answer
reply s Reset = Told (reset_of s).answer
reply s (Waits n) = Told (waits_of s n).answer
reply s Grant = Told (grant_of s).answer
reply s (Run m d r limit eop) = let g = (ran_of s m d r limit eop).ran in RunTold g.answer g.counts
reply s (Round m d r k) = let g = (rounded_of s m d r k).rounded in RoundTold g.answer g.services g.totals
reply s (SheetWriting form out) = SheetTold (sheet_write_of form s out).answer
reply s (SheetReading form bytes) = SheetTold (sheet_read_of form s bytes).answer
reply s (Converting to source out) = SheetTold (convert_of to source out).answer

-- the transfer of this call that meets external EOP is made
abbrev pub MeetsEop : Controller → List ℕ → List ℕ → List ℕ → ℕ → ℕ → Type 0
MeetsEop s m d r limit eop = (0 < eop) × (eop ≤ (ran_of s m d r limit eop).ran.counts.transfers)

-- every operation but those three
abbrev pub Shared : Controller → Op → Type 0
Shared s (Write r b) = ¬ (r ≡ 0xE)
Shared s (Read r) = Unit {0}
Shared s (Pins p) = Unit {0}
Shared s Reset = Unit {0}
Shared s (Waits n) = Unit {0}
Shared s Grant = Unit {0}
Shared s (Run m d r limit eop) = ¬ MeetsEop (ours s) m d r limit eop
Shared s (Round m d r k) = Unit {0}
Shared s (SheetWriting form out) = ⊥
Shared s (SheetReading form bytes) = Unit {0}
Shared s (Converting to source out) = Unit {0}

-- what an operation leaves, its state taken as an Intel chip's
abbrev pub as_intel : Scene → Scene
as_intel x = scene (intel x.controller) x.memory x.room x.slice

pub record SameInBoth (s : Controller) (op : Op) : Type 0 where
  -- The answer is the same, and all that it gives;
  pub says : reply (intel s) op ≡ reply (ours s) op
  -- so are memory, room and slice, and the states differ in the edition alone.
  pub leaves : as_intel (after (intel s) op) ≡ as_intel (after (ours s) op)

-- what is left, with the TC bit of channel n set
abbrev pub with_tc : ℕ → Scene → Scene
with_tc n x = scene (put x.controller Tc (with_bit x.controller.tc n true)) x.memory x.room x.slice

pub record EditionsDiffer : Type 0 where
  pub shared : (s : Controller) (op : Op) → Shared s op → SameInBoth s op
  -- "chosen when a state is made and kept in it through reset": nothing changes it but the reading of a sheet, which gives the sheet's own, 0 in form 1
  -- (Sheets `read_edition`).
  pub kept : (s : Controller) (op : Op) → ((form : Form) (bytes : List ℕ) → ¬ (op ≡ SheetReading form bytes)) → (next s op).edition ≡ s.edition
  -- "There, a write of register E clears all four mask bits", whatever the byte, of an idle state in its ranges; ours refuses it.
  pub register_e : (s : Controller) (b : ℕ) → valid (intel s) ≡ true → s.in_service ≡ 0
      → (write_of (intel s) 0xE b ≡ record { controller = put (intel s) Mask 0; answer = Ok None })
      × (write_of (ours s) 0xE b ≡ record { controller = ours s; answer = Err (numbered 4) })
  -- ".. and external EOP sets the TC bit of the channel whose count is being run": a run that meets it says the same of both, and leaves the
  -- same but for the edition and that bit, which is set.
  pub met_eop : (s : Controller) (m d r : List ℕ) (limit eop : ℕ) → MeetsEop (ours s) m d r limit eop
      → (reply (intel s) (Run m d r limit eop) ≡ reply (ours s) (Run m d r limit eop))
      × (after (intel s) (Run m d r limit eop) ≡ with_tc (counting s) (as_intel (after (ours s) (Run m d r limit eop))))
  -- "Form 1 has no place for the edition: writing such a state is refusal 15", where ours, without wait states, is written;
  pub sheets : (s : Controller) (out : List ℕ) → valid (intel s) ≡ true → s.waits ≡ 0 → 56 ≤ length out
      → (sheet_write_of One (intel s) out ≡ stored (Err (numbered 15)) out) × ((sheet_write_of One (ours s) out).answer ≡ Ok tt)
  -- in form 2 the answer is the same for both, whatever the state and the slice.
  pub sheets2 : (s : Controller) (out : List ℕ) → reply (intel s) (SheetWriting Two out) ≡ reply (ours s) (SheetWriting Two out)
