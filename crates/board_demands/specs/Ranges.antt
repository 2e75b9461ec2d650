-- Ranges are kept: refusal 1 meets only a pair that was put together out of its ranges, or one that a sheet put both in service.
use Rattle.std.specs.Prelude.{ℕ, ◌≡◌, true, false, List}
use Rattle.am9517.specs.Editions.{number_of}
use Rattle.am9517.specs.Ranges.{valid}
use Rattle.am9517.specs.declared.Edition.{Edition}
use Rattle.am9517_sheet.specs.declared.forms.Form.{Form}
use Rattle.board.specs.declared.Board.{Board}
use Rattle.board.specs.declared.Chip.{Chip}
use Rattle.board.specs.Chips.{chip, other, fresh_board}
use Rattle.board.specs.Ranges.{both_serve, pair_valid}
use Rattle.board_demands.specs.Operations.{BoardOp, Write, Read, Pins, Reset, Waits, Grant, Run, Round, SheetWriting, SheetReading, next, after_all, said}

abbrev pub ReadsSheet : BoardOp → Type 0
ReadsSheet (Write r x) = ⊥
ReadsSheet (Read r) = ⊥
ReadsSheet (Pins p) = ⊥
ReadsSheet Reset = ⊥
ReadsSheet (Waits which n) = ⊥
ReadsSheet Grant = ⊥
ReadsSheet (Run m d r limit eop) = ⊥
ReadsSheet (Round m d r k) = ⊥
ReadsSheet (SheetWriting form which out) = ⊥
ReadsSheet (SheetReading form which bytes) = Unit

pub record BoardRangesKept : Type 0 where
  -- A pair in its ranges is in them after every operation, accepted or refused, unless a sheet reading puts both in service;
  pub kept : (b : Board) (op : BoardOp) → pair_valid b ≡ true → (ReadsSheet op → both_serve (next b op) ≡ false) → pair_valid (next b op) ≡ true
  -- a sheet that is read gives a chip in its ranges, whatever it was before, and leaves the other chip and the arbiter.
  pub read : (b : Board) (form : Form) (which : Chip) (bytes : List ℕ) → said b (SheetReading form which bytes) ≡ 0
      → (valid (chip (next b (SheetReading form which bytes)) which) ≡ true) × (chip (next b (SheetReading form which bytes)) (other which) ≡ chip b (other which))
      × ((next b (SheetReading form which bytes)).granted_last ≡ b.granted_last)
  -- A fresh board of whatever editions is in its ranges;
  pub fresh : (e f : Edition) → pair_valid (fresh_board (number_of e) (number_of f)) ≡ true
  -- so to one that began so 1 is said only while both are in service, as a sheet reading may leave them, and another may mend it.
  pub from_fresh : (e f : Edition) (ops : List BoardOp) (op : BoardOp) → said (after_all (fresh_board (number_of e) (number_of f)) ops) op ≡ 1
      → both_serve (after_all (fresh_board (number_of e) (number_of f)) ops) ≡ true
