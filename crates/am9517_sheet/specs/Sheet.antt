-- "Form 1 is the last 56 bytes of a lent slice; the rest isn't touched." For every form.
use Rattle.std.specs.Prelude.{ℕ, ◌-◌, Result, not, List, [], ◌∷◌, ◌++◌, eqb, ltb, length}
use Rattle.words.specs.Choice.{when}
use Rattle.words.specs.Grounds.{Ground, ◌if◌}
use Rattle.am9517.specs.Ranges.{valid}
use Rattle.am9517.specs.Refusals.{unless, number_in, refusal}
use Rattle.am9517.specs.declared.refusals.Refusal.{Refusal}
use Rattle.am9517.specs.declared.Controller.{Controller}
use Rattle.am9517_sheet.specs.declared.SheetRead.{SheetRead}
use Rattle.am9517_sheet.specs.declared.forms.Form.{Form}
use Rattle.am9517_sheet.specs.Bytes.{placed, last}
use Rattle.am9517_sheet.specs.Form.{sheet_size}
use Rattle.am9517_sheet.specs.Body.{body_of, exceeds, state_of}
use Rattle.am9517_sheet.specs.Trailer.{with_trailer, trailer_grounds}

-- where it stands
abbrev pub sheet_in : Form → List ℕ → List ℕ
sheet_in form bytes = last (sheet_size form) bytes

-- the state that it tells, in its ranges or not
abbrev pub told_in : Form → List ℕ → Controller
told_in form bytes = state_of form (sheet_in form bytes)

-- body and trailer
abbrev pub sheet_of : Form → Controller → List ℕ
sheet_of form s = with_trailer form (body_of form s)

abbrev pub SheetAnswer : Type 0
SheetAnswer = Result (Unit {0}) Refusal

-- the paper's number of each answer, 0 for none; and what is answered where n refuses, or, with n zero, nothing does
abbrev pub sheet_refusal_number : SheetAnswer → ℕ
sheet_refusal_number = number_in

unfoldable pub answer_of : ℕ → SheetAnswer
answer_of n = unless n tt

-- What writing gives: the answer, and the slice after it.
pub record Stored : Type 0 where
  pub answer : SheetAnswer
  pub bytes : List ℕ

abbrev pub stored : SheetAnswer → List ℕ → Stored
stored a bs = record { answer = a; bytes = bs }

-- "sheet writing 1, 9", into a slice of n bytes: 9 "slice under 56 bytes for a sheet". Document 02, A2: "writing such a state is refusal 15,
-- after 1 and 9", one with an edition other than 0; A3: "A state with waits can't go into form 1: refusal 15."
abbrev pub sheet_write_grounds : Form → Controller → ℕ → List (Ground ℕ)
sheet_write_grounds form s n = 1 if not (valid s) ∷ 9 if ltb n (sheet_size form) ∷ 15 if exceeds form s ∷ []

-- where n refuses, its number only, and the slice stays; else the sheet of state s stands at the slice's end
abbrev pub put_unless : ℕ → Form → Controller → List ℕ → Stored
put_unless n form s out = stored (answer_of n) (when (eqb n 0) (placed out (length out - sheet_size form) (sheet_of form s)) out)

abbrev pub sheet_write_of : Form → Controller → List ℕ → Stored
sheet_write_of form s out = put_unless (refusal (sheet_write_grounds form s (length out))) form s out

-- 10 to 14 are the "sheet faults, below": those of its bytes, and "14 range", a state out of its ranges
abbrev pub sheet_faults : Form → List ℕ → List (Ground ℕ)
sheet_faults form bytes = trailer_grounds form (sheet_in form bytes) ++ (14 if not (valid (told_in form bytes)) ∷ [])

-- "sheet reading 9 to 14 in order". Document 02, A5: "Reading and writing form 2 keep 01's order, with 58 in refusal 9 and the edition's range
-- under 14."
abbrev pub sheet_read_grounds : Form → List ℕ → List (Ground ℕ)
sheet_read_grounds form bytes = 9 if ltb (length bytes) (sheet_size form) ∷ sheet_faults form bytes

-- the state that the sheet tells; where it is refused, the state s as it was
abbrev pub sheet_read_of : Form → Controller → List ℕ → SheetRead
sheet_read_of form s bytes =
    let no = refusal (sheet_read_grounds form bytes) in
    record { controller = when (eqb no 0) (told_in form bytes) s; answer = answer_of no }
