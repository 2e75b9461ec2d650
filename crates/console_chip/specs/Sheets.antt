-- What each command on sheets answers, for any form.
use denote.Ref.{MutBor}
use Rattle.std.specs.Prelude.{◌≡◌, ℕ, ◌/◌, List, leb, length, replicate, Option, Some, None, Ok, Err}
use Rattle.words.specs.Choice.{when}
use Rattle.am9517.specs.declared.Controller.{Controller}
use Rattle.am9517_sheet.specs.Sheet.{SheetAnswer}
use Rattle.am9517_sheet.specs.declared.SheetRead.{SheetRead}
use Rattle.am9517_sheet.specs.declared.forms.Form.{Form}
use Rattle.am9517_sheet.specs.Sheet.{Stored, stored, sheet_write_of, sheet_read_of}
use Rattle.am9517_sheet.specs.Convert.{convert_of}
use Rattle.console_text.specs.Numbers.{number_of}
use Rattle.console_text.specs.Hex.{is_bytes, bytes_in}
use Rattle.console_chip.specs.Answers.{Reply, reply, error_reply, ok_text, refused_text, bytes_answer, numbered}

-- a text where a sheet was written, read or converted, or the refusal
unfoldable pub sheet_said : SheetAnswer → List ℕ → List ℕ
sheet_said (Ok tt) text = text
sheet_said (Err r) text = refused_text r

-- what calls leave of each slice that they are lent, with their answer, is what `stores` says
abbrev pub StoresAs : (MutBor (List ℕ) → SheetAnswer → MutBor (List ℕ) → Type 0) → (List ℕ → Stored) → Type 0
StoresAs calls stores = (lent : MutBor (List ℕ)) (answer : SheetAnswer) (left : MutBor (List ℕ)) → calls lent answer left → stored answer left.now ≡ stores lent.now

-- "into a slice of N bytes 0xEE": "`bytes HEX` of the whole slice, or `refused N`"
unfoldable pub stored_text : (List ℕ → Stored) → ℕ → List ℕ
stored_text stores n = let s = stores (replicate n 238) in sheet_said s.answer (bytes_answer s.bytes)

-- the bytes that digits say, if they have room in an array of this length
unfoldable pub bytes_within : ℕ → List ℕ → Option (List ℕ)
bytes_within spare digits = when (leb (length digits / 2) spare) (when (is_bytes digits) (Some (bytes_in digits)) None) None

-- a reply that wants n bytes of an array of this length, where it has them
abbrev pub within : {A : Type 0} → ℕ → ℕ → A → Reply A → Reply A
within spare n a r = when (leb n spare) r (error_reply a)

-- "into a slice of N bytes 0xEE (N at most 70,000)"; what the command is on stays
abbrev pub stored_reply : {A : Type 0} → (List ℕ → Stored) → A → List ℕ → Reply A
stored_reply stores a size = numbered (number_of 70000 size) (λ (n : ℕ). reply a (stored_text stores n)) (error_reply a)

-- "a sheet is written into a slice of N bytes 0xEE (N at most 70,000)"
abbrev pub sheet_reply : Form → Controller → List ℕ → Reply Controller
sheet_reply form c size = stored_reply (sheet_write_of form c) c size

abbrev pub read_sheet : SheetRead → Reply Controller
read_sheet r = reply r.controller (sheet_said r.answer ok_text)

-- "a sheet is read from these bytes"
abbrev pub load_reply : Form → Controller → List ℕ → Reply Controller
load_reply form c digits = when (is_bytes digits) (read_sheet (sheet_read_of form c (bytes_in digits))) (error_reply c)

-- "the sheet at the end of HEX is converted into a slice of N bytes 0xEE (N at most 70,000)": to this form
abbrev pub convert_reply : Form → Controller → List ℕ → List ℕ → Reply Controller
convert_reply to c digits size = when (is_bytes digits) (stored_reply (convert_of to (bytes_in digits)) c size) (error_reply c)
