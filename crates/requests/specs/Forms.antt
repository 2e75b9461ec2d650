-- Document 02, A5: sheets of form 2, and back.
use Rattle.std.specs.Prelude.{ℕ, ◌+◌, ◌-◌, ◌≤◌, ◌<◌, ◌≡◌, List, [], ◌∷◌, ◌++◌, ltb, length, get_or, set, take, Ok, Err}
use Rattle.words.specs.Choice.{when}
use Rattle.am9517.specs.declared.Controller.{Controller}
use Rattle.am9517_sheet.specs.declared.forms.Form.{Form}
use Rattle.am9517_sheet.specs.declared.forms.Form.TheVariants.{One, Two}
use Rattle.am9517_sheet.specs.Bytes.{word_bytes, total, last, OfBytes}
use Rattle.am9517_sheet.specs.Form.{other, body_size, sheet_size}
use Rattle.am9517_sheet.specs.Body.{body_of}
use Rattle.am9517_sheet.specs.Sheet.{sheet_of, stored, sheet_write_of, sheet_read_of}
use Rattle.am9517_sheet.specs.Convert.{convert_of}
use Rattle.demands.specs.Operations.{scene}
use Rattle.demands.specs.Calls.{CLoad, does}
use Rattle.am9517.specs.Refusals.{numbered}

-- these bytes with v in place i of the sheet at their end
abbrev pub changed_at : Form → List ℕ → ℕ → ℕ → List ℕ
changed_at form bytes i v = set bytes (length bytes - sheet_size form + i) v

-- what its own form's reader says of a sheet with a changed byte, by the byte's place: of the body 13; of the trailer 11, 11, 12, 12, 13, 13, 10, 10
abbrev pub fault_at : Form → ℕ → ℕ
fault_at form i =
    let k = body_size form in
    when (ltb i k) 13 (when (ltb i (k + 2)) 11 (when (ltb i (k + 4)) 12 (when (ltb i (k + 6)) 13 10)))

-- A good sheet is one that its reader accepts; what state t or u a reader had plays no part.
pub record SheetForms : Type 0 where
  -- "Form 2 has a 50-byte body: edition (0 or 1), waits, then the 48 bytes of form 1; the trailer says form 2 and distance 50, so 58 bytes.": byte by
  -- byte, the sum being that of the 50. (0 or 1: `valid` asks it.)
  pub laid_out : (s : Controller) → sheet_of Two s
      ≡ s.edition ∷ s.waits ∷ body_of One s
      ++ (0x02 ∷ 0x00 ∷ 0x32 ∷ 0x00 ∷ word_bytes (s.edition + (s.waits + total (body_of One s))) ++ (0x44 ∷ 0x4D ∷ []))
  pub sized : (s : Controller) → (length (body_of One s) ≡ 48) × (length (sheet_of Two s) ≡ 58)
  -- In either form a sheet that was written is the end of the slice, "the rest isn't touched".
  pub at_the_end : (form : Form) (s : Controller) (out : List ℕ) → (sheet_write_of form s out).answer ≡ Ok tt
      → (sheet_write_of form s out).bytes ≡ take (length out - sheet_size form) out ++ sheet_of form s
  -- Every good sheet of form 1 is converted, into any slice that has room.
  pub forward : (t : Controller) (source target : List ℕ) → (sheet_read_of One t source).answer ≡ Ok tt → 58 ≤ length target
      → (convert_of Two source target).answer ≡ Ok tt
  -- "Old sheets convert with edition 0 and waits 0."
  pub zero : (u : Controller) (source target : List ℕ) → (convert_of Two source target).answer ≡ Ok tt
      → ((sheet_read_of Two u (convert_of Two source target).bytes).controller.edition ≡ 0)
      × ((sheet_read_of Two u (convert_of Two source target).bytes).controller.waits ≡ 0)
  -- "Converting back is allowed exactly when both are 0, else refusal 15, target untouched."
  pub back : (t : Controller) (source target : List ℕ) → (sheet_read_of Two t source).answer ≡ Ok tt → 56 ≤ length target
      → ((sheet_read_of Two t source).controller.edition ≡ 0) × ((sheet_read_of Two t source).controller.waits ≡ 0)
      → (convert_of One source target).answer ≡ Ok tt
  pub not_back : (t : Controller) (source target : List ℕ) → (sheet_read_of Two t source).answer ≡ Ok tt → 56 ≤ length target
      → ¬ (((sheet_read_of Two t source).controller.edition ≡ 0) × ((sheet_read_of Two t source).controller.waits ≡ 0))
      → convert_of One source target ≡ stored (Err (numbered 15)) target
  -- Only good sheets are converted;
  pub good : (to : Form) (t : Controller) (source target : List ℕ) → (convert_of to source target).answer ≡ Ok tt
      → (sheet_read_of (other to) t source).answer ≡ Ok tt
  -- what its reader refuses, one of the other form among it (below), is refused by the same number, target untouched;
  pub as_reader : (to : Form) (t : Controller) (source target : List ℕ) → sheet_size to ≤ length target
      → ¬ ((sheet_read_of (other to) t source).answer ≡ Ok tt)
      → convert_of to source target ≡ stored (sheet_read_of (other to) t source).answer target
  -- the sheet that is written is that of the state that the old one tells,
  pub written : (to : Form) (t : Controller) (source target : List ℕ) → (convert_of to source target).answer ≡ Ok tt
      → convert_of to source target ≡ sheet_write_of to (sheet_read_of (other to) t source).controller target
  -- and tells it again.
  pub told : (to : Form) (t u : Controller) (source target : List ℕ) → (convert_of to source target).answer ≡ Ok tt
      → sheet_read_of to u (convert_of to source target).bytes ≡ sheet_read_of (other to) t source
  -- "Forward and back gives the same bytes.", and so do back and forward where back is allowed: they stand at the end of the slice, all before
  -- them stays.
  pub same_bytes : (to : Form) (source target again : List ℕ) → OfBytes source → (convert_of to source target).answer ≡ Ok tt
      → sheet_size (other to) ≤ length again
      → convert_of (other to) (convert_of to source target).bytes again
      ≡ stored (Ok tt) (take (length again - sheet_size (other to)) again ++ last (sheet_size (other to)) source)
  -- "A form 1 reader answers 11 to a form 2 sheet."
  pub one_of_two : (t u : Controller) (bytes : List ℕ) → (sheet_read_of Two t bytes).answer ≡ Ok tt
      → sheet_read_of One u bytes ≡ record { controller = u; answer = Err (numbered 11) }
  -- A form 2 reader answers 11 to a form 1 sheet in 58 bytes or more, 9 in fewer.
  pub two_of_one : (t u : Controller) (bytes : List ℕ) → (sheet_read_of One t bytes).answer ≡ Ok tt
      → sheet_read_of Two u bytes ≡ record { controller = u; answer = Err (numbered (when (ltb (length bytes) 58) 9 11)) }
  -- So do the C library's am9517_load and am9517_load2: a good sheet of the other form is never misread, and the chip stays;
  pub never_misread : (form : Form) (s t : Controller) (bytes : List ℕ) → (does s (CLoad form bytes)).refusal ≡ 0
      → does t (CLoad (other form) bytes)
      ≡ record { refusal = when (ltb (length bytes) (sheet_size (other form))) 9 11; beside = 0 ∷ []; leaves = scene t [] [] [] }
  -- nor is one of the form that is to be written taken for a source.
  pub never_converted : (to : Form) (t : Controller) (source target : List ℕ) → (sheet_read_of to t source).answer ≡ Ok tt → sheet_size to ≤ length target
      → convert_of to source target ≡ stored (Err (numbered (when (ltb (length source) (sheet_size (other to))) 9 11))) target
  -- Any one changed byte of a good sheet is found: by its own form's reader, which says where,
  pub changed : (form : Form) (t u : Controller) (bytes : List ℕ) (i v : ℕ) → (sheet_read_of form t bytes).answer ≡ Ok tt → i < sheet_size form
      → ¬ (v ≡ get_or bytes (length bytes - sheet_size form + i) 0)
      → sheet_read_of form u (changed_at form bytes i v) ≡ record { controller = u; answer = Err (numbered (fault_at form i)) }
  -- and the other form's reader doesn't take it for one of its own.
  pub changed_for_other : (form : Form) (t u : Controller) (bytes : List ℕ) (i v : ℕ) → (sheet_read_of form t bytes).answer ≡ Ok tt
      → ¬ ((sheet_read_of (other form) u (changed_at form bytes i v)).answer ≡ Ok tt)
