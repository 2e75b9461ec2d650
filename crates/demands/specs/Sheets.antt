-- Demand 2, the stored sheet: both round trips, in each form, and the sheet of a fresh controller.
use Rattle.std.specs.Prelude.{ℕ, ◌-◌, ◌≤◌, ◌≡◌, true, List, [], ◌∷◌, ◌++◌, length, take, replicate, Ok, Err}
use Rattle.am9517.specs.Editions.{number_of}
use Rattle.am9517.specs.Ranges.{valid}
use Rattle.am9517.specs.State.{fresh}
use Rattle.am9517.specs.declared.Controller.{Controller}
use Rattle.am9517.specs.declared.Edition.TheVariants.{Am9517A}
use Rattle.am9517_sheet.specs.declared.forms.Form.{Form}
use Rattle.am9517_sheet.specs.declared.forms.Form.TheVariants.{One, Two}
use Rattle.am9517_sheet.specs.Bytes.{last, OfBytes}
use Rattle.am9517_sheet.specs.Form.{sheet_size}
use Rattle.am9517_sheet.specs.Sheet.{sheet_of, stored, sheet_write_of, sheet_read_of}
use Rattle.am9517.specs.Refusals.{numbered}

-- Four channels and bytes below 256 are the types [Channel; 4] and [u8]: every controller and every slice has them.
pub record RoundTrips : Type 0 where
  -- Document 02, A5: "Our archive must hold editions and waits." In form 2 every state in its ranges is written into any slice that has room.
  pub written2 : (s : Controller) (out : List ℕ) → valid s ≡ true → 58 ≤ length out → (sheet_write_of Two s out).answer ≡ Ok tt
  -- In form 1, A2: "the sheet's round trip is for Am9517A states": one in its ranges without wait states is written into any slice that has room;
  pub written : (s : Controller) (out : List ℕ) → valid s ≡ true → s.edition ≡ number_of Am9517A → s.waits ≡ 0 → 56 ≤ length out
      → (sheet_write_of One s out).answer ≡ Ok tt
  -- "Form 1 has no place for the edition: writing such a state is refusal 15"; A3: "A state with waits can't go into form 1: refusal 15." Every
  -- other state in its ranges is refused so, and nothing of the slice changes.
  pub no_place : (s : Controller) (out : List ℕ) → valid s ≡ true → ¬ ((s.edition ≡ number_of Am9517A) × (s.waits ≡ 0)) → 56 ≤ length out
      → sheet_write_of One s out ≡ stored (Err (numbered 15)) out
  -- What was written is read back, whatever state t the reader had.
  pub written_read : (form : Form) (s t : Controller) (out : List ℕ)
      → length s.channels ≡ 4
      → (sheet_write_of form s out).answer ≡ Ok tt
      → sheet_read_of form t (sheet_write_of form s out).bytes ≡ record { controller = s; answer = Ok tt }
  -- What was read is written back into any slice that has room: its last 56 or 58 bytes become the sheet that was read, all before them stay;
  pub read_copied : (form : Form) (t : Controller) (bytes out : List ℕ)
      → OfBytes bytes
      → (sheet_read_of form t bytes).answer ≡ Ok tt
      → sheet_size form ≤ length out
      → sheet_write_of form (sheet_read_of form t bytes).controller out ≡ stored (Ok tt) (take (length out - sheet_size form) out ++ last (sheet_size form) bytes)
  -- and into the slice that it was read from: it holds the same bytes.
  pub read_written : (form : Form) (t : Controller) (bytes : List ℕ)
      → OfBytes bytes
      → (sheet_read_of form t bytes).answer ≡ Ok tt
      → sheet_write_of form (sheet_read_of form t bytes).controller bytes ≡ stored (Ok tt) bytes
  -- What a sheet of form 1 tells is an Am9517A's state without wait states, whatever the reader had.
  pub read_edition : (t : Controller) (bytes : List ℕ) → (sheet_read_of One t bytes).answer ≡ Ok tt → (sheet_read_of One t bytes).controller.edition ≡ number_of Am9517A
  pub read_waits : (t : Controller) (bytes : List ℕ) → (sheet_read_of One t bytes).answer ≡ Ok tt → (sheet_read_of One t bytes).controller.waits ≡ 0
  -- "The fresh sheet: all zero but byte 39 = 0Fh and 43 = 03h, then 01 00 30 00 12 00 44 4D."
  pub fresh_sheet : sheet_of One (fresh (number_of Am9517A))
      ≡ replicate 39 0 ++ (0x0F ∷ 0 ∷ 0 ∷ 0 ∷ 0x03 ∷ 0 ∷ 0 ∷ 0 ∷ 0 ∷ 0x01 ∷ 0x00 ∷ 0x30 ∷ 0x00 ∷ 0x12 ∷ 0x00 ∷ 0x44 ∷ 0x4D ∷ [])
