-- What is written is read back, what is read is written back, and the fresh sheet is the printed one.
use Prim.Native.Nat.{ℕ, ◌-◌, ◌≤◌}
use mathlib.Core.Path.{◌≡◌, refl, sym, ap, ◌∙◌}
use mathlib.Core.Bool.{true}
use mathlib.Core.List.{List, [], ◌∷◌, ◌++◌}
use native.Mathlib.Omega.{arith}
use native.Mathlib.Nat.{add-zero}
use lib.ListN.{length, take, drop, replicate, length-drop, take-append-drop}
use lib.Seq.{get_or-drop, length-take-le}
use Rattle.am9517.specs.Editions.{number_of}
use Rattle.am9517.specs.declared.Edition.TheVariants.{Am9517A}
use Rattle.am9517.specs.State.{fresh}
use Rattle.am9517.specs.Ranges.{valid}
use Rattle.am9517.specs.Refusals.{refusal}
use Rattle.am9517.specs.declared.Controller.{Controller}
use Rattle.std.proofs.Common.{Ok}
use Rattle.am9517_sheet.specs.declared.SheetRead.{SheetRead}
use Rattle.am9517_sheet.specs.declared.forms.Form.{Form}
use Rattle.am9517_sheet.specs.declared.forms.Form.TheVariants.{One}
use Rattle.am9517_sheet.specs.Bytes.{word, total, placed, last, OfBytes}
use Rattle.am9517_sheet.specs.Form.{body_size, sheet_size}
use Rattle.am9517_sheet.specs.Body.{body_of, state_of}
use Rattle.am9517_sheet.specs.Trailer.{trailer_of, with_trailer}
use Rattle.am9517_sheet.specs.Sheet.{sheet_in, sheet_of, Stored, stored, sheet_write_of, sheet_read_grounds, sheet_read_of}
use Rattle.am9517_sheet.proofs.BytesLaws.{length_placed, last_placed, placed_end, word_drop, cells, all_cells}
use Rattle.am9517_sheet.proofs.TrailerLaws.{trailer_told, trailer_bytes}
use Rattle.am9517_sheet.proofs.BodyLaws.{state_of_body, told_within, body_of_state}
use Rattle.am9517_sheet.proofs.SheetLaws.{none_refuses, sheet_length, write_done, write_room, write_valid, write_within, write_free, refused_in, read_done, read_valid, read_room, refused_by_sheet, sheet_accepted}

-- "The fresh sheet: all zero but byte 39 = 0Fh and 43 = 03h, then 01 00 30 00 12 00 44 4D."
pub fresh_sheet_lem : sheet_of One (fresh (number_of Am9517A))
    ≡ replicate 39 0 ++ (0x0F ∷ 0 ∷ 0 ∷ 0 ∷ 0x03 ∷ 0 ∷ 0 ∷ 0 ∷ 0 ∷ 0x01 ∷ 0x00 ∷ 0x30 ∷ 0x00 ∷ 0x12 ∷ 0x00 ∷ 0x44 ∷ 0x4D ∷ [])
unfolding body_of total
fresh_sheet_lem = refl

module _ (form : Form) where
  -- What is written is read back, whatever state t the reader had.
  pub written_read_lem : (s t : Controller) (out : List ℕ) → length s.channels ≡ 4 → (sheet_write_of form s out).answer ≡ Ok tt
      → sheet_read_of form t (sheet_write_of form s out).bytes ≡ record { controller = s; answer = Ok tt }
  written_read_lem s t out channels done =
      let free = none_refuses _ done in
      let room = write_room form s (length out) free in
      let within = write_within form s (length out) free in
      let at = length out - sheet_size form in
      let bytes = placed out at (sheet_of form s) in
      let sheet : sheet_in form bytes ≡ sheet_of form s = last_placed out (sheet_of form s) (sheet_size form) (sheet_length form s) room in
      let long : length bytes ≡ length out = length_placed out at (sheet_of form s) (omega (arith, sheet_length form s)) in
      let good : refusal (sheet_read_grounds form bytes) ≡ 0 =
      refused_by_sheet form bytes (omega arith) ∙ ap (refused_in form) sheet ∙ sheet_accepted form s channels within (write_valid form s (length out) free) in
      let state : state_of form (sheet_in form bytes) ≡ s = ap (state_of form) sheet ∙ state_of_body form s (trailer_of form (body_of form s)) channels within in
      ap (λ (w : Stored). sheet_read_of form t w.bytes) (write_done form s out free)
      ∙ read_done form bytes t good
      ∙ ap (λ (u : Controller). record { controller = u; answer = Ok tt }) state

  sheet_of_state : (sheet : List ℕ) → OfBytes sheet → length sheet ≡ sheet_size form → refused_in form sheet ≡ 0 → sheet_of form (state_of form sheet) ≡ sheet
  sheet_of_state sheet byte size free =
      let told = trailer_told form sheet _ free in
      let k = body_size form in
      let body = take k sheet in
      let behind = drop k sheet in
      let long : length body ≡ k = length-take-le k sheet (omega arith) in
      let bytes : OfBytes behind = λ i. rw (get_or-drop k sheet i 0) (byte _) in
      let tail : trailer_of form body ≡ cells 0 8 behind =
      trailer_bytes form body _ _ _ _ _ _ _ _ (bytes 0) (bytes 2) (bytes 4) (bytes 6)
      (word_drop sheet k 0 ∙ ap (word sheet) (add-zero k) ∙ told.said) (word_drop sheet k 2 ∙ told.distance ∙ sym long) (word_drop sheet k 4 ∙ told.sum) (word_drop sheet k 6 ∙ told.mark) in
      ap (with_trailer form) (body_of_state form sheet byte (omega arith))
      ∙ ap (λ (l : List ℕ). body ++ l) (tail ∙ sym (all_cells 8 behind (omega (arith, length-drop k sheet))))
      ∙ take-append-drop k sheet

  -- What an accepted sheet is: the sheet of the state that it tells, which is in its ranges.
  pub record Good (bytes : List ℕ) : Type 0 where
    pub room : sheet_size form ≤ length bytes
    pub size : length (sheet_in form bytes) ≡ sheet_size form
    pub state : valid (state_of form (sheet_in form bytes)) ≡ true
    pub same : sheet_of form (state_of form (sheet_in form bytes)) ≡ sheet_in form bytes

  pub good_sheet : (bytes : List ℕ) → OfBytes bytes → refusal (sheet_read_grounds form bytes) ≡ 0 → Good bytes
  good_sheet bytes byte free =
      let room = read_room form bytes free in
      let at = length bytes - sheet_size form in
      let sheet = sheet_in form bytes in
      let fine : refused_in form sheet ≡ 0 = sym (refused_by_sheet form bytes room) ∙ free in
      let size : length sheet ≡ sheet_size form = omega (arith, length-drop at bytes) in
      record {
        room = room;
        size = size;
        state = read_valid form bytes free;
        same = sheet_of_state sheet (λ i. rw (get_or-drop at bytes i 0) (byte _)) size fine;
      }

  -- What is read is written back into any slice: its end becomes the sheet that was read.
  pub read_copied_lem : (t : Controller) (bytes out : List ℕ) → OfBytes bytes → (sheet_read_of form t bytes).answer ≡ Ok tt → sheet_size form ≤ length out
      → sheet_write_of form (sheet_read_of form t bytes).controller out ≡ stored (Ok tt) (take (length out - sheet_size form) out ++ last (sheet_size form) bytes)
  read_copied_lem t bytes out byte done room =
      let free : refusal (sheet_read_grounds form bytes) ≡ 0 = none_refuses _ done in
      let state = ap (λ (r : SheetRead). r.controller) (read_done form bytes t free) in
      let there = sheet_in form bytes in
      let fine = good_sheet bytes byte free in
      ap (λ (u : Controller). sheet_write_of form u out) state
      ∙ write_done form (state_of form there) out (write_free form (state_of form there) (length out) fine.state room (told_within form there))
      ∙ ap (stored (Ok tt)) (rw fine.same (placed_end out there (sheet_size form) fine.size room))

  -- and into the slice that it was read from: it stays as it was
  pub read_written_lem : (t : Controller) (bytes : List ℕ) → OfBytes bytes → (sheet_read_of form t bytes).answer ≡ Ok tt
      → sheet_write_of form (sheet_read_of form t bytes).controller bytes ≡ stored (Ok tt) bytes
  read_written_lem t bytes byte done =
      let room = read_room form bytes (none_refuses _ done) in
      read_copied_lem t bytes bytes byte done room ∙ ap (stored (Ok tt)) (take-append-drop (length bytes - sheet_size form) bytes)
