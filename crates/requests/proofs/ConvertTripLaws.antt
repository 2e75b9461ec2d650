-- A converted sheet tells the same state, and converted back it is the same bytes.
use Prim.Native.Nat.{ℕ, ◌-◌, ◌≤◌}
use mathlib.Core.Path.{◌≡◌, refl, sym, ap, ◌∙◌}
use mathlib.Core.List.{List, ◌++◌}
use lib.ListN.{length, take}
use Rattle.am9517.specs.Refusals.{refusal}
use Rattle.am9517.specs.declared.Controller.{Controller}
use Rattle.am9517_sheet.specs.declared.SheetRead.{SheetRead}
use Rattle.am9517_sheet.specs.declared.forms.Form.{Form}
use Rattle.am9517_sheet.specs.Bytes.{last, OfBytes}
use Rattle.am9517_sheet.specs.Form.{sheet_size}
use Rattle.am9517_sheet.specs.Body.{exceeds, state_of}
use Rattle.am9517_sheet.specs.Sheet.{told_in, Stored, stored, sheet_write_of, sheet_read_grounds, sheet_read_of}
use Rattle.am9517_sheet.specs.Convert.{convert_grounds, rewritten}
use Rattle.am9517_sheet.proofs.BodyLaws.{told_within}
use Rattle.am9517_sheet.proofs.SheetLaws.{none_refuses, write_done, write_free, read_done, read_room, read_faults, read_valid}
use Rattle.am9517_sheet.proofs.TripLaws.{written_read_lem, read_copied_lem}
use Rattle.am9517_sheet.proofs.ConvertLaws.{convert_given, convert_done, convert_free}
use Rattle.std.proofs.Common.{Ok}

four_told : (form : Form) (sheet : List ℕ) → length (state_of form sheet).channels ≡ 4
unfolding state_of
four_told form sheet = refl

module _ (from to : Form) (source out : List ℕ) (done : (rewritten from to source out).answer ≡ Ok tt) where
  free : refusal (convert_grounds from to source (length out)) ≡ 0
  free = none_refuses _ done

  -- the source is one that its own form's reader accepts
  pub source_read : refusal (sheet_read_grounds from source) ≡ 0
  source_read = let given = convert_given from to source (length out) free in read_faults from source given.here ∙ given.fine

  -- to convert is to write the state that the source tells
  pub convert_writes : rewritten from to source out ≡ sheet_write_of to (told_in from source) out
  convert_writes =
      let given = convert_given from to source (length out) free in
      convert_done from to source out 0 free refl
      ∙ sym (write_done to (told_in from source) out (write_free to (told_in from source) (length out) (read_valid from source source_read) given.there given.within))

  pub convert_told : (u : Controller) → sheet_read_of to u (rewritten from to source out).bytes ≡ record { controller = told_in from source; answer = Ok tt }
  convert_told u =
      ap (λ (w : Stored). sheet_read_of to u w.bytes) convert_writes
      ∙ written_read_lem to (told_in from source) u out (four_told from _) (sym (ap (λ (w : Stored). w.answer) convert_writes) ∙ done)

  -- there and back
  pub convert_back : (again : List ℕ) → OfBytes source → sheet_size from ≤ length again
      → rewritten to from (rewritten from to source out).bytes again ≡ stored (Ok tt) (take (length again - sheet_size from) again ++ last (sheet_size from) source)
  convert_back again byte room =
      let mid = (rewritten from to source out).bytes in
      let t = told_in from source in
      let there = convert_told t in
      let fine : refusal (sheet_read_grounds to mid) ≡ 0 = none_refuses _ (ap (λ (r : SheetRead). r.answer) there) in
      let here = read_room to mid fine in
      let state : told_in to mid ≡ t = ap (λ (r : SheetRead). r.controller) (sym (read_done to mid t fine) ∙ there) in
      let read = read_done from source t source_read in
      convert_done to from mid again 0
      (convert_free to from mid (length again) here room (sym (read_faults to mid here) ∙ fine) (ap (exceeds from) state ∙ told_within from _)) refl
      ∙ sym (write_done from (told_in to mid) again (write_free from (told_in to mid) (length again) (read_valid to mid fine) room (ap (exceeds from) state ∙ told_within from _)))
      ∙ ap (λ (s : Controller). sheet_write_of from s again) (state ∙ ap (λ (r : SheetRead). r.controller) (sym read))
      ∙ read_copied_lem from t source again byte (ap (λ (r : SheetRead). r.answer) read) room
