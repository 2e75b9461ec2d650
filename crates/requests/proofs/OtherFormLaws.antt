-- What the reader of the other form says: of a good sheet, and of one with a changed byte.
use Prim.Native.Nat.{ℕ, ◌+◌, ◌-◌, ◌≤◌}
use mathlib.Core.Path.{◌≡◌, refl, sym, ap, ◌∙◌}
use mathlib.Core.Bool.{Bool, true, false}
use mathlib.Core.List.{List}
use native.Mathlib.Omega.{arith}
use native.Mathlib.Nat.{add-zero}
use lib.Dec.{ltb}
use lib.ListN.{length, set, length-set}
use borrow.Author.Tests.{ltb-true, ltb-false, eq-eqb, ne_eqb}
use Rattle.words.specs.Choice.{when}
use Rattle.words.specs.Grounds.{first}
use Rattle.am9517.specs.Refusals.{refusal}
use Rattle.am9517_sheet.specs.declared.forms.Form.{Form}
use Rattle.am9517_sheet.specs.declared.forms.Form.TheVariants.{One, Two}
use Rattle.am9517_sheet.specs.Bytes.{word}
use Rattle.am9517_sheet.specs.Form.{other, number, body_size, sheet_size}
use Rattle.am9517_sheet.specs.Trailer.{end_mark}
use Rattle.am9517_sheet.specs.Sheet.{sheet_in, sheet_read_grounds}
use Rattle.am9517_sheet.proofs.BytesLaws.{word_drop, word_kept}
use Rattle.am9517_sheet.proofs.TrailerLaws.{trailer_told}
use Rattle.am9517_sheet.proofs.SheetLaws.{read_room, refused_by_sheet}

-- the forms differ in the number that they say, and in the distance
numbers_differ : (form : Form) → ¬ (number form ≡ number (other form))
numbers_differ One e = omega arith
numbers_differ Two e = omega arith

sizes_differ : (form : Form) → ¬ (body_size form ≡ body_size (other form))
sizes_differ One e = omega arith
sizes_differ Two e = omega arith

-- of every form the trailer is the last eight bytes
trailer_last : (form : Form) (bytes : List ℕ) (j : ℕ) → sheet_size form ≤ length bytes → word (sheet_in form bytes) (body_size form + j) ≡ word bytes (length bytes - 8 + j)
trailer_last form bytes j room =
    let e : length bytes - sheet_size form + (body_size form + j) ≡ length bytes - 8 + j = omega arith in
    word_drop bytes (length bytes - sheet_size form) (body_size form + j) ∙ ap (word bytes) e

-- What the last eight bytes of an accepted slice say.
record Ends (form : Form) (bytes : List ℕ) : Type 0 where
  room : sheet_size form ≤ length bytes
  mark : word bytes (length bytes - 8 + 6) ≡ end_mark
  said : word bytes (length bytes - 8) ≡ number form
  distance : word bytes (length bytes - 8 + 2) ≡ body_size form

ends : (form : Form) (bytes : List ℕ) → refusal (sheet_read_grounds form bytes) ≡ 0 → Ends form bytes
ends form bytes free =
    let room = read_room form bytes free in
    let told = trailer_told form (sheet_in form bytes) _ (sym (refused_by_sheet form bytes room) ∙ free) in
    let at_front = ap (word (sheet_in form bytes)) (add-zero (body_size form)) in
    record {
      room = room;
      mark = sym (trailer_last form bytes 6 room) ∙ told.mark;
      said = sym (ap (word bytes) (add-zero (length bytes - 8))) ∙ sym (trailer_last form bytes 0 room) ∙ at_front ∙ told.said;
      distance = sym (trailer_last form bytes 2 room) ∙ told.distance;
    }

-- a good sheet of one form: 9 where the other's has no room, else 11
module _ (form : Form) (bytes : List ℕ) (free : refusal (sheet_read_grounds form bytes) ≡ 0) where
  eleven : sheet_size (other form) ≤ length bytes → refusal (sheet_read_grounds (other form) bytes) ≡ 11
  unfolding first when
  eleven room =
      let end = ends form bytes free in
      let g = other form in
      let sheet = sheet_in g bytes in
      let mark : word sheet (body_size g + 6) ≡ end_mark = trailer_last g bytes 6 room ∙ end.mark in
      let said : word sheet (body_size g) ≡ number form =
      ap (word sheet) (sym (add-zero (body_size g))) ∙ trailer_last g bytes 0 room ∙ ap (word bytes) (add-zero (length bytes - 8)) ∙ end.said in
      refused_by_sheet g bytes room ∙ simp (eq-eqb _ _ mark, ne_eqb _ _ (λ e. numbers_differ form (sym said ∙ e)))

  pub other_answers : refusal (sheet_read_grounds (other form) bytes) ≡ when (ltb (length bytes) (sheet_size (other form))) 9 11
  unfolding refusal first when
  other_answers = go (ltb (length bytes) (sheet_size (other form))) refl
    where
      go : (t : Bool) → ltb (length bytes) (sheet_size (other form)) ≡ t → refusal (sheet_read_grounds (other form) bytes) ≡ when t 9 11
      go true e = rw e
      go false e = eleven (ltb-false _ _ e)

  -- one byte changed: its number or its distance still is its own form's
  pub other_refuses : (p v : ℕ) → ¬ (refusal (sheet_read_grounds (other form) (set bytes p v)) ≡ 0)
  other_refuses p v accepted = go (ltb p (length bytes - 8 + 2)) refl
    where
      go : (t : Bool) → ltb p (length bytes - 8 + 2) ≡ t → ⊥
      go true e = sizes_differ form
          (sym (ends form bytes free).distance
          ∙ sym (word_kept bytes p v (length bytes - 8 + 2) (λ z. omega (arith, z, ltb-true p (length bytes - 8 + 2) e)) (λ z. omega (arith, z, ltb-true p (length bytes - 8 + 2) e)))
          ∙ ap (λ (k : ℕ). word (set bytes p v) (k - 8 + 2)) (sym (length-set bytes p v))
          ∙ (ends (other form) (set bytes p v) accepted).distance)
      go false e = numbers_differ form
          (sym (ends form bytes free).said
          ∙ sym (word_kept bytes p v (length bytes - 8) (λ z. omega (arith, z, ltb-false p (length bytes - 8 + 2) e)) (λ z. omega (arith, z, ltb-false p (length bytes - 8 + 2) e)))
          ∙ ap (λ (k : ℕ). word (set bytes p v) (k - 8)) (sym (length-set bytes p v))
          ∙ (ends (other form) (set bytes p v) accepted).said)
