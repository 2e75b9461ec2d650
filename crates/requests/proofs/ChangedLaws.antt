-- One byte of a good sheet changed: its own form's reader refuses it, by the part of the sheet that the byte stands in.
use Prim.Native.Nat.{ℕ, zero, suc, ◌+◌, ◌-◌, ◌≤◌, ◌<◌}
use mathlib.Core.Path.{◌≡◌, sym, ap, ◌∙◌}
use mathlib.Core.Bool.{not}
use mathlib.Core.List.{List, [], ◌∷◌}
use native.Mathlib.Omega.{arith}
use lib.Dec.{ltb}
use lib.ListN.{length, get_or, set, take, drop, length-set, length-drop}
use lib.Seq.{take-set-lt, take-set-le, drop-set-add, get_or-take, get_or-drop, length-take-le}
use borrow.Author.Tests.{eq-eqb, ne_eqb, ltb-true, ltb-false}
use Rattle.words.specs.Choice.{when}
use Rattle.words.specs.Grounds.{first}
use Rattle.am9517.specs.Ranges.{valid}
use Rattle.am9517.specs.Refusals.{refusal}
use Rattle.am9517_sheet.specs.declared.forms.Form.{Form}
use Rattle.am9517_sheet.specs.Bytes.{word, total}
use Rattle.am9517_sheet.specs.Form.{body_size, sheet_size}
use Rattle.am9517_sheet.specs.Body.{state_of}
use Rattle.requests.specs.Forms.{fault_at}
use Rattle.am9517_sheet.specs.Sheet.{sheet_in, sheet_read_grounds}
use Rattle.words.proofs.ChoiceLaws.{when_each}
use Rattle.am9517_sheet.proofs.BytesLaws.{word_kept, word_changed}
use Rattle.am9517_sheet.proofs.TrailerLaws.{Told, trailer_told}
use Rattle.am9517_sheet.proofs.SheetLaws.{read_room, refused_in, refused_by_sheet}

-- a byte of a sum
total_set : (xs : List ℕ) (i v : ℕ) → i < length xs → total (set xs i v) + get_or xs i 0 ≡ total xs + v
unfolding total
total_set [] i v h = absurd (omega arith)
total_set (x ∷ xs) zero v h = omega arith
total_set (x ∷ xs) (suc i) v h = omega (arith, total_set xs i v (omega arith))

module _ (form : Form) (sheet : List ℕ) (i v : ℕ) (size : length sheet ≡ sheet_size form) (fine : refused_in form sheet ≡ 0) (here : i < sheet_size form) (other : ¬ (v ≡ get_or sheet i 0)) where
  abbrev k : ℕ
  k = body_size form

  abbrev changed : List ℕ
  changed = set sheet i v

  told : Told form sheet (when (not (valid (state_of form sheet))) 14 0)
  told = trailer_told form sheet _ fine

  -- a word of the trailer that the byte doesn't stand in
  kept_low : (w : ℕ) → i < w → word changed w ≡ word sheet w
  kept_low w h = word_kept sheet i v w (λ z. omega (arith, z)) (λ z. omega (arith, z))

  kept_high : (w : ℕ) → w + 2 ≤ i → word changed w ≡ word sheet w
  kept_high w h = word_kept sheet i v w (λ z. omega (arith, z)) (λ z. omega (arith, z))

  -- and the one that it stands in, which said n
  hit : (w n : ℕ) → w ≤ i → i < w + 2 → word sheet w ≡ n → ¬ (word changed w ≡ n)
  hit w n from to e same = word_changed sheet i v w (omega arith) other from (omega arith) (same ∙ sym e)

  same_sum : k ≤ i → total (take k changed) ≡ total (take k sheet)
  same_sum h = ap total (take-set-le k sheet i v h)

  in_body : i < k → refused_in form changed ≡ 13
  unfolding first when
  in_body h =
      let sum : word changed (k + 4) ≡ total (take k sheet) = kept_low (k + 4) (omega arith) ∙ told.sum in
      let added : total (take k changed) + get_or sheet i 0 ≡ total (take k sheet) + v =
      ap (λ (l : List ℕ). total l + get_or sheet i 0) (take-set-lt k sheet i v h)
      ∙ ap (λ (n : ℕ). total (set (take k sheet) i v) + n) (sym (get_or-take k sheet i 0 h))
      ∙ total_set (take k sheet) i v (omega (arith, length-take-le k sheet (omega arith))) in
      simp (
        eq-eqb _ _ (kept_low (k + 6) (omega arith) ∙ told.mark),
        eq-eqb _ _ (word_kept sheet i v k (λ z. omega (arith, z)) (λ z. omega (arith, z)) ∙ told.said),
        eq-eqb _ _ (kept_low (k + 2) (omega arith) ∙ told.distance),
        ne_eqb (word changed (k + 4)) (total (take k changed)) (λ e. other (omega (arith, added, sum, e))),
      )

  in_number : k ≤ i → i < k + 2 → refused_in form changed ≡ 11
  unfolding first when
  in_number h g = simp (eq-eqb _ _ (kept_low (k + 6) (omega arith) ∙ told.mark), ne_eqb _ _ (hit k _ h g told.said))

  in_distance : k + 2 ≤ i → i < k + 4 → refused_in form changed ≡ 12
  unfolding first when
  in_distance h g =
      simp (
        eq-eqb _ _ (kept_low (k + 6) (omega arith) ∙ told.mark),
        eq-eqb _ _ (kept_high k h ∙ told.said),
        ne_eqb _ _ (hit (k + 2) _ h (omega arith) told.distance),
      )

  in_sum : k + 4 ≤ i → i < k + 6 → refused_in form changed ≡ 13
  unfolding first when
  in_sum h g =
      simp (
        eq-eqb _ _ (kept_low (k + 6) g ∙ told.mark),
        eq-eqb _ _ (kept_high k (omega arith) ∙ told.said),
        eq-eqb _ _ (kept_high (k + 2) (omega arith) ∙ told.distance),
        ne_eqb _ _ (λ e. hit (k + 4) _ h (omega arith) told.sum (e ∙ same_sum (omega arith))),
      )

  in_mark : k + 6 ≤ i → refused_in form changed ≡ 10
  unfolding first when
  in_mark h = simp (ne_eqb _ _ (hit (k + 6) _ h (omega arith) told.mark))

  abbrev Is : ℕ → Type 0
  Is n = refused_in form changed ≡ n

  sheet_changed : refused_in form changed ≡ fault_at form i
  sheet_changed =
      when_each Is (ltb i k) (λ e. in_body (ltb-true _ _ e)) (λ e1.
      when_each Is (ltb i (k + 2)) (λ e. in_number (ltb-false _ _ e1) (ltb-true _ _ e)) (λ e2.
      when_each Is (ltb i (k + 4)) (λ e. in_distance (ltb-false _ _ e2) (ltb-true _ _ e)) (λ e3.
      when_each Is (ltb i (k + 6)) (λ e. in_sum (ltb-false _ _ e3) (ltb-true _ _ e)) (λ e4. in_mark (ltb-false _ _ e4)))))

-- at the end of a slice
pub byte_changed : (form : Form) (bytes : List ℕ) (i v : ℕ) → refusal (sheet_read_grounds form bytes) ≡ 0 → i < sheet_size form
    → ¬ (v ≡ get_or bytes (length bytes - sheet_size form + i) 0)
    → refusal (sheet_read_grounds form (set bytes (length bytes - sheet_size form + i) v)) ≡ fault_at form i
byte_changed form bytes i v free here other =
    let room = read_room form bytes free in
    let at = length bytes - sheet_size form in
    let sheet = sheet_in form bytes in
    let long : length (set bytes (at + i) v) ≡ length bytes = length-set bytes (at + i) v in
    let now : sheet_in form (set bytes (at + i) v) ≡ set sheet i v = ap (λ (n : ℕ). drop (n - sheet_size form) (set bytes (at + i) v)) long ∙ drop-set-add at bytes i v in
    refused_by_sheet form (set bytes (at + i) v) (omega arith)
    ∙ ap (refused_in form) now
    ∙ sheet_changed form sheet i v (omega (arith, length-drop at bytes)) (sym (refused_by_sheet form bytes room) ∙ free) here (λ e. other (e ∙ get_or-drop at bytes i 0))
