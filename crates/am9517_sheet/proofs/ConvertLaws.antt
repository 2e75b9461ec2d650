-- Accepted and refused calls of converting.
use Prim.Native.Nat.{ℕ, ◌-◌, ◌≤◌}
use mathlib.Core.Path.{◌≡◌, refl, sym, ap, ◌∙◌}
use mathlib.Core.Bool.{Bool, true, false, ◌||◌}
use mathlib.Core.List.{List}
use native.Mathlib.Omega.{arith}
use lib.Dec.{eqb, ltb}
use lib.ListN.{length}
use borrow.Author.Tests.{eqb-true, ltb-false, le-ltb, ne_eqb}
use Rattle.words.specs.Choice.{when}
use Rattle.words.specs.Grounds.{first}
use Rattle.am9517.specs.Refusals.{numbered, unless, refusal}
use Rattle.am9517.specs.declared.Controller.{Controller}
use Rattle.am9517.specs.declared.refusals.Refusal.{Refusal}
use Rattle.am9517.specs.declared.refusals.Refusal.TheVariants.{Slice, NoPlace}
use Rattle.am9517_sheet.specs.declared.forms.Form.{Form}
use Rattle.am9517_sheet.specs.Bytes.{placed}
use Rattle.am9517_sheet.specs.Form.{sheet_size}
use Rattle.am9517_sheet.specs.Body.{exceeds}
use Rattle.am9517_sheet.specs.Sheet.{told_in, sheet_of, sheet_refusal_number, Stored, stored, sheet_faults}
use Rattle.am9517_sheet.specs.Convert.{convert_grounds, rewritten}
use Rattle.words.proofs.ChoiceLaws.{never}
use Rattle.am9517.proofs.ResultLaws as result
use Rattle.words.proofs.GroundLaws.{passed, first_else}
use Rattle.std.proofs.Common.{Result, Ok, Err}
use Rattle.am9517_sheet.proofs.SheetLaws.{grounds_put, put_done, put_refused}

-- neither of two is short
neither : (a b : Bool) → a || b ≡ false → (a ≡ false) × (b ≡ false)
neither false b e = (refl, e)
neither true b e = never e

pub both_fit : (a m b n : ℕ) → ltb a m || ltb b n ≡ false → (m ≤ a) × (n ≤ b)
both_fit a m b n e = let each = neither _ _ e in (ltb-false _ _ each.0, ltb-false _ _ each.1)

module _ (from to : Form) (source : List ℕ) where
  abbrev faults : ℕ
  faults = refusal (sheet_faults from source)

  abbrev over : Bool
  over = exceeds to (told_in from source)

  -- behind 9: a fault of the sheet, then 15
  behind : first (sheet_faults from source) (when over 15 0) ≡ when (eqb faults 0) (when over 15 0) faults
  unfolding refusal
  behind = first_else (sheet_faults from source) (omega arith, (omega arith, (omega arith, (omega arith, (omega arith, tt))))) _

  pub convert_short : (n : ℕ) → ltb (length source) (sheet_size from) || ltb n (sheet_size to) ≡ true → refusal (convert_grounds from to source n) ≡ 9
  unfolding refusal first when
  convert_short n e = rw e

  module _ (n : ℕ) (here : sheet_size from ≤ length source) (there : sheet_size to ≤ n) where
    with_room_lem : refusal (convert_grounds from to source n) ≡ when (eqb faults 0) (when over 15 0) faults
    unfolding refusal first when
    with_room_lem = rw (le-ltb _ _ here, le-ltb _ _ there) behind

    pub convert_fault : ¬ (faults ≡ 0) → refusal (convert_grounds from to source n) ≡ faults
    unfolding when
    convert_fault h = with_room_lem ∙ rw (ne_eqb faults 0 h)

    pub convert_over : faults ≡ 0 → over ≡ true → refusal (convert_grounds from to source n) ≡ 15
    unfolding when
    convert_over e o = with_room_lem ∙ rw (e, o)

    pub convert_free : faults ≡ 0 → over ≡ false → refusal (convert_grounds from to source n) ≡ 0
    unfolding when
    convert_free e o = with_room_lem ∙ rw (e, o)

  -- what an accepted call was given
  pub record Converted (n : ℕ) : Type 0 where
    pub here : sheet_size from ≤ length source
    pub there : sheet_size to ≤ n
    pub fine : refusal (sheet_faults from source) ≡ 0
    pub within : exceeds to (told_in from source) ≡ false

  no_fault : when (eqb faults 0) (when over 15 0) faults ≡ 0 → faults ≡ 0
  unfolding when
  no_fault = go (eqb faults 0) refl
    where
      go : (t : Bool) → eqb faults 0 ≡ t → when t (when over 15 0) faults ≡ 0 → faults ≡ 0
      go true e z = eqb-true _ _ e
      go false e z = z

  not_over : faults ≡ 0 → when (eqb faults 0) (when over 15 0) faults ≡ 0 → over ≡ false
  unfolding when
  not_over z e = (passed over 15 0 (omega arith) (rw z at e)).test

  pub convert_given : (n : ℕ) → refusal (convert_grounds from to source n) ≡ 0 → Converted n
  unfolding refusal first
  convert_given n e =
      let short = passed _ _ _ (omega arith) e in
      let sizes = both_fit _ _ _ _ short.test in
      let rest = sym behind ∙ short.next in
      let fine = no_fault rest in
      record {
        here = sizes.0;
        there = sizes.1;
        fine = fine;
        within = not_over fine rest;
      }

  pub convert_too : (out : List ℕ) (w : Stored) → w ≡ rewritten from to source out
      → (w ≡ rewritten from to source out) × (sheet_refusal_number w.answer ≡ refusal (convert_grounds from to source (length out)))
  convert_too out w e = grounds_put (convert_grounds from to source (length out)) refl to (told_in from source) out w e

  -- what is given: a refusal's number and the target as it was, or the sheet in its other form
  module _ (out : List ℕ) (no : ℕ) (e : refusal (convert_grounds from to source (length out)) ≡ no) where
    pub convert_refused : ¬ (no ≡ 0) → rewritten from to source out ≡ stored (Err (numbered no)) out
    convert_refused h = put_refused _ to (told_in from source) out no e h

    pub convert_done : no ≡ 0 → rewritten from to source out ≡ stored (Ok tt) (placed out (length out - sheet_size to) (sheet_of to (told_in from source)))
    convert_done z = put_done _ to (told_in from source) out (e ∙ z)

  -- so it is by what was asked and found
  module _ (out : List ℕ) where
    abbrev short : Bool
    short = ltb (length source) (sheet_size from) || ltb (length out) (sheet_size to)

    abbrev there : Result Controller Refusal
    there = unless faults (told_in from source)

    pub by_size : short ≡ true → stored (Err Slice) out ≡ rewritten from to source out
    unfolding numbered when
    by_size e = sym (convert_refused out 9 (convert_short (length out) e) (λ z. omega arith))

    module _ (fits : short ≡ false) where
      pub by_fault : (r : Refusal) → Err r ≡ there → stored (Err r) out ≡ rewritten from to source out
      by_fault r e =
          let f = both_fit _ _ _ _ fits in
          let d = result.denied _ _ r e in
          sym (convert_refused out faults (convert_fault (length out) f.0 f.1 d.0) d.0 ∙ ap (λ (x : Refusal). stored (Err x) out) (sym d.1))

      module _ (c : Controller) (e : Ok c ≡ there) where
        pub by_place : exceeds to c ≡ true → stored (Err NoPlace) out ≡ rewritten from to source out
        unfolding numbered when
        by_place o =
            let f = both_fit _ _ _ _ fits in
            let g = result.given _ _ c e in
            sym (convert_refused out 15 (convert_over (length out) f.0 f.1 g.0 (ap (exceeds to) (sym g.1) ∙ o)) (λ z. omega arith))

        pub converted : exceeds to c ≡ false → stored (Ok tt) (placed out (length out - sheet_size to) (sheet_of to c)) ≡ rewritten from to source out
        converted o =
            let f = both_fit _ _ _ _ fits in
            let g = result.given _ _ c e in
            sym (convert_done out 0 (convert_free (length out) f.0 f.1 g.0 (ap (exceeds to) (sym g.1) ∙ o)) refl
            ∙ ap (λ (x : Controller). stored (Ok tt) (placed out (length out - sheet_size to) (sheet_of to x))) (sym g.1))
