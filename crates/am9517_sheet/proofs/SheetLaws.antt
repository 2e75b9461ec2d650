-- Accepted calls of sheet writing and sheet reading: what they give, and when they are accepted.
use Prim.Native.Nat.{ℕ, ◌+◌, ◌-◌, ◌≤◌}
use mathlib.Core.Path.{◌≡◌, refl, sym, ap, ◌∙◌}
use mathlib.Core.Bool.{true, false, not}
use mathlib.Core.List.{List, [], ◌∷◌}
use native.Mathlib.Omega.{arith}
use lib.Dec.{eqb}
use lib.ListN.{length, length-append}
use borrow.Author.Tests.{not-false, ltb-false, le-ltb, ne_eqb}
use Rattle.words.specs.Choice.{when}
use Rattle.words.specs.Grounds.{Ground, ◌if◌, first}
use Rattle.am9517.specs.Ranges.{valid}
use Rattle.am9517.specs.Refusals.{numbered, unless, refusal}
use Rattle.am9517.specs.declared.refusals.Refusal.{Refusal}
use Rattle.am9517.specs.declared.refusals.Refusal.TheVariants.{StoredRange}
use Rattle.am9517.specs.declared.Controller.{Controller}
use Rattle.am9517_sheet.specs.declared.SheetRead.{SheetRead}
use Rattle.am9517_sheet.specs.declared.forms.Form.{Form}
use Rattle.am9517_sheet.specs.Bytes.{placed}
use Rattle.am9517_sheet.specs.Form.{sheet_size}
use Rattle.am9517_sheet.specs.Body.{body_of, exceeds, state_of}
use Rattle.am9517_sheet.specs.Trailer.{trailer_of, trailer_grounds}
use Rattle.am9517_sheet.specs.Sheet.{sheet_in, told_in, sheet_of, sheet_refusal_number, answer_of, Stored, stored, put_unless, sheet_write_grounds, sheet_write_of, sheet_faults, sheet_read_grounds, sheet_read_of}
use Rattle.words.proofs.GroundLaws.{passed}
use Rattle.std.proofs.Common.{Result, Ok, Err}
use Rattle.am9517.proofs.RefusalLaws.{named, few, told_by}
use Rattle.am9517.proofs.ResultLaws as result
use Rattle.am9517_sheet.proofs.TrailerLaws.{trailer_accepted, trailer_told}
use Rattle.am9517_sheet.proofs.BodyLaws.{body_length, state_of_body}

-- the answer says the refusal's own number
pub number_said : (n : ℕ) → n ≤ 15 → sheet_refusal_number (answer_of n) ≡ n
unfolding answer_of
number_said n l = told_by n tt (eqb n 0) refl l

-- and the one that these grounds give
pub grounds_said : (gs : List (Ground ℕ)) → named gs ≡ true → sheet_refusal_number (answer_of (refusal gs)) ≡ refusal gs
grounds_said gs h = number_said (refusal gs) (few gs h)

-- and where it is done nothing refuses
pub none_refuses : (n : ℕ) → answer_of n ≡ Ok tt → n ≡ 0
unfolding answer_of
none_refuses n done = (result.given n tt tt (sym done)).0

-- what gives what a definition gives says that definition's number, too
pub put_too : (n : ℕ) → n ≤ 15 → (form : Form) (s : Controller) (out : List ℕ) (w : Stored) → w ≡ put_unless n form s out
    → (w ≡ put_unless n form s out) × (sheet_refusal_number w.answer ≡ n)
put_too n l form s out w e = (e, ap (λ (v : Stored). sheet_refusal_number v.answer) e ∙ number_said n l)

pub grounds_put : (gs : List (Ground ℕ)) → named gs ≡ true → (form : Form) (s : Controller) (out : List ℕ) (w : Stored) → w ≡ put_unless (refusal gs) form s out
    → (w ≡ put_unless (refusal gs) form s out) × (sheet_refusal_number w.answer ≡ refusal gs)
grounds_put gs h form s out w e = put_too (refusal gs) (few gs h) form s out w e

-- and what is left: the sheet at the slice's end, or the slice as it was
module _ (n : ℕ) (form : Form) (s : Controller) (out : List ℕ) where
  pub put_done : n ≡ 0 → put_unless n form s out ≡ stored (Ok tt) (placed out (length out - sheet_size form) (sheet_of form s))
  unfolding answer_of when
  put_done e = simp e

  pub put_refused : (k : ℕ) → n ≡ k → ¬ (k ≡ 0) → put_unless n form s out ≡ stored (Err (numbered k)) out
  unfolding answer_of when
  put_refused k e h = simp (e, ne_eqb k 0 h)

pub write_too : (form : Form) (s : Controller) (out : List ℕ) (w : Stored) → w ≡ sheet_write_of form s out
    → (w ≡ sheet_write_of form s out) × (sheet_refusal_number w.answer ≡ refusal (sheet_write_grounds form s (length out)))
write_too form s out w e = grounds_put (sheet_write_grounds form s (length out)) refl form s out w e

pub read_too : (form : Form) (s : Controller) (bytes : List ℕ) (r : SheetRead) → r ≡ sheet_read_of form s bytes
    → (r ≡ sheet_read_of form s bytes) × (sheet_refusal_number r.answer ≡ refusal (sheet_read_grounds form bytes))
read_too form s bytes r e = (e, ap (λ (x : SheetRead). sheet_refusal_number x.answer) e ∙ grounds_said (sheet_read_grounds form bytes) refl)

module _ (form : Form) where
  pub sheet_length : (s : Controller) → length (sheet_of form s) ≡ sheet_size form
  sheet_length s = length-append (body_of form s) (trailer_of form (body_of form s)) ∙ ap (λ (n : ℕ). n + 8) (body_length form s)

  -- an accepted write: what it stores, and when it is one
  pub write_done : (s : Controller) (out : List ℕ) → refusal (sheet_write_grounds form s (length out)) ≡ 0
      → sheet_write_of form s out ≡ stored (Ok tt) (placed out (length out - sheet_size form) (sheet_of form s))
  write_done s out e = put_done _ form s out e

  module _ (s : Controller) (n : ℕ) where
    pub write_free : valid s ≡ true → sheet_size form ≤ n → exceeds form s ≡ false → refusal (sheet_write_grounds form s n) ≡ 0
    unfolding refusal first when
    write_free v h e = simp (v, le-ltb _ _ h, e)

    pub write_valid : refusal (sheet_write_grounds form s n) ≡ 0 → valid s ≡ true
    unfolding refusal first
    write_valid e = not-false _ (passed _ _ _ (omega arith) e).test

    pub write_room : refusal (sheet_write_grounds form s n) ≡ 0 → sheet_size form ≤ n
    unfolding refusal first
    write_room e = ltb-false _ _ (passed _ _ _ (omega arith) (passed _ _ _ (omega arith) e).next).test

    pub write_within : refusal (sheet_write_grounds form s n) ≡ 0 → exceeds form s ≡ false
    unfolding refusal first
    write_within e = (passed _ _ _ (omega arith) (passed _ _ _ (omega arith) (passed _ _ _ (omega arith) e).next).next).test

  module _ (bytes : List ℕ) where
    -- a read: what it tells, or the number that refuses it
    pub read_done : (t : Controller) → refusal (sheet_read_grounds form bytes) ≡ 0
        → sheet_read_of form t bytes ≡ record { controller = state_of form (sheet_in form bytes); answer = Ok tt }
    unfolding answer_of when
    read_done t e = simp e

    pub read_refused : (t : Controller) (n : ℕ) → refusal (sheet_read_grounds form bytes) ≡ n → ¬ (n ≡ 0) → sheet_read_of form t bytes ≡ record { controller = t; answer = Err (numbered n) }
    unfolding answer_of when
    read_refused t n e h = simp (e, ne_eqb n 0 h)

    pub read_valid : refusal (sheet_read_grounds form bytes) ≡ 0 → valid (state_of form (sheet_in form bytes)) ≡ true
    unfolding refusal first
    read_valid e =
        let nine = passed _ _ _ (omega arith) e in
        let told = trailer_told form (sheet_in form bytes) _ nine.next in
        not-false _ (passed _ _ _ (omega arith) told.rest).test

    pub read_room : refusal (sheet_read_grounds form bytes) ≡ 0 → sheet_size form ≤ length bytes
    unfolding refusal first
    read_room e = ltb-false _ _ (passed _ _ _ (omega arith) e).test

  -- what is refused of the sheet's bytes themselves
  abbrev pub refused_in : List ℕ → ℕ
  refused_in sheet = first (trailer_grounds form sheet) (when (not (valid (state_of form sheet))) 14 0)

  pub faults_in : (bytes : List ℕ) → refusal (sheet_faults form bytes) ≡ refused_in (sheet_in form bytes)
  unfolding refusal first when
  faults_in bytes = refl

  -- a slice with room for a sheet is refused by what the sheet says
  pub refused_by_sheet : (bytes : List ℕ) → sheet_size form ≤ length bytes
      → refusal (sheet_read_grounds form bytes) ≡ refused_in (sheet_in form bytes)
  unfolding refusal first when
  refused_by_sheet bytes h = rw (le-ltb _ _ h)

  pub read_faults : (bytes : List ℕ) → sheet_size form ≤ length bytes → refusal (sheet_read_grounds form bytes) ≡ refusal (sheet_faults form bytes)
  read_faults bytes room = refused_by_sheet bytes room ∙ sym (faults_in bytes)

  -- what is found in a slice with room: a fault of the trailer, a state out of its ranges, or the state
  module _ (bytes : List ℕ) where
    abbrev there : Result Controller Refusal
    there = unless (refusal (sheet_faults form bytes)) (told_in form bytes)

    behind : refusal (trailer_grounds form (sheet_in form bytes)) ≡ 0 → refusal (sheet_faults form bytes) ≡ when (not (valid (told_in form bytes))) 14 0
    unfolding refusal first when
    behind z = result.front_passed (trailer_grounds form (sheet_in form bytes)) (14 if not (valid (told_in form bytes)) ∷ []) (omega arith, (omega arith, (omega arith, (omega arith, tt)))) z

    pub trailer_bad : (r : Refusal) → Err r ≡ answer_of (refusal (trailer_grounds form (sheet_in form bytes))) → Err r ≡ there
    unfolding answer_of
    trailer_bad r e =
        let d = result.denied _ tt r e in
        let f = result.front_refused (trailer_grounds form (sheet_in form bytes)) (14 if not (valid (told_in form bytes)) ∷ []) (omega arith, (omega arith, (omega arith, (omega arith, tt)))) d.0 in
        sym (result.refused_by _ _ (λ z. d.0 (sym f ∙ z)) ∙ ap (λ (n : ℕ). Err (numbered n)) f ∙ ap Err (sym d.1))

    module _ (c : Controller) (fine : Ok tt ≡ answer_of (refusal (trailer_grounds form (sheet_in form bytes)))) (is : c ≡ told_in form bytes) where
      pub state_bad : valid c ≡ false → Err StoredRange ≡ there
      unfolding answer_of numbered when
      state_bad v = let z = (result.given _ tt tt fine).0 in rw (behind z, ← is, v) refl

      pub state_good : valid c ≡ true → Ok c ≡ there
      unfolding answer_of when
      state_good v = let z = (result.given _ tt tt fine).0 in rw (behind z, ← is, v) refl

    -- so what is found there is what a read gives
    module _ (room : sheet_size form ≤ length bytes) (s : Controller) where
      pub read_given : (c : Controller) → Ok c ≡ there → record { controller = c; answer = Ok tt } ≡ sheet_read_of form s bytes
      read_given c e =
          let g = result.given _ _ c e in
          sym (read_done bytes s (read_faults bytes room ∙ g.0) ∙ ap (λ (x : Controller). record { controller = x; answer = Ok tt }) (sym g.1))

      pub read_denied : (r : Refusal) → Err r ≡ there → record { controller = s; answer = Err r } ≡ sheet_read_of form s bytes
      read_denied r e =
          let d = result.denied _ _ r e in
          sym (read_refused bytes s _ (read_faults bytes room) d.0 ∙ ap (λ (x : Refusal). record { controller = s; answer = Err x }) (sym d.1))

  -- the sheet of a state in its ranges, of which all has a place in the form, is accepted
  pub sheet_accepted : (s : Controller) → length s.channels ≡ 4 → exceeds form s ≡ false → valid s ≡ true → refused_in (sheet_of form s) ≡ 0
  unfolding when
  sheet_accepted s h e v =
      rw (state_of_body form s (trailer_of form (body_of form s)) h e, v) (trailer_accepted form (body_of form s) 0 (body_length form s))
